use mir.Syntax.{w64}
use Rattle.std.proofs.lemmas.Int.{to_z-of_z}
use Rattle.fix_interval.specs.Intervals.{ends}
use Rattle.fix_interval.proofs.EndInsides.{is_inside}
use Rattle.almanac_orbit.proofs.Sizes.{scale_small}
use Rattle.almanac_orbit.proofs.place.motion_over.Goals as goal

pub returns-clause-small : goal.returns-clause-small
returns-clause-small c =
    let e = rw (to_z-of_z w64 c.args.k c.ranges.k, to_z-of_z w64 c.args.l c.ranges.l) at c.scale_int.ensures.exact in
    is_inside c.scale_int.result e (scale_small (ends c.args.rate) c.args.k c.args.l c.requires.rate_small c.requires.ordered c.requires.k_small c.requires.l_small)
