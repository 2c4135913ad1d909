use Rattle.std.proofs.Common.{ap, ◌∙◌, ◌^◌}
use mir.Syntax.{w64}
use lib.Dec.{lit≤}
use Rattle.std.proofs.lemmas.Int.{to_z-of_z}
use Rattle.fix_interval.specs.Ends.{Ends}
use Rattle.fix_interval.specs.Intervals.{ends}
use Rattle.fix_interval.specs.Products.{narrow76_of}
use Rattle.fix_interval.specs.Sums.{add_of, sub_of}
use Rattle.fix_interval.proofs.EndInsides.{is_inside, around_within}
use Rattle.almanac_orbit.proofs.Sizes.{difference_small, narrow_small, sum_small}
use Rattle.almanac_orbit.proofs.place.moved_back.Goals as goal

pub add-requires-clause-b_small : goal.add-requires-clause-b_small
add-requires-clause-b_small c =
    let d = is_inside c.sub.result c.sub.ensures.exact (difference_small (ends c.motion_over.result) (ends c.args.turned) c.motion_over.ensures.small c.requires.turned_small) in
    around_within c.narrow76.result (2 ^ 48) (2 ^ 125) (lit≤ tt) (is_inside c.narrow76.result c.narrow76.ensures.exact (narrow_small (ends c.sub.result) d))

pub returns-clause-exact : goal.returns-clause-exact
returns-clause-exact c =
    let e = rw (to_z-of_z w64 c.args.k c.ranges.k, to_z-of_z w64 c.args.l c.ranges.l) at c.motion_over.ensures.exact in
    c.add.ensures.exact ∙ ap (λ (a : Ends). add_of (ends c.args.start) a) (c.narrow76.ensures.exact ∙ ap narrow76_of (c.sub.ensures.exact ∙ ap (λ (a : Ends). sub_of a (ends c.args.turned)) e))

pub returns-clause-small : goal.returns-clause-small
returns-clause-small c =
    let d = is_inside c.sub.result c.sub.ensures.exact (difference_small (ends c.motion_over.result) (ends c.args.turned) c.motion_over.ensures.small c.requires.turned_small) in
    let n = is_inside c.narrow76.result c.narrow76.ensures.exact (narrow_small (ends c.sub.result) d) in
    around_within c.add.result (2 ^ 60) (2 ^ 60) (lit≤ tt) (is_inside c.add.result c.add.ensures.exact (sum_small (ends c.args.start) (ends c.narrow76.result) c.requires.start_small n))
