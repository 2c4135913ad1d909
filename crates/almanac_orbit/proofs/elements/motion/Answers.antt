use Rattle.std.proofs.Common.{ap, ◌∙◌}
use Rattle.fix_interval.specs.Intervals.{ends}
use Rattle.fix_interval.proofs.EndInsides.{is_inside}
use Rattle.orbit_laws.specs.Elements.{motion_of}
use Rattle.orbit_laws.proofs.Elements.{cube_inside}
use Rattle.almanac_orbit.proofs.elements.motion.Goals as goal

pub motion_over-requires : goal.motion_over-requires
motion_over-requires c = is_inside c.cube.result c.cube.ensures (cube_inside (ends c.args.root) c.requires)

pub returns : goal.returns
returns c = c.motion_over.ensures ∙ ap motion_of c.cube.ensures
