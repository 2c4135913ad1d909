use Rattle.std.proofs.Common.{ap₂, ◌∙◌}
use Rattle.fix_interval.specs.Sums.{add_of}
use Rattle.orbit_laws.specs.Positions.{in_plane_y_of}
use Rattle.almanac_orbit.proofs.place.in_plane_y.Goals as goal

pub returns : goal.returns
unfolding in_plane_y_of
returns c = c.add.ensures.exact ∙ ap₂ add_of c.part.ensures.exact c.part-2.ensures.exact
