use Rattle.std.proofs.Common.{ap₂, ◌∙◌}
use Rattle.fix_interval.specs.Sums.{sub_of}
use Rattle.orbit_laws.specs.Positions.{in_plane_x_of}
use Rattle.almanac_orbit.proofs.place.in_plane_x.Goals as goal

pub returns : goal.returns
unfolding in_plane_x_of
returns c = c.sub.ensures.exact ∙ ap₂ sub_of c.part.ensures.exact c.part-2.ensures.exact
