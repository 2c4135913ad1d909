use Rattle.orbit_laws.specs.Elements.{semi_major_axis_of}
use Rattle.almanac_orbit.proofs.elements.semi_major_axis.Goals as goal

pub returns : goal.returns
unfolding semi_major_axis_of
returns c = c.product.ensures
