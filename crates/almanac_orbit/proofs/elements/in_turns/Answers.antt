use Rattle.orbit_laws.specs.Elements.{in_turns_of}
use Rattle.almanac_orbit.proofs.elements.in_turns.Goals as goal

pub returns : goal.returns
unfolding in_turns_of
returns c = c.scale.ensures
