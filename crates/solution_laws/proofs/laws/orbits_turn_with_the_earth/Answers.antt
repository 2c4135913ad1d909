use Rattle.fractions.specs.Fraction.{◌*ᶠ◌}
use Rattle.raim_model.specs.Orbit.{in_plane_x, in_plane_y}
use Rattle.solution_laws.proofs.Turns.{back_x, back_y}
use Rattle.solution_laws.proofs.laws.orbits_turn_with_the_earth.Goals as goal

pub returns-clause-along : goal.returns-clause-along
returns-clause-along c N rec t s = back_x (in_plane_x s) (in_plane_y s *ᶠ s.cos_incl) s.sin_node s.cos_node

pub returns-clause-across : goal.returns-clause-across
returns-clause-across c N rec t s = back_y (in_plane_x s) (in_plane_y s *ᶠ s.cos_incl) s.sin_node s.cos_node
