use Rattle.raim_model.specs.Orbit.{perifocal_x, perifocal_y}
use Rattle.solution_laws.proofs.Turns.{back_x, back_y}
use Rattle.solution_laws.proofs.laws.planes_turn_to_the_node.Goals as goal

pub returns-clause-back_x : goal.returns-clause-back_x
returns-clause-back_x c N rec t s = back_x (perifocal_x s) (perifocal_y s) s.sin_perigee s.cos_perigee

pub returns-clause-back_y : goal.returns-clause-back_y
returns-clause-back_y c N rec t s = back_y (perifocal_x s) (perifocal_y s) s.sin_perigee s.cos_perigee
