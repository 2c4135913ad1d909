use Rattle.solution_laws.proofs.Biases.{at_place, past_the_end, after_five}
use Rattle.solution_laws.proofs.verdicts.biases_are_looked_up.Goals as goal

pub returns-clause-given : goal.returns-clause-given
returns-clause-given c limits k d h = rw (after_five k) (at_place limits.bias_mm.items k d h)

pub returns-clause-last : goal.returns-clause-last
returns-clause-last c limits last k d e h = rw (after_five k) (past_the_end limits.bias_mm.items last k d e h)
