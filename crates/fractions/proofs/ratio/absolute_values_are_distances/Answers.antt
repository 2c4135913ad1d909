use Rattle.fractions.proofs.AbsoluteValues.{abs-at_least_zero, abs-at_most_zero}
use Rattle.fractions.proofs.Near.{near-abs, near_trans, near_times}
use Rattle.fractions.proofs.ratio.absolute_values_are_distances.Goals as goal

pub returns-clause-at_least_zero : goal.returns-clause-at_least_zero
returns-clause-at_least_zero c x h = abs-at_least_zero h

pub returns-clause-at_most_zero : goal.returns-clause-at_most_zero
returns-clause-at_most_zero c x h = abs-at_most_zero h

pub returns-clause-near : goal.returns-clause-near
returns-clause-near c = near-abs

pub returns-clause-near_through : goal.returns-clause-near_through
returns-clause-near_through c x y z d e p q = near_trans p q

pub returns-clause-near_times : goal.returns-clause-near_times
returns-clause-near_times c x a b e p = near_times x p
