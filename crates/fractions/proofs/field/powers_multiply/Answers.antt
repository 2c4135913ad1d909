use Rattle.fractions.proofs.Powers.{pow-zero, pow-next, pow-+}
use Rattle.fractions.proofs.field.powers_multiply.Goals as goal

pub returns-clause-none : goal.returns-clause-none
returns-clause-none c = pow-zero

pub returns-clause-more : goal.returns-clause-more
returns-clause-more c = pow-next

pub returns-clause-sum : goal.returns-clause-sum
returns-clause-sum c = pow-+
