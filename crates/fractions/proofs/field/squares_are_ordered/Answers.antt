use Rattle.fractions.proofs.Laws.{not_negative_square, root_mono}
use Rattle.fractions.proofs.field.squares_are_ordered.Goals as goal

pub returns-clause-not_negative : goal.returns-clause-not_negative
returns-clause-not_negative c = not_negative_square

pub returns-clause-order : goal.returns-clause-order
returns-clause-order c x y n m h = root_mono n m h
