use Rattle.slope_test.proofs.MarkLemmas.{unmarked_places, unmarked, none_marked}
use Rattle.slope_test.proofs.marks.Marks.none.Goals as goal

pub returns-clause-unmarked : goal.returns-clause-unmarked
returns-clause-unmarked c = unmarked 32

pub returns-clause-slopes : goal.returns-clause-slopes
returns-clause-slopes c = λ shift rows kappa i row p t. absurd (none_marked (unmarked_places 32) (unmarked 32) i t)

pub returns-clause-lists : goal.returns-clause-lists
returns-clause-lists c = λ shift rows kappa_less i p t. absurd (none_marked (unmarked_places 32) (unmarked 32) i t)
