use Rattle.slope_laws.proofs.Kept.{detect_left, exclude_left}
use Rattle.slope_laws.proofs.laws.decided_tests_stay.Goals as goal

pub returns-clause-detect : goal.returns-clause-detect
returns-clause-detect c shift test rows wide kappa wide_kappa h i k = detect_left test h rows wide kappa wide_kappa i k

pub returns-clause-exclude : goal.returns-clause-exclude
returns-clause-exclude c shift test rows wide kappa wide_kappa kappa_less wide_less h i k l = exclude_left test h rows wide kappa wide_kappa kappa_less wide_less i k l
