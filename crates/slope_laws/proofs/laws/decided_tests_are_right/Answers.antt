use Rattle.slope_laws.proofs.Told.{detect_reason, exclude_reason}
use Rattle.slope_laws.proofs.laws.decided_tests_are_right.Goals as goal

pub returns-clause-detect : goal.returns-clause-detect
returns-clause-detect c shift test rows kappa gs k k_less h l m = detect_reason shift test h rows kappa gs k k_less l m

pub returns-clause-exclude : goal.returns-clause-exclude
returns-clause-exclude c shift test rows kappa kappa_less gs k k_less h l m n = exclude_reason shift test h rows kappa kappa_less gs k k_less l m n
