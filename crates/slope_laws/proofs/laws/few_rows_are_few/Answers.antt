use Rattle.slope_laws.proofs.Fews.{detect_few, detect_few_only, exclude_few, exclude_few_only}
use Rattle.slope_laws.proofs.laws.few_rows_are_few.Goals as goal

pub returns-clause-detect : goal.returns-clause-detect
returns-clause-detect c test rows kappa = (detect_few_only test rows kappa, detect_few test rows kappa)

pub returns-clause-exclude : goal.returns-clause-exclude
returns-clause-exclude c test rows kappa kappa_less = (exclude_few_only test rows kappa kappa_less, exclude_few test rows kappa kappa_less)
