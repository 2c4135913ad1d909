use Rattle.slope_forms.proofs.Lists.{detect_tells, exclude_tells}
use Rattle.slope_forms.proofs.laws.lists_of_forms_tell.Goals as goal

pub returns-clause-detection : goal.returns-clause-detection
returns-clause-detection c h d shift fs rows fk kappa t v small hk safe = detect_tells shift fs rows fk kappa t v small hk safe

pub returns-clause-exclusion : goal.returns-clause-exclusion
returns-clause-exclusion c h d shift fs rows fk fl kappa kappa_less t v small hk safe hl safe_less =
    exclude_tells shift fs rows fk fl kappa kappa_less t v small hk safe hl safe_less
