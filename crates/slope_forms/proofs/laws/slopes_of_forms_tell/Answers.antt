use Rattle.slope_forms.proofs.Slopes.{squared_held, slope_tells}
use Rattle.slope_forms.proofs.laws.slopes_of_forms_tell.Goals as goal

pub returns-clause-squared : goal.returns-clause-squared
returns-clause-squared c h d shift f x g r t v w = squared_held shift f x g r t v w

pub returns-clause-slope : goal.returns-clause-slope
returns-clause-slope c h d shift f x fd fe a b g r fk kappa t v ha hb w hk small row_small safe =
    slope_tells shift f x fd fe a b g r fk kappa t v ha hb w hk small row_small safe
