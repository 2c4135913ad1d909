use Rattle.geometry_forms.proofs.Adjugates.{minor_held, det_held}
use Rattle.geometry_forms.proofs.laws.determinants_of_forms_hold.Goals as goal

pub returns-clause-minor : goal.returns-clause-minor
returns-clause-minor c h d f x t v p q j k = minor_held f x t v p q j k

pub returns-clause-determinant : goal.returns-clause-determinant
returns-clause-determinant c h d f x t v = det_held f x t v
