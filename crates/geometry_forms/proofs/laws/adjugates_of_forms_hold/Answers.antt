use Rattle.geometry_forms.proofs.Adjugates.{adjugate_held, alpha_held, horizontal_held, vertical_held}
use Rattle.geometry_forms.proofs.laws.adjugates_of_forms_hold.Goals as goal

pub returns-clause-adjugate : goal.returns-clause-adjugate
returns-clause-adjugate c h d f x t v = adjugate_held f x t v

pub returns-clause-share : goal.returns-clause-share
returns-clause-share c h d f x g r j t v w = alpha_held f x g r j t v w

pub returns-clause-horizontal : goal.returns-clause-horizontal
returns-clause-horizontal c h d f g a b t p q = horizontal_held f g a b t p q

pub returns-clause-vertical : goal.returns-clause-vertical
returns-clause-vertical c h d f a t p = vertical_held f a t p
