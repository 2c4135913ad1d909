use Rattle.std.proofs.Common.{ap, ◌∙◌}
use Rattle.time_forms.specs.Operations.{narrow_form}
use Rattle.time_forms.specs.Programs.{short_of}
use Rattle.geometry_forms.specs.Geometry.{vertical_form}
use Rattle.matrix_forms.proofs.Shorts.{short_is, short_some}
use Rattle.matrix_forms.proofs.shares.vertical.Goals as goal

pub returns-clause-exact : goal.returns-clause-exact
unfolding vertical_form
returns-clause-exact c = short_is c.narrow.result _ (c.narrow.ensures.exact ∙ ap (λ w. short_of (narrow_form w)) c.product.ensures.exact)

pub returns-clause-some : goal.returns-clause-some
unfolding vertical_form
returns-clause-some c = short_some c.narrow.result _ (c.narrow.ensures.exact ∙ ap (λ w. short_of (narrow_form w)) c.product.ensures.exact)
