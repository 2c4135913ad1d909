use Rattle.std.proofs.Common.{ap, ap₂, ◌∙◌}
use Rattle.time_forms.specs.Operations.{add_form, narrow_form}
use Rattle.time_forms.specs.Programs.{short_of}
use Rattle.geometry_forms.specs.Geometry.{horizontal_form}
use Rattle.matrix_forms.proofs.Shorts.{short_is, short_some}
use Rattle.matrix_forms.proofs.shares.horizontal.Goals as goal

pub returns-clause-exact : goal.returns-clause-exact
unfolding horizontal_form
returns-clause-exact c =
    let e = c.add_wide.ensures.exact ∙ ap₂ add_form c.product.ensures.exact c.product-2.ensures.exact in
    short_is c.narrow.result _ (c.narrow.ensures.exact ∙ ap (λ w. short_of (narrow_form w)) e)

pub returns-clause-some : goal.returns-clause-some
unfolding horizontal_form
returns-clause-some c =
    let e = c.add_wide.ensures.exact ∙ ap₂ add_form c.product.ensures.exact c.product-2.ensures.exact in
    short_some c.narrow.result _ (c.narrow.ensures.exact ∙ ap (λ w. short_of (narrow_form w)) e)
