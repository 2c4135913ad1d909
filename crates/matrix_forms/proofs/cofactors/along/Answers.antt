use Rattle.std.proofs.Common.{arith, ap, ap₂, ◌∙◌, ◌+◌, ◌^◌}
use Rattle.time_forms.specs.Operations.{add_form, sub_form, narrow_form}
use Rattle.time_forms.specs.Programs.{wide, short_of}
use Rattle.geometry_forms.specs.Geometry.{along_form}
use Rattle.matrix_forms.proofs.Bounds.{weaken}
use Rattle.matrix_forms.proofs.Shorts.{short_is, short_some}
use Rattle.matrix_forms.proofs.cofactors.along.Goals as goal

pub add_wide-requires-clause-a_small : goal.add_wide-requires-clause-a_small
add_wide-requires-clause-a_small c =
    let two = c.sub_wide-two.ensures.small (2 ^ 119) (2 ^ 119) c.product.ensures.small c.product-2.ensures.small in
    weaken (wide c.sub_wide-two.result) (2 ^ 119 + 2 ^ 119) (2 ^ 125) (omega arith) two

pub returns-clause-exact : goal.returns-clause-exact
unfolding along_form
returns-clause-exact c =
    let two = c.sub_wide-two.ensures.exact ∙ ap₂ sub_form c.product.ensures.exact c.product-2.ensures.exact in
    let three = c.add_wide.ensures.exact ∙ ap₂ add_form two c.product-3.ensures.exact in
    short_is c.narrow.result _ (c.narrow.ensures.exact ∙ ap (λ w. short_of (narrow_form w)) three)

pub returns-clause-some : goal.returns-clause-some
unfolding along_form
returns-clause-some c =
    let two = c.sub_wide-two.ensures.exact ∙ ap₂ sub_form c.product.ensures.exact c.product-2.ensures.exact in
    let three = c.add_wide.ensures.exact ∙ ap₂ add_form two c.product-3.ensures.exact in
    short_some c.narrow.result _ (c.narrow.ensures.exact ∙ ap (λ w. short_of (narrow_form w)) three)
