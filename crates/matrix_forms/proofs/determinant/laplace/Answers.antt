use Rattle.std.proofs.Common.{arith, ap, ap₂, ◌∙◌, ◌+◌, ◌*◌, ◌^◌}
use Rattle.time_forms.specs.Operations.{add_form, sub_form, narrow_form}
use Rattle.time_forms.specs.Programs.{wide, short_of}
use Rattle.geometry_forms.specs.Geometry.{laplace_form}
use Rattle.matrix_forms.proofs.Bounds.{weaken}
use Rattle.matrix_forms.proofs.Shorts.{short_is, short_some}
use Rattle.matrix_forms.proofs.determinant.laplace.Goals as goal

pub add_wide-three-requires-clause-a_small : goal.add_wide-three-requires-clause-a_small
add_wide-three-requires-clause-a_small c =
    let two = c.sub_wide-two.ensures.small (2 ^ 119) (2 ^ 119) c.product.ensures.small c.product-2.ensures.small in
    weaken (wide c.sub_wide-two.result) (2 ^ 119 + 2 ^ 119) (2 ^ 125) (omega arith) two

pub add_wide-four-requires-clause-a_small : goal.add_wide-four-requires-clause-a_small
add_wide-four-requires-clause-a_small c =
    let two = c.sub_wide-two.ensures.small (2 ^ 119) (2 ^ 119) c.product.ensures.small c.product-2.ensures.small in
    let three = c.add_wide-three.ensures.small (2 * 2 ^ 119) (2 ^ 119) two c.product-3.ensures.small in
    weaken (wide c.add_wide-three.result) (2 * 2 ^ 119 + 2 ^ 119) (2 ^ 125) (omega arith) three

pub sub_wide-five-requires-clause-a_small : goal.sub_wide-five-requires-clause-a_small
sub_wide-five-requires-clause-a_small c =
    let two = c.sub_wide-two.ensures.small (2 ^ 119) (2 ^ 119) c.product.ensures.small c.product-2.ensures.small in
    let three = c.add_wide-three.ensures.small (2 * 2 ^ 119) (2 ^ 119) two c.product-3.ensures.small in
    let four = c.add_wide-four.ensures.small (3 * 2 ^ 119) (2 ^ 119) three c.product-4.ensures.small in
    weaken (wide c.add_wide-four.result) (3 * 2 ^ 119 + 2 ^ 119) (2 ^ 125) (omega arith) four

pub add_wide-requires-clause-a_small : goal.add_wide-requires-clause-a_small
add_wide-requires-clause-a_small c =
    let two = c.sub_wide-two.ensures.small (2 ^ 119) (2 ^ 119) c.product.ensures.small c.product-2.ensures.small in
    let three = c.add_wide-three.ensures.small (2 * 2 ^ 119) (2 ^ 119) two c.product-3.ensures.small in
    let four = c.add_wide-four.ensures.small (3 * 2 ^ 119) (2 ^ 119) three c.product-4.ensures.small in
    let five = c.sub_wide-five.ensures.small (4 * 2 ^ 119) (2 ^ 119) four c.product-5.ensures.small in
    weaken (wide c.sub_wide-five.result) (4 * 2 ^ 119 + 2 ^ 119) (2 ^ 125) (omega arith) five

pub returns-clause-exact : goal.returns-clause-exact
unfolding laplace_form
returns-clause-exact c =
    let two = c.sub_wide-two.ensures.exact ∙ ap₂ sub_form c.product.ensures.exact c.product-2.ensures.exact in
    let three = c.add_wide-three.ensures.exact ∙ ap₂ add_form two c.product-3.ensures.exact in
    let four = c.add_wide-four.ensures.exact ∙ ap₂ add_form three c.product-4.ensures.exact in
    let five = c.sub_wide-five.ensures.exact ∙ ap₂ sub_form four c.product-5.ensures.exact in
    let six = c.add_wide.ensures.exact ∙ ap₂ add_form five c.product-6.ensures.exact in
    short_is c.narrow.result _ (c.narrow.ensures.exact ∙ ap (λ w. short_of (narrow_form w)) six)

pub returns-clause-some : goal.returns-clause-some
unfolding laplace_form
returns-clause-some c =
    let two = c.sub_wide-two.ensures.exact ∙ ap₂ sub_form c.product.ensures.exact c.product-2.ensures.exact in
    let three = c.add_wide-three.ensures.exact ∙ ap₂ add_form two c.product-3.ensures.exact in
    let four = c.add_wide-four.ensures.exact ∙ ap₂ add_form three c.product-4.ensures.exact in
    let five = c.sub_wide-five.ensures.exact ∙ ap₂ sub_form four c.product-5.ensures.exact in
    let six = c.add_wide.ensures.exact ∙ ap₂ add_form five c.product-6.ensures.exact in
    short_some c.narrow.result _ (c.narrow.ensures.exact ∙ ap (λ w. short_of (narrow_form w)) six)
