use Rattle.std.proofs.Common.{arith, ap₂, ◌∙◌, ◌+◌, ◌^◌}
use Rattle.time_forms.specs.Operations.{add_form}
use Rattle.time_forms.specs.Programs.{wide}
use Rattle.matrix_forms.proofs.Bounds.{weaken}
use Rattle.sight_forms.specs.Sights.{products_form}
use Rattle.sight_forms.proofs.line.products.Goals as goal

pub add_wide-requires-clause-a_small : goal.add_wide-requires-clause-a_small
add_wide-requires-clause-a_small c =
    let two = c.add_wide-two.ensures.small (2 ^ 123) (2 ^ 123) c.product.ensures.small c.product-2.ensures.small in
    weaken (wide c.add_wide-two.result) (2 ^ 123 + 2 ^ 123) (2 ^ 125) (omega arith) two

pub returns : goal.returns
unfolding products_form
returns c =
    let two = c.add_wide-two.ensures.exact ∙ ap₂ add_form c.product.ensures.exact c.product-2.ensures.exact in
    c.add_wide.ensures.exact ∙ ap₂ add_form two c.product-3.ensures.exact
