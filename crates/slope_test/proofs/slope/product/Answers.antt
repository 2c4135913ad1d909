use Rattle.std.proofs.Common.{ap, ap₂, sym, ◌∙◌, Some}
use Rattle.fix_interval.specs.Products.{mul_wide_of}
use Rattle.slope_test.proofs.Products.{quick_product}
use Rattle.slope_test.proofs.slope.product.Goals as goal

pub returns-then-is_quick-2 : goal.returns-then-is_quick-2
returns-then-is_quick-2 c =
    ap Some (c.wide_product.ensures ∙ ap₂ mul_wide_of c.in_64_bits.ensures c.in_64_bits-then-is_quick-2.ensures)
    ∙ sym (quick_product c.args.a c.args.b (c.is_quick.ensures c.if-is_quick.true) (c.is_quick-then-is_quick.ensures c.if-is_quick-2.true))
