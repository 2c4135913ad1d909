use Rattle.std.proofs.Common.{◌^◌, subst, sym}
use Rattle.fix_interval.specs.Ends.{Ends, IsInside}
use Rattle.fix_interval.specs.Ranges.{around}
use Rattle.geom_inverse.proofs.Spans.{short_inside, inside_iv, product_within}
use Rattle.geom_inverse.proofs.products.product.Goals as goal

pub returns-clause-small : goal.returns-clause-small
returns-clause-small c = inside_iv (subst (λ (t : Ends). IsInside t (around (2 ^ 112))) (sym c.wide_product.ensures) (product_within (2 ^ 56) (2 ^ 56) (short_inside c.requires.a_small) (short_inside c.requires.b_small)))
