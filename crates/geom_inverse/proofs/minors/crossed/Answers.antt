use Rattle.std.proofs.Common.{ap, ap₂, subst, sym, ◌∙◌, ◌+◌, ◌^◌}
use Rattle.fix_interval.specs.Ends.{Ends, IsInside}
use Rattle.fix_interval.specs.Sums.{sub_of}
use Rattle.fix_interval.specs.Products.{narrow76_of}
use Rattle.fix_interval.specs.Ranges.{around}
use Rattle.geom_laws.specs.Determinant.{crossed_of}
use Rattle.geom_laws.proofs.Bounds.{crossed_within}
use Rattle.geom_inverse.proofs.Spans.{short_inside, inside_short}
use Rattle.geom_inverse.proofs.minors.crossed.Goals as goal

pub returns-clause-exact : goal.returns-clause-exact
unfolding crossed_of
returns-clause-exact c = c.narrowed.ensures ∙ ap narrow76_of (c.less.ensures.exact ∙ ap₂ sub_of c.small_product.ensures.exact c.small_product-2.ensures.exact)

pub returns-clause-small : goal.returns-clause-small
returns-clause-small c = inside_short (subst (λ (t : Ends). IsInside t (around (2 ^ 49 + 2 ^ 16))) (sym (returns-clause-exact c))
    (crossed_within (short_inside c.requires.a_small) (short_inside c.requires.b_small) (short_inside c.requires.c_small) (short_inside c.requires.d_small)))
