use Rattle.std.proofs.Common.{arith, ap, ap₂, sym, subst, ◌∙◌, ◌*◌, ◌^◌}
use Rattle.fix_interval.specs.Ends.{Ends, IsInside}
use Rattle.fix_interval.specs.Sums.{add_of, sub_of}
use Rattle.fix_interval.specs.Products.{narrow76_of}
use Rattle.fix_interval.specs.Ranges.{around}
use Rattle.geom_laws.specs.Adjugate.{along_of}
use Rattle.geom_laws.proofs.Bounds.{along_within}
use Rattle.geom_inverse.proofs.Spans.{iv_inside, inside_iv, iv_weaken, short_inside, less_within, plus_within}
use Rattle.geom_inverse.proofs.cofactors.without_east.Goals as goal

pub plus-requires-clause-a_small : goal.plus-requires-clause-a_small
plus-requires-clause-a_small c =
    iv_weaken (2 * 2 ^ 112) (2 ^ 125) (omega arith) (less_within (2 ^ 112) (2 ^ 112) c.less-two.ensures.exact (iv_inside c.product.ensures.small) (iv_inside c.product-2.ensures.small))

pub narrow76-requires : goal.narrow76-requires
narrow76-requires c =
    let two = less_within (2 ^ 112) (2 ^ 112) c.less-two.ensures.exact (iv_inside c.product.ensures.small) (iv_inside c.product-2.ensures.small) in
    let three = plus_within (2 * 2 ^ 112) (2 ^ 112) c.plus.ensures.exact two (iv_inside c.product-3.ensures.small) in
    iv_weaken (3 * 2 ^ 112) (2 ^ 125) (omega arith) three

pub returns-clause-exact : goal.returns-clause-exact
unfolding along_of
returns-clause-exact c =
    let two = c.less-two.ensures.exact ∙ ap₂ sub_of c.product.ensures.exact c.product-2.ensures.exact in
    c.narrow76.ensures.exact ∙ ap narrow76_of (c.plus.ensures.exact ∙ ap₂ add_of two c.product-3.ensures.exact)

pub returns-clause-small : goal.returns-clause-small
returns-clause-small c = inside_iv (subst (λ (t : Ends). IsInside t (around (13 * 2 ^ 52))) (sym (returns-clause-exact c))
    (along_within (short_inside c.args.b.n_small) (short_inside c.args.b.u_small) (short_inside c.args.b.k_small) (short_inside c.args.m.m34_small) (short_inside c.args.m.m24_small) (short_inside c.args.m.m23_small)))
