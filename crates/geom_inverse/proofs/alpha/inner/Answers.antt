use Rattle.std.proofs.Common.{arith, ap, ap₂, ◌∙◌, ◌*◌, ◌^◌}
use Rattle.fix_interval.specs.Sums.{add_of}
use Rattle.fix_interval.specs.Products.{mul_wide_of, narrow76_of}
use Rattle.fix_interval.specs.Intervals.{ends_64}
use Rattle.geom_laws.specs.Adjugate.{inner_of}
use Rattle.geom_inverse.proofs.Spans.{iv_inside, iv_weaken, plus_within}
use Rattle.geom_inverse.proofs.alpha.inner.Goals as goal

pub plus-three-requires-clause-a_small : goal.plus-three-requires-clause-a_small
plus-three-requires-clause-a_small c =
    let two = plus_within (2 ^ 112) (2 ^ 112) c.plus-two.ensures.exact (iv_inside c.product.ensures.small) (iv_inside c.product-2.ensures.small) in
    iv_weaken (2 * 2 ^ 112) (2 ^ 125) (omega arith) two

pub plus-requires-clause-a_small : goal.plus-requires-clause-a_small
plus-requires-clause-a_small c =
    let two = plus_within (2 ^ 112) (2 ^ 112) c.plus-two.ensures.exact (iv_inside c.product.ensures.small) (iv_inside c.product-2.ensures.small) in
    let three = plus_within (2 * 2 ^ 112) (2 ^ 112) c.plus-three.ensures.exact two (iv_inside c.product-3.ensures.small) in
    iv_weaken (3 * 2 ^ 112) (2 ^ 125) (omega arith) three

pub narrow76-requires : goal.narrow76-requires
narrow76-requires c =
    let two = plus_within (2 ^ 112) (2 ^ 112) c.plus-two.ensures.exact (iv_inside c.product.ensures.small) (iv_inside c.product-2.ensures.small) in
    let three = plus_within (2 * 2 ^ 112) (2 ^ 112) c.plus-three.ensures.exact two (iv_inside c.product-3.ensures.small) in
    let four = plus_within (3 * 2 ^ 112) (2 ^ 112) c.plus.ensures.exact three (iv_inside c.product-4.ensures.small) in
    iv_weaken (4 * 2 ^ 112) (2 ^ 125) (omega arith) four

pub returns : goal.returns
unfolding inner_of
returns c =
    let p1 = c.product.ensures.exact ∙ ap (λ t. mul_wide_of t (ends_64 c.args.row.now.e)) c.in_64_bits.ensures in
    let p2 = c.product-2.ensures.exact ∙ ap (λ t. mul_wide_of t (ends_64 c.args.row.now.n)) c.in_64_bits-2.ensures in
    let p3 = c.product-3.ensures.exact ∙ ap (λ t. mul_wide_of t (ends_64 c.args.row.now.u)) c.in_64_bits-3.ensures in
    let p4 = c.product-4.ensures.exact ∙ ap (λ t. mul_wide_of t (ends_64 c.args.row.now.k)) c.in_64_bits-4.ensures in
    let two = c.plus-two.ensures.exact ∙ ap₂ add_of p1 p2 in
    let three = c.plus-three.ensures.exact ∙ ap₂ add_of two p3 in
    c.narrow76.ensures.exact ∙ ap narrow76_of (c.plus.ensures.exact ∙ ap₂ add_of three p4)
