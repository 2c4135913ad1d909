use Rattle.std.proofs.Common.{rules, ap, ap₂, ◌∙◌, ◌+◌, ◌^◌, pos, ◌+ℤ◌, ◌*ℤ◌, unsigned_abs}
use mir.Syntax.{w128}
use mir.Val.{SFits}
use lib.Dec.{lit≤}
use Rattle.whole_numbers.specs.Rounding.{floor_of}
use Rattle.whole_numbers.proofs.Casts.{plain}
use Rattle.time_forms.proofs.Bits.{sum_fits, three_shares_fit, three_shares_and_fit, sum_of_three_and-plain, wider_bits}
use Rattle.time_forms.proofs.quotients.quotient_remainder.Goals as goal

pub overflow_add-result : goal.overflow_add-result
overflow_add-result c = sum_fits c.share.result c.share-2.result (wider_bits (2 ^ 124 + 1) (2 ^ 125) (lit≤ tt) c.share.ensures.small) (wider_bits (2 ^ 124 + 1) (2 ^ 125) (lit≤ tt) c.share-2.ensures.small)

pub overflow_add-result-2 : goal.overflow_add-result-2
overflow_add-result-2 c = three_shares_fit c.share.result c.share-2.result c.share-3.result c.share.ensures.small c.share-2.ensures.small c.share-3.ensures.small

pub overflow_add-result-3 : goal.overflow_add-result-3
overflow_add-result-3 c = three_shares_and_fit c.share.result c.share-2.result c.share-3.result c.share.ensures.small c.share-2.ensures.small c.share-3.ensures.small

pub returns : goal.returns
returns c =
    let u : SFits w128 c.in_units.result = search rules in
    let w : SFits w128 c.in_units-2.result = search rules in
    let p : SFits w128 c.positive_product.result = search rules in
    sum_of_three_and-plain c.share.result c.share-2.result c.share-3.result 2 (lit≤ tt) c.share.ensures.small c.share-2.ensures.small c.share-3.ensures.small
    ∙ ap (λ z. z +ℤ pos 2) (ap₂ ◌+ℤ◌ (ap₂ ◌+ℤ◌
    (c.share.ensures.value ∙ ap₂ (λ x y. floor_of x (unsigned_abs y) +ℤ pos 1) (plain u ∙ c.in_units.ensures.value ∙ ap (λ z. z *ℤ pos (2 ^ 38)) (plain c.ranges.offset)) (plain c.ranges.least))
    (c.share-2.ensures.value ∙ ap₂ (λ x y. floor_of x (unsigned_abs y) +ℤ pos 1) (plain w ∙ c.in_units-2.ensures.value ∙ ap (λ z. z *ℤ pos (2 ^ 38)) (plain c.ranges.sway)) (plain p ∙ c.positive_product.ensures.value ∙ ap₂ ◌*ℤ◌ (plain c.ranges.centre) (plain c.ranges.least))))
    (c.share-3.ensures.value ∙ ap₂ (λ x y. floor_of x (unsigned_abs y) +ℤ pos 1) (plain c.ranges.centre) (plain c.ranges.least)))
