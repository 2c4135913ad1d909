use Rattle.std.proofs.Common.{arith, rules, ap, ap₂, ◌∙◌, ◌+◌, ◌^◌, ℤ, pos, ◌+ℤ◌, FitsSigned, ◌*ℤ◌}
use Rattle.std.proofs.lemmas.Int.{ints}
use mir.Syntax.{w128}
use mir.Val.{SFits}
use lib.Dec.{lit≤}
use Rattle.whole_numbers.specs.Rounding.{floor_of}
use Rattle.whole_numbers.proofs.Casts.{plain}
use Rattle.time_forms.specs.Forms.{size}
use Rattle.time_forms.specs.Programs.{IsNumberWithin}
use Rattle.time_forms.proofs.Bits.{sum-plain, sum_and-plain, wider_bits}
use Rattle.time_forms.proofs.quotients.offset_of.Goals as goal

two_more : (y z : ℤ) → IsNumberWithin y (2 ^ 58) → IsNumberWithin z (2 ^ 82) → IsNumberWithin ((y +ℤ z) +ℤ pos 2) (2 ^ 86)
two_more y z p q = let pl = p.low in let ph = p.high in let ql = q.low in let qh = q.high in record { low = omega (arith, ints); high = omega (arith, ints) }

fits : (z : ℤ) → IsNumberWithin z (2 ^ 86) → FitsSigned w128 z
fits z p = let l = p.low in let h = p.high in omega (arith, ints)

pub overflow_add-result-2 : goal.overflow_add-result-2
overflow_add-result-2 c =
    rw (sum-plain c.args.remainder c.shifted.result (wider_bits (2 ^ 58) (2 ^ 125) (lit≤ tt) c.requires.remainder_small) (wider_bits (2 ^ 82) (2 ^ 125) (lit≤ tt) c.shifted.ensures.small))
    (fits ((c.args.remainder +ℤ c.shifted.result) +ℤ pos 2) (two_more c.args.remainder c.shifted.result c.requires.remainder_small c.shifted.ensures.small))

pub returns-clause-small : goal.returns-clause-small
returns-clause-small c =
    rw (sum_and-plain c.args.remainder c.shifted.result 2 (lit≤ tt) (wider_bits (2 ^ 58) (2 ^ 124 + 1) (lit≤ tt) c.requires.remainder_small) (wider_bits (2 ^ 82) (2 ^ 124 + 1) (lit≤ tt) c.shifted.ensures.small))
    (two_more c.args.remainder c.shifted.result c.requires.remainder_small c.shifted.ensures.small)

pub returns-clause-value : goal.returns-clause-value
returns-clause-value c =
    let r : SFits w128 c.short_product.result = search rules in
    let a : SFits w128 c.abs.result = search rules in
    sum_and-plain c.args.remainder c.shifted.result 2 (lit≤ tt) (wider_bits (2 ^ 58) (2 ^ 124 + 1) (lit≤ tt) c.requires.remainder_small) (wider_bits (2 ^ 82) (2 ^ 124 + 1) (lit≤ tt) c.shifted.ensures.small)
    ∙ ap (λ z. (c.args.remainder +ℤ z) +ℤ pos 2) (c.shifted.ensures.value ∙ ap (λ z. floor_of z (2 ^ 38))
    (plain r ∙ c.short_product.ensures.value ∙ ap₂ ◌*ℤ◌ (plain a ∙ c.abs.ensures.value ∙ ap size (plain c.ranges.centre)) (plain c.ranges.other)))
