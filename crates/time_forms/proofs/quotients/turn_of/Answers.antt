use Rattle.std.proofs.Common.{arith, rules, ap, ap₂, ◌∙◌, ◌^◌, ℤ, pos, ◌-ℤ◌, ◌*ℤ◌, ◌≡◌}
use Rattle.std.proofs.lemmas.Int.{ints}
use mir.Syntax.{w128}
use mir.Val.{SFits}
use lib.Dec.{lit≤}
use Rattle.whole_numbers.specs.Rounding.{floor_of}
use Rattle.whole_numbers.proofs.Casts.{plain}
use Rattle.time_forms.specs.Programs.{IsNumberWithin}
use Rattle.time_forms.proofs.Bits.{difference-plain, wider_bits}
use Rattle.time_forms.proofs.quotients.turn_of.Goals as goal

close : (u t p : ℤ) → u ≡ t *ℤ pos (2 ^ 38) → IsNumberWithin t (2 ^ 58) → IsNumberWithin p (2 ^ 118) → IsNumberWithin (u -ℤ p) (2 ^ 119)
close u t p e i j = let il = i.low in let ih = i.high in let jl = j.low in let jh = j.high in record { low = omega (arith, ints); high = omega (arith, ints) }

pub shifted-requires : goal.shifted-requires
shifted-requires c = record {
  small = rw (difference-plain c.in_units.result c.short_product.result c.in_units.ensures.small (wider_bits (2 ^ 118) (2 ^ 124) (lit≤ tt) c.short_product.ensures.small))
      (close c.in_units.result c.args.turning c.short_product.result (c.in_units.ensures.value ∙ ap (λ z. z *ℤ pos (2 ^ 38)) (plain c.ranges.turning)) c.requires.turning_small c.short_product.ensures.small);
}

pub returns : goal.returns
returns c =
    let r : SFits w128 c.shifted.result = search rules in
    plain r ∙ c.shifted.ensures.value ∙ ap (λ z. floor_of z (2 ^ 38))
    (difference-plain c.in_units.result c.short_product.result c.in_units.ensures.small (wider_bits (2 ^ 118) (2 ^ 124) (lit≤ tt) c.short_product.ensures.small)
    ∙ ap₂ ◌-ℤ◌ (c.in_units.ensures.value ∙ ap (λ z. z *ℤ pos (2 ^ 38)) (plain c.ranges.turning)) (c.short_product.ensures.value ∙ ap₂ ◌*ℤ◌ (plain c.ranges.centre) (plain c.ranges.other)))
