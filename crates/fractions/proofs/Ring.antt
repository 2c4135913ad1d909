-- The fractions as a ring for the normal forms of `whole_numbers`, where each ratio of numerals is a constant.
use Rattle.std.proofs.Common.{ℕ, ◌+◌, ◌-◌, ◌*◌, refl, sym, ap, ◌∙◌, ℤ, pos, negsuc, ◌+ℤ◌, ◌*ℤ◌}
use Rattle.whole_numbers.proofs.Ring.{Operations, IsRing}
use Rattle.whole_numbers.proofs.Quote.{is_zeroℤ, is_zeroℤ-is}
use Rattle.fractions.specs.Fraction.{Fraction, ratio, zeroᶠ, oneᶠ, ◌+ᶠ◌, ◌*ᶠ◌, neg}
use Rattle.fractions.proofs.Laws.{fractions_are_ring}
use Rattle.fractions.proofs.Ratios.{ratio-zero, ratio-add_any, ratio-mul_any, neg-ratio}

-- a ratio as it is written
pub record Constant : Type 0 where
  pub numerator : ℤ
  pub denominator : ℕ

-- the denominator that `ratio m k` has
abbrev pub denominator_of : ℕ → ℕ
denominator_of k = k + (1 - k)

-- the operations of the fractions
abbrev pub fractions : Operations Fraction Constant
fractions = record {
  zero = zeroᶠ;
  one = oneᶠ;
  add = ◌+ᶠ◌;
  mul = ◌*ᶠ◌;
  neg = neg;
  value = λ c. ratio c.numerator c.denominator;
  constant_zero = record { numerator = pos 0; denominator = 1 };
  constant_one = record { numerator = pos 1; denominator = 1 };
  constant_minus_one = record { numerator = negsuc 0; denominator = 1 };
  constant_add = λ c d. record { numerator = c.numerator *ℤ pos (denominator_of d.denominator) +ℤ d.numerator *ℤ pos (denominator_of c.denominator); denominator = denominator_of c.denominator * denominator_of d.denominator };
  constant_mul = λ c d. record { numerator = c.numerator *ℤ d.numerator; denominator = denominator_of c.denominator * denominator_of d.denominator };
  is_constant_zero = λ c. is_zeroℤ c.numerator;
}

-- the fractions are a ring of which `Ring` speaks
pub fractions_ring : IsRing fractions
fractions_ring = record {
  ring = fractions_are_ring;
  value_zero = λ c t. ap (λ m. ratio m c.denominator) (is_zeroℤ-is c.numerator t) ∙ ratio-zero c.denominator;
  constant_zero_is_zero = tt;
  value-constant_one = refl;
  value-constant_minus_one = sym (neg-ratio (pos 1) 1);
  value-constant_add = λ c d. sym (ratio-add_any c.numerator d.numerator c.denominator d.denominator);
  value-constant_mul = λ c d. sym (ratio-mul_any c.numerator d.numerator c.denominator d.denominator);
}
