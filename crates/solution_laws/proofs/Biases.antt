-- The bias at a place of the table, and past its end; and the square of a ratio.
use Rattle.std.specs.Prelude.{◌≡◌, ℕ, zero, suc, pos, ◌+◌, ◌-◌, ◌*◌, ◌*ℤ◌, ◌<◌, ◌≤◌, List, [], ◌∷◌, length, slice_index_or, refl}
use Rattle.std.proofs.Common.{arith, ap₂, ◌∙◌}
use Rattle.std.proofs.lemmas.Int.{ints}
use Rattle.fractions.specs.Fraction.{Fraction, ratio, whole, ◌*ᶠ◌}
use Rattle.fractions.proofs.Quote.{identity, quote}
use Rattle.fractions.proofs.Ratios.{ratio-mul, ratio-same}
use Rattle.raim_model.specs.PointVerdict.{entry_or_last}

pub at_place : (bs : List ℕ) (k d : ℕ) → k < length bs → entry_or_last bs k ≡ slice_index_or bs k d
at_place [] k d h = absurd (omega (arith, h))
at_place (b ∷ []) zero d h = refl
at_place (b ∷ []) (suc k) d h = absurd (omega (arith, h))
at_place (b ∷ c ∷ bs) zero d h = refl
at_place (b ∷ c ∷ bs) (suc k) d h = at_place (c ∷ bs) k d (omega (arith, h))

pub past_the_end : (bs : List ℕ) (last k d : ℕ) → length bs ≡ last + 1 → last ≤ k → entry_or_last bs k ≡ slice_index_or bs last d
past_the_end [] last k d e h = absurd (omega (arith, e))
past_the_end (b ∷ []) zero k d e h = refl
past_the_end (b ∷ []) (suc last) k d e h = absurd (omega (arith, e))
past_the_end (b ∷ c ∷ bs) zero k d e h = absurd (omega (arith, e))
past_the_end (b ∷ c ∷ bs) (suc last) zero d e h = absurd (omega (arith, h))
past_the_end (b ∷ c ∷ bs) (suc last) (suc k) d e h = past_the_end (c ∷ bs) last k d (omega (arith, e)) (omega (arith, h))

-- the five that the table does not count
pub after_five : (k : ℕ) → 5 + k - 5 ≡ k
after_five k = omega arith

times : (b a : ℕ) → 1 ≤ a → ratio (pos b) a *ᶠ whole (pos a) ≡ whole (pos b)
times b a h = ratio-mul (pos b) (pos a) a 1 h (omega arith) ∙ ratio-same (pos b *ℤ pos a) (pos b) (a * 1) 1 (omega (arith, h)) (omega arith) same
  where
    same : (pos b *ℤ pos a) *ℤ pos 1 ≡ pos b *ℤ pos (a * 1)
    same = omega (arith, ints)

pub square_over : (b a : ℕ) → 1 ≤ a → (ratio (pos b) a *ᶠ ratio (pos b) a) *ᶠ (whole (pos a) *ᶠ whole (pos a)) ≡ whole (pos b) *ᶠ whole (pos b)
square_over b a h = regroup (ratio (pos b) a) (whole (pos a)) ∙ ap₂ (λ x y. x *ᶠ y) (times b a h) (times b a h)
  where
    regroup : (x y : Fraction) → (x *ᶠ x) *ᶠ (y *ᶠ y) ≡ (x *ᶠ y) *ᶠ (x *ᶠ y)
    regroup x y = identity (x ∷ y ∷ []) (search quote depth 20) tt
