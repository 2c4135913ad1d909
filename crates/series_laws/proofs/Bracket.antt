-- What the model admits at a level from 8 on is near the sum of seven terms.
use Rattle.std.specs.Prelude.{◌≡◌, ℕ, zero, suc, pos, ◌+◌, ◌*◌, ◌^◌, ◌≤◌, [], ◌∷◌}
use Rattle.std.proofs.Common.{arith, ap, ◌∙◌, subst}
use Rattle.fractions.specs.Fraction.{Fraction, ratio, zeroᶠ, oneᶠ, ◌+ᶠ◌, ◌-ᶠ◌, ◌*ᶠ◌, abs, ◌≤ᶠ◌, IsNear}
use Rattle.fractions.proofs.AbsoluteValues.{abs-square, not_negative_abs}
use Rattle.fractions.proofs.Certificates.{at_most, not_negative, constants}
use Rattle.fractions.proofs.Laws.{≤ᶠ_trans, ≤ᶠ_refl, not_negative_product, not_negative_square, *ᶠ_mono, +ᶠ_mono}
use Rattle.fractions.proofs.Near.{near_trans, near_weaken, near_times}
use Rattle.fractions.proofs.Quote.{quote}
use Rattle.fractions.proofs.Ratios.{not_negative_ratio}
use Rattle.raim_model.specs.Series.{sine_series, cosine_series, sine_remainder, cosine_remainder}
use Rattle.series_laws.proofs.Nest.{nest, rest, IsUnit, nest_near, rest_falls, rest_unit, cosine_series-nest, sine_series-nest, sine_part, cosine_part}

pub sine_remainder-is : (n : ℕ) (x : Fraction) → sine_remainder n x ≡ abs x *ᶠ rest (x *ᶠ x) 1 n
unfolding sine_remainder
sine_remainder-is n x = sine_part (abs x) n ∙ ap (λ y. abs x *ᶠ rest y 1 n) (abs-square x)

pub cosine_remainder-is : (n : ℕ) (x : Fraction) → cosine_remainder n x ≡ rest (x *ᶠ x) 0 n
unfolding cosine_remainder
cosine_remainder-is n x = cosine_part (abs x) n ∙ ap (λ y. rest y 0 n) (abs-square x)

-- the rest grows with y
pub rest_mono : (y z : Fraction) (j n : ℕ) → zeroᶠ ≤ᶠ y → y ≤ᶠ z → z ≤ᶠ oneᶠ → rest y j n ≤ᶠ rest z j n
rest_mono y z j zero n h k = ≤ᶠ_refl oneᶠ
rest_mono y z j (suc m) n h k =
    let zn : zeroᶠ ≤ᶠ z = ≤ᶠ_trans n h in
    *ᶠ_mono (not_negative_product _ _ zn (not_negative_ratio 1 ((j + 1) * (j + 2)))) (rest_unit y (j + 2) m record { low = n; high = ≤ᶠ_trans h k }).low
    (*ᶠ_mono zn (not_negative_ratio 1 ((j + 1) * (j + 2))) h (≤ᶠ_refl (ratio (pos 1) ((j + 1) * (j + 2))))) (rest_mono y z (j + 2) m n h k)

pub small_square : (x : Fraction) → abs x ≤ᶠ ratio (pos 4) 5 → x *ᶠ x ≤ᶠ ratio (pos 16) 25
small_square x h = subst (λ t. t ≤ᶠ ratio (pos 16) 25) (abs-square x) (at_most (abs x ∷ []) ((ratio (pos 4) 5 -ᶠ abs x) *ᶠ (ratio (pos 4) 5 +ᶠ abs x)) (search (not_negative, not_negative_abs)) (search quote depth 20) tt)

pub most_unit : ratio (pos 16) 25 ≤ᶠ oneᶠ
most_unit = at_most [] (ratio (pos 9) 25) (not_negative_ratio 9 25) (search quote depth 20) tt

pub square_unit : (x : Fraction) → abs x ≤ᶠ ratio (pos 4) 5 → IsUnit (x *ᶠ x)
square_unit x h = record { low = not_negative_square x; high = ≤ᶠ_trans (small_square x h) most_unit }

-- a fifth of a unit
abbrev pub fifth_unit : Fraction
fifth_unit = ratio (pos 1) (5 * 2 ^ 38)

sine_size : ratio (pos 4) 5 *ᶠ rest (ratio (pos 16) 25) 1 7 +ᶠ ratio (pos 4) 5 *ᶠ rest (ratio (pos 16) 25) 1 7 ≤ᶠ fifth_unit
sine_size = constants (search quote depth 60) tt

-- what is admitted is near seven terms, for the sine
pub sine_near : (N : ℕ) (x s : Fraction) → 7 ≤ N → abs x ≤ᶠ ratio (pos 4) 5 → IsNear s (sine_series N x) (sine_remainder N x) → IsNear s (sine_series 7 x) fifth_unit
sine_near N x s hN hx p =
    let u : IsUnit (x *ᶠ x) = square_unit x hx in
    let a : abs x *ᶠ rest (x *ᶠ x) 1 7 ≤ᶠ ratio (pos 4) 5 *ᶠ rest (ratio (pos 16) 25) 1 7 =
    *ᶠ_mono (not_negative_ratio 4 5) (rest_unit (x *ᶠ x) 1 7 u).low hx (rest_mono (x *ᶠ x) (ratio (pos 16) 25) 1 7 u.low (small_square x hx) most_unit) in
    let b : abs x *ᶠ rest (x *ᶠ x) 1 N ≤ᶠ abs x *ᶠ rest (x *ᶠ x) 1 7 =
    *ᶠ_mono (not_negative_abs x) (rest_unit (x *ᶠ x) 1 N u).low (≤ᶠ_refl (abs x)) (rest_falls (x *ᶠ x) 1 7 N u hN) in
    let q : IsNear s (x *ᶠ nest (x *ᶠ x) 1 N) (abs x *ᶠ rest (x *ᶠ x) 1 N) = rw (sine_series-nest N x, sine_remainder-is N x) at p in
    rw (sine_series-nest 7 x) (near_weaken (≤ᶠ_trans (+ᶠ_mono (≤ᶠ_trans b a) a) sine_size) (near_trans q (near_times x (nest_near (x *ᶠ x) 1 7 N u hN))))

cosine_size : rest (ratio (pos 16) 25) 0 8 +ᶠ rest (ratio (pos 16) 25) 0 7 ≤ᶠ fifth_unit
cosine_size = constants (search quote depth 60) tt

-- and for the cosine
pub cosine_near : (N : ℕ) (x c : Fraction) → 8 ≤ N → abs x ≤ᶠ ratio (pos 4) 5 → IsNear c (cosine_series N x) (cosine_remainder N x) → IsNear c (cosine_series 7 x) fifth_unit
cosine_near N x c hN hx p =
    let u : IsUnit (x *ᶠ x) = square_unit x hx in
    let a : (n : ℕ) → rest (x *ᶠ x) 0 n ≤ᶠ rest (ratio (pos 16) 25) 0 n = λ n. rest_mono (x *ᶠ x) (ratio (pos 16) 25) 0 n u.low (small_square x hx) most_unit in
    let b : rest (x *ᶠ x) 0 N ≤ᶠ rest (x *ᶠ x) 0 8 = rest_falls (x *ᶠ x) 0 8 N u hN in
    let q : IsNear c (nest (x *ᶠ x) 0 N) (rest (x *ᶠ x) 0 N) = rw (cosine_series-nest N x, cosine_remainder-is N x) at p in
    rw (cosine_series-nest 7 x) (near_weaken (≤ᶠ_trans (+ᶠ_mono (≤ᶠ_trans b (a 8)) (a 7)) cosine_size) (near_trans q (nest_near (x *ᶠ x) 0 7 N u (omega arith))))
