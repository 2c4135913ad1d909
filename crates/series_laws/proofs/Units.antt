-- What the model admits for a sine or a cosine lies from -1 to 1.
use Rattle.std.specs.Prelude.{ℕ, zero, suc, pos, ◌≤◌, [], ◌∷◌}
use Rattle.std.proofs.Common.{arith}
use Rattle.fractions.specs.Fraction.{Fraction, ratio, zeroᶠ, oneᶠ, ◌+ᶠ◌, ◌-ᶠ◌, ◌*ᶠ◌, abs, ◌≤ᶠ◌, IsNear}
use Rattle.fractions.proofs.Certificates.{at_most, not_negative, constants}
use Rattle.fractions.proofs.Laws.{*ᶠ_zero}
use Rattle.fractions.proofs.Near.{near_trans, near_weaken, near_times}
use Rattle.fractions.proofs.Quote.{quote}
use Rattle.raim_model.specs.Series.{sine_series, cosine_series, sine_remainder, cosine_remainder}
use Rattle.series_laws.proofs.Bracket.{sine_near, fifth_unit, square_unit, cosine_remainder-is}
use Rattle.series_laws.proofs.Nest.{nest, rest, IsUnit, nest_unit, rest_unit, near_zero, cosine_series-nest, sine_series-nest}

pub sine_small : (N : ℕ) (x s : Fraction) → 7 ≤ N → abs x ≤ᶠ ratio (pos 4) 5 → IsNear s (sine_series N x) (sine_remainder N x) → IsNear s zeroᶠ oneᶠ
sine_small N x s hN hx p =
    let u : IsUnit (x *ᶠ x) = square_unit x hx in
    let a : IsNear s (x *ᶠ nest (x *ᶠ x) 1 7) fifth_unit = rw (sine_series-nest 7 x) at (sine_near N x s hN hx p) in
    let b : IsNear (x *ᶠ nest (x *ᶠ x) 1 7) zeroᶠ (abs x *ᶠ oneᶠ) = rw (*ᶠ_zero x) at (near_times x (near_zero _ (nest_unit (x *ᶠ x) 1 7 u))) in
    let f : fifth_unit ≤ᶠ ratio (pos 1) 5 = constants (search quote depth 20) tt in
    near_weaken (at_most (abs x ∷ fifth_unit ∷ []) ((ratio (pos 4) 5 -ᶠ abs x) +ᶠ (ratio (pos 1) 5 -ᶠ fifth_unit)) (search not_negative) (search quote depth 20) tt) (near_trans a b)

-- the rest of at least one step is at most the sum of as many
rest_below : (y : Fraction) (m : ℕ) → IsUnit y → rest y 2 (suc m) ≤ᶠ nest y 2 (suc m)
rest_below y m u =
    let n : IsUnit (nest y 4 m) = nest_unit y 4 m u in
    let r : IsUnit (rest y 4 m) = rest_unit y 4 m u in
    let low : zeroᶠ ≤ᶠ y = u.low in
    let high : y ≤ᶠ oneᶠ = u.high in
    at_most (y ∷ nest y 4 m ∷ rest y 4 m ∷ [])
    ((oneᶠ -ᶠ y) *ᶠ ratio (pos 2) 12 +ᶠ ratio (pos 10) 12 +ᶠ y *ᶠ ratio (pos 1) 12 *ᶠ ((oneᶠ -ᶠ nest y 4 m) +ᶠ (oneᶠ -ᶠ rest y 4 m)))
    (search not_negative) (search quote depth 20) tt

cosine_bound : (y c : Fraction) (m : ℕ) → IsUnit y → IsNear c (nest y 0 (suc (suc m))) (rest y 0 (suc (suc m))) → IsNear c zeroᶠ oneᶠ
cosine_bound y c m u p =
    let b : rest y 2 (suc m) ≤ᶠ nest y 2 (suc m) = rest_below y m u in
    let n : IsUnit (nest y 0 (suc (suc m))) = nest_unit y 0 (suc (suc m)) u in
    let r : IsUnit (rest y 0 (suc (suc m))) = rest_unit y 0 (suc (suc m)) u in
    let low : zeroᶠ ≤ᶠ y = u.low in
    record {
      low = at_most (c ∷ y ∷ nest y 2 (suc m) ∷ rest y 2 (suc m) ∷ [])
          (((nest y 0 (suc (suc m)) +ᶠ rest y 0 (suc (suc m))) -ᶠ c) +ᶠ y *ᶠ ratio (pos 1) 2 *ᶠ (nest y 2 (suc m) -ᶠ rest y 2 (suc m))) (search not_negative) (search quote depth 20) tt;
      high = at_most (c ∷ nest y 0 (suc (suc m)) ∷ rest y 0 (suc (suc m)) ∷ [])
          (((c +ᶠ rest y 0 (suc (suc m))) -ᶠ nest y 0 (suc (suc m))) +ᶠ (oneᶠ -ᶠ rest y 0 (suc (suc m))) +ᶠ nest y 0 (suc (suc m))) (search not_negative) (search quote depth 20) tt;
    }

pub cosine_small : (N : ℕ) (x c : Fraction) → 2 ≤ N → abs x ≤ᶠ ratio (pos 4) 5 → IsNear c (cosine_series N x) (cosine_remainder N x) → IsNear c zeroᶠ oneᶠ
cosine_small zero x c h hx p = absurd (omega arith)
cosine_small (suc zero) x c h hx p = absurd (omega arith)
cosine_small (suc (suc m)) x c h hx p = cosine_bound (x *ᶠ x) c m (square_unit x hx) (rw (cosine_series-nest (suc (suc m)) x, cosine_remainder-is (suc (suc m)) x) at p)
