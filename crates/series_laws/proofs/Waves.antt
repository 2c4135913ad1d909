-- How slowly the model's sine moves: on one quarter by the series, and across quarters by the jump where two meet.
use Rattle.std.specs.Prelude.{◌≡◌, ℕ, zero, suc, pos, ◌+◌, ◌*◌, ◌^◌, ◌≤◌, refl, [], ◌∷◌}
use Rattle.std.proofs.Common.{arith}
use lib.Dec.{lit≤}
use Rattle.fractions.specs.Fraction.{Fraction, ratio, zeroᶠ, oneᶠ, ◌+ᶠ◌, ◌-ᶠ◌, ◌*ᶠ◌, neg, abs, ◌≤ᶠ◌, IsNear}
use Rattle.fractions.proofs.AbsoluteValues.{by_sign, not_negative_abs}
use Rattle.fractions.proofs.Certificates.{at_most, not_negative, constants}
use Rattle.fractions.proofs.Laws.{≤ᶠ_refl, ≤ᶠ_trans, +ᶠ_mono, *ᶠ_mono}
use Rattle.fractions.proofs.Near.{near_trans, near_weaken, near_times}
use Rattle.fractions.proofs.Quote.{quote}
use Rattle.fractions.proofs.Ratios.{not_negative_ratio, ratio_anti}
use Rattle.raim_model.specs.Series.{sine_series, cosine_series, sine_remainder, cosine_remainder}
use Rattle.series_laws.proofs.Bracket.{square_unit, small_square, rest_mono, most_unit, sine_remainder-is, cosine_remainder-is}
use Rattle.series_laws.proofs.Nest.{nest, rest, IsUnit, nest_unit, rest_unit, rest_falls, nest_near, cosine_series-nest, sine_series-nest}

-- ---- ten terms
abbrev pub ten_sine : Fraction → Fraction
ten_sine x = x *ᶠ nest (x *ᶠ x) 1 10

abbrev pub ten_cosine : Fraction → Fraction
ten_cosine x = nest (x *ᶠ x) 0 10

abbrev pub tiny : Fraction
tiny = ratio (pos 1) (2 ^ 60)

sine_size : ratio (pos 4) 5 *ᶠ rest (ratio (pos 16) 25) 1 10 +ᶠ ratio (pos 4) 5 *ᶠ rest (ratio (pos 16) 25) 1 10 ≤ᶠ tiny
sine_size = constants (search quote depth 80) tt

cosine_size : rest (ratio (pos 16) 25) 0 10 +ᶠ rest (ratio (pos 16) 25) 0 10 ≤ᶠ tiny
cosine_size = constants (search quote depth 80) tt

pub sine_ten : (N : ℕ) (x s : Fraction) → 10 ≤ N → abs x ≤ᶠ ratio (pos 4) 5 → IsNear s (sine_series N x) (sine_remainder N x) → IsNear s (ten_sine x) tiny
sine_ten N x s hN hx p =
    let u : IsUnit (x *ᶠ x) = square_unit x hx in
    let a : abs x *ᶠ rest (x *ᶠ x) 1 10 ≤ᶠ ratio (pos 4) 5 *ᶠ rest (ratio (pos 16) 25) 1 10 =
    *ᶠ_mono (not_negative_ratio 4 5) (rest_unit (x *ᶠ x) 1 10 u).low hx (rest_mono (x *ᶠ x) (ratio (pos 16) 25) 1 10 u.low (small_square x hx) most_unit) in
    let b : abs x *ᶠ rest (x *ᶠ x) 1 N ≤ᶠ abs x *ᶠ rest (x *ᶠ x) 1 10 =
    *ᶠ_mono (not_negative_abs x) (rest_unit (x *ᶠ x) 1 N u).low (≤ᶠ_refl (abs x)) (rest_falls (x *ᶠ x) 1 10 N u hN) in
    let q : IsNear s (x *ᶠ nest (x *ᶠ x) 1 N) (abs x *ᶠ rest (x *ᶠ x) 1 N) = rw (sine_series-nest N x, sine_remainder-is N x) at p in
    near_weaken (≤ᶠ_trans (+ᶠ_mono (≤ᶠ_trans b a) a) sine_size) (near_trans q (near_times x (nest_near (x *ᶠ x) 1 10 N u hN)))

pub cosine_ten : (N : ℕ) (x c : Fraction) → 10 ≤ N → abs x ≤ᶠ ratio (pos 4) 5 → IsNear c (cosine_series N x) (cosine_remainder N x) → IsNear c (ten_cosine x) tiny
cosine_ten N x c hN hx p =
    let u : IsUnit (x *ᶠ x) = square_unit x hx in
    let a : rest (x *ᶠ x) 0 10 ≤ᶠ rest (ratio (pos 16) 25) 0 10 = rest_mono (x *ᶠ x) (ratio (pos 16) 25) 0 10 u.low (small_square x hx) most_unit in
    let b : rest (x *ᶠ x) 0 N ≤ᶠ rest (x *ᶠ x) 0 10 = rest_falls (x *ᶠ x) 0 10 N u hN in
    let q : IsNear c (nest (x *ᶠ x) 0 N) (rest (x *ᶠ x) 0 N) = rw (cosine_series-nest N x, cosine_remainder-is N x) at p in
    near_weaken (≤ᶠ_trans (+ᶠ_mono (≤ᶠ_trans b a) a) cosine_size) (near_trans q (nest_near (x *ᶠ x) 0 10 N u hN))

-- ---- how far one step moves
moves : (y z d e r a b : Fraction) → IsUnit y → zeroᶠ ≤ᶠ d → zeroᶠ ≤ᶠ e → IsNear y z d → zeroᶠ ≤ᶠ r → IsUnit b → IsNear a b e
    → IsNear (oneᶠ -ᶠ (y *ᶠ r) *ᶠ a) (oneᶠ -ᶠ (z *ᶠ r) *ᶠ b) (r *ᶠ (d +ᶠ e))
moves y z d e r a b u p pe h rl v i = record {
  low = at_most (y ∷ z ∷ d ∷ e ∷ r ∷ a ∷ b ∷ [])
      (r *ᶠ (y *ᶠ ((a +ᶠ e) -ᶠ b) +ᶠ (oneᶠ -ᶠ y) *ᶠ e +ᶠ ((y +ᶠ d) -ᶠ z) *ᶠ b +ᶠ (oneᶠ -ᶠ b) *ᶠ d))
      (search not_negative depth 10) (search quote depth 30) tt;
  high = at_most (y ∷ z ∷ d ∷ e ∷ r ∷ a ∷ b ∷ [])
      (r *ᶠ (y *ᶠ ((b +ᶠ e) -ᶠ a) +ᶠ (oneᶠ -ᶠ y) *ᶠ e +ᶠ ((z +ᶠ d) -ᶠ y) *ᶠ b +ᶠ (oneᶠ -ᶠ b) *ᶠ d))
      (search not_negative depth 10) (search quote depth 30) tt;
}

-- a first factor of at most a half: no faster than y
pub nest_slow : (y z d : Fraction) (j n : ℕ) → IsUnit y → IsUnit z → zeroᶠ ≤ᶠ d → IsNear y z d → IsNear (nest y j n) (nest z j n) d
nest_slow y z d j zero u v p h = record { low = at_most (d ∷ []) d p (search quote depth 20) tt; high = at_most (d ∷ []) d p (search quote depth 20) tt }
nest_slow y z d j (suc n) u v p h =
    near_weaken (half (ratio (pos 1) ((j + 1) * (j + 2))) (ratio_anti 2 ((j + 1) * (j + 2)) (lit≤ tt) (two j)))
    (moves y z d d (ratio (pos 1) ((j + 1) * (j + 2))) (nest y (j + 2) n) (nest z (j + 2) n) u p p h
    (not_negative_ratio 1 ((j + 1) * (j + 2))) (nest_unit z (j + 2) n v) (nest_slow y z d (j + 2) n u v p h))
  where
    two : (j : ℕ) → 2 ≤ (j + 1) * (j + 2)
    two j = omega arith

    half : (r : Fraction) → r ≤ᶠ ratio (pos 1) 2 → r *ᶠ (d +ᶠ d) ≤ᶠ d
    half r k = at_most (r ∷ d ∷ []) (d *ᶠ ((ratio (pos 1) 2 -ᶠ r) *ᶠ ratio (pos 2) 1)) (search not_negative) (search quote depth 20) tt

-- a third of it where the sine starts, and seven twelfths where the cosine does
sine_slow : (y z d : Fraction) → IsUnit y → IsUnit z → zeroᶠ ≤ᶠ d → IsNear y z d → IsNear (nest y 1 10) (nest z 1 10) (ratio (pos 1) 6 *ᶠ (d +ᶠ d))
sine_slow y z d u v p h = moves y z d d (ratio (pos 1) 6) (nest y 3 9) (nest z 3 9) u p p h (not_negative_ratio 1 6) (nest_unit z 3 9 v) (nest_slow y z d 3 9 u v p h)

cosine_slow : (y z d : Fraction) → IsUnit y → IsUnit z → zeroᶠ ≤ᶠ d → IsNear y z d → IsNear (nest y 0 10) (nest z 0 10) (ratio (pos 1) 2 *ᶠ (d +ᶠ ratio (pos 1) 12 *ᶠ (d +ᶠ d)))
cosine_slow y z d u v p h =
    let k : zeroᶠ ≤ᶠ ratio (pos 1) 12 *ᶠ (d +ᶠ d) = search (not_negative, not_negative_ratio) in
    moves y z d (ratio (pos 1) 12 *ᶠ (d +ᶠ d)) (ratio (pos 1) 2) (nest y 2 9) (nest z 2 9) u p k h (not_negative_ratio 1 2) (nest_unit z 2 9 v)
    (moves y z d d (ratio (pos 1) 12) (nest y 4 8) (nest z 4 8) u p p h (not_negative_ratio 1 12) (nest_unit z 4 8 v) (nest_slow y z d 4 8 u v p h))

-- ---- on one quarter
-- x from -4/5 to 4/5
pub record IsSmall (x : Fraction) : Type 0 where
  pub low : neg (ratio (pos 4) 5) ≤ᶠ x
  pub high : x ≤ᶠ ratio (pos 4) 5

abs_small : (x : Fraction) → IsSmall x → abs x ≤ᶠ ratio (pos 4) 5
abs_small x h =
    let low : neg (ratio (pos 4) 5) ≤ᶠ x = h.low in
    by_sign (λ t. t ≤ᶠ ratio (pos 4) 5) x (λ _. h.high) (λ _. at_most (x ∷ []) (x -ᶠ neg (ratio (pos 4) 5)) (search not_negative) (search quote depth 20) tt)

squares_near : (x z : Fraction) → IsSmall x → IsSmall z → x ≤ᶠ z → IsNear (x *ᶠ x) (z *ᶠ z) (ratio (pos 8) 5 *ᶠ (z -ᶠ x))
squares_near x z p q h =
    let pl : neg (ratio (pos 4) 5) ≤ᶠ x = p.low in
    let ph : x ≤ᶠ ratio (pos 4) 5 = p.high in
    let ql : neg (ratio (pos 4) 5) ≤ᶠ z = q.low in
    let qh : z ≤ᶠ ratio (pos 4) 5 = q.high in
    record {
      low = at_most (x ∷ z ∷ []) ((z -ᶠ x) *ᶠ ((x -ᶠ neg (ratio (pos 4) 5)) +ᶠ (z -ᶠ neg (ratio (pos 4) 5)))) (search not_negative) (search quote depth 20) tt;
      high = at_most (x ∷ z ∷ []) ((z -ᶠ x) *ᶠ ((ratio (pos 4) 5 -ᶠ x) +ᶠ (ratio (pos 4) 5 -ᶠ z))) (search not_negative) (search quote depth 20) tt;
    }

-- z b - x a = (z - x) b + x (b - a)
sine_moves : (x z d e a b : Fraction) → IsSmall x → zeroᶠ ≤ᶠ d → zeroᶠ ≤ᶠ e → x ≤ᶠ z → d ≡ z -ᶠ x → IsUnit b → IsNear a b e → IsNear (x *ᶠ a) (z *ᶠ b) ((z -ᶠ x) +ᶠ ratio (pos 4) 5 *ᶠ e)
sine_moves x z d e a b s pd pe h ed u i =
    let lo : neg (ratio (pos 4) 5) ≤ᶠ x = s.low in
    let hi : x ≤ᶠ ratio (pos 4) 5 = s.high in
    let t : IsNear (x *ᶠ a) (x *ᶠ b) (abs x *ᶠ e) = near_times x i in
    let w : IsNear (x *ᶠ a) (x *ᶠ b) (ratio (pos 4) 5 *ᶠ e) = near_weaken (*ᶠ_mono (not_negative_ratio 4 5) pe (abs_small x s) (≤ᶠ_refl e)) t in
    let v : IsNear (x *ᶠ b) (z *ᶠ b) (z -ᶠ x) = record {
      low = at_most (x ∷ z ∷ b ∷ []) ((z -ᶠ x) *ᶠ b +ᶠ (z -ᶠ x)) (search not_negative) (search quote depth 20) tt;
      high = at_most (x ∷ z ∷ b ∷ []) ((z -ᶠ x) *ᶠ (oneᶠ -ᶠ b)) (search not_negative) (search quote depth 20) tt;
    } in
    near_weaken (at_most (x ∷ z ∷ e ∷ []) zeroᶠ (≤ᶠ_refl zeroᶠ) (search quote depth 20) tt) (near_trans w v)

pub ten_sine_slow : (x z : Fraction) → IsSmall x → IsSmall z → x ≤ᶠ z → IsNear (ten_sine x) (ten_sine z) (ratio (pos 107) 75 *ᶠ (z -ᶠ x))
ten_sine_slow x z p q h =
    let d : zeroᶠ ≤ᶠ z -ᶠ x = search not_negative in
    let e : zeroᶠ ≤ᶠ ratio (pos 8) 5 *ᶠ (z -ᶠ x) = search not_negative in
    let f : zeroᶠ ≤ᶠ ratio (pos 1) 6 *ᶠ (ratio (pos 8) 5 *ᶠ (z -ᶠ x) +ᶠ ratio (pos 8) 5 *ᶠ (z -ᶠ x)) = search not_negative in
    let u = square_unit x (abs_small x p) in
    let v = square_unit z (abs_small z q) in
    near_weaken (at_most (x ∷ z ∷ []) zeroᶠ (≤ᶠ_refl zeroᶠ) (search quote depth 30) tt)
    (sine_moves x z (z -ᶠ x) _ _ _ p d f h refl (nest_unit (z *ᶠ z) 1 10 v) (sine_slow (x *ᶠ x) (z *ᶠ z) (ratio (pos 8) 5 *ᶠ (z -ᶠ x)) u v e (squares_near x z p q h)))

pub ten_cosine_slow : (x z : Fraction) → IsSmall x → IsSmall z → x ≤ᶠ z → IsNear (ten_cosine x) (ten_cosine z) (ratio (pos 107) 75 *ᶠ (z -ᶠ x))
ten_cosine_slow x z p q h =
    let e : zeroᶠ ≤ᶠ ratio (pos 8) 5 *ᶠ (z -ᶠ x) = search not_negative in
    let u = square_unit x (abs_small x p) in
    let v = square_unit z (abs_small z q) in
    near_weaken (at_most (x ∷ z ∷ []) (ratio (pos 37) 75 *ᶠ (z -ᶠ x)) (search not_negative) (search quote depth 30) tt)
    (cosine_slow (x *ᶠ x) (z *ᶠ z) (ratio (pos 8) 5 *ᶠ (z -ᶠ x)) u v e (squares_near x z p q h))
