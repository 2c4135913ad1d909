-- How far the written sine and cosine are from those of ten terms.
use Rattle.std.specs.Prelude.{◌≡◌, ℕ, zero, suc, ℤ, pos, negsuc, ◌+◌, ◌*◌, ◌^◌, ◌<◌, ◌≤◌, refl, ◌-ℤ◌, ◌*ℤ◌, neg_ℤ, ◌≤ℤ◌, List, [], ◌∷◌}
use Rattle.std.proofs.Common.{arith, ap, sym, ◌∙◌}
use Rattle.std.proofs.lemmas.Int.{ints}
use Rattle.std.proofs.Math.Nat.{mul-pos, mul-le-mul}
use Rattle.std.specs.Int.{int_rem_euclid}
use lib.Dec.{lit≤}
use Rattle.fractions.specs.Fraction.{Fraction, ratio, whole, zeroᶠ, oneᶠ, ◌+ᶠ◌, ◌-ᶠ◌, ◌*ᶠ◌, neg, abs, ◌≤ᶠ◌, IsNear}
use Rattle.fractions.proofs.AbsoluteValues.{not_negative_abs}
use Rattle.fractions.proofs.Certificates.{at_most, not_negative, constants}
use Rattle.fractions.proofs.Laws.{≤ᶠ_refl, ≤ᶠ_trans, not_negative_product}
use Rattle.fractions.proofs.Quote.{quote, identity}
use Rattle.fractions.proofs.Ratios.{ratio_mono, neg-ratio, not_negative_ratio, ratio_anti}
use Rattle.raim_model.specs.Constants.{tau}
use Rattle.raim_model.specs.Series.{sine_series, cosine_series, sine_remainder, cosine_remainder}
use Rattle.raim_model.specs.Sine.{quarter_of, turns_left}
use Rattle.fix_interval.specs.Ends.{Ends, IsInside}
use Rattle.fix_interval.specs.Products.{mul_of, narrow76_of, sqr_of, sqr_wide_of}
use Rattle.fix_interval.specs.Quotients.{div_int_of, scale_of}
use Rattle.fix_interval.specs.Sums.{sub_of, neg_of}
use Rattle.fix_interval.specs.Ranges.{one_ends, unit_ends, point}
use Rattle.fix_interval.specs.Pairs.{PairEnds, hull_from}
use Rattle.fix_interval.proofs.EndInsides.{inside_trans}
use Rattle.series_laws.proofs.Bracket.{square_unit, sine_near, cosine_near, sine_remainder-is, cosine_remainder-is, fifth_unit}
use Rattle.series_laws.proofs.Nest.{nest, step, IsUnit, nest_unit, rest_unit, cosine_series-nest, sine_series-nest}
use Rattle.series_laws.proofs.Slow.{wave_of, wave, near_self, near_sym, turns_are_small}
use Rattle.series_laws.proofs.Turns.{IsEighth, turns_small, radians_small}
use Rattle.series_laws.proofs.Waves.{ten_sine, ten_cosine}
use Rattle.trig_laws.specs.Quarter.{nested_of, trimmed, radians_of, sine_of, cosine_of, turn_parts, left_of, eighth_ends, radian_ends}
use Rattle.trig_laws.specs.SinCos.{turn_of, pair_at, nearest_quarter_of, sin_cos_of}
use Rattle.trig_laws.proofs.Close.{unit, IsClose, IsAtMost, close_weaken, close_near, minus, mul_close, sqr_close, scale_close, div_close, less_close, widen_close, clamp_close}
use Rattle.trig_laws.proofs.Isotones.{left_eighth, square_unit as square_inside, radians_isotone, square_isotone}
use Rattle.trig_laws.proofs.Left.{quarter_lies}
use Rattle.trig_laws.proofs.Nested.{step_unit}
use Rattle.trig_laws.proofs.Quarters.{quarter_above, quarter_below}

-- ---- the nested product
-- the divisors of n steps from j on
abbrev pub steps : ℕ → ℕ → List ℕ
steps j zero = []
steps j (suc n) = (j + 1) * (j + 2) ∷ steps (j + 2) n

step_positive : (j : ℕ) → 0 < (j + 1) * (j + 2)
step_positive j = mul-pos {m = j + 1} {n = j + 2} (omega arith) (omega arith)

nested_inside : (y : Ends) (j n : ℕ) → IsInside y unit_ends → IsInside (nested_of y (steps j n)) unit_ends
unfolding nested_of
nested_inside y j zero h = record { low = record { le = tt }; ordered = record { le = tt }; high = record { le = tt } }
nested_inside y j (suc n) h = step_unit y (nested_of y (steps (j + 2) n)) ((j + 1) * (j + 2)) (step_positive j) h (nested_inside y (j + 2) n h)

abbrev pub square_error : Fraction → Fraction
square_error X = ratio (pos 8) 5 *ᶠ X +ᶠ unit

-- one step
step_close : (y h : Ends) (Y H X f : Fraction) (k : ℕ) → 0 < k → IsAtMost y (ratio (pos 16) 25) → IsInside h unit_ends → IsUnit H → IsClose y Y (square_error X) → IsClose h H f
    → IsClose (sub_of one_ends (div_int_of (mul_of y h) k)) (oneᶠ -ᶠ ratio (pos 1) k *ᶠ (Y *ᶠ H)) (ratio (pos 1) k *ᶠ (ratio (pos 16) 25 *ᶠ f +ᶠ oneᶠ *ᶠ square_error X +ᶠ unit) +ᶠ unit)
step_close y h Y H X f k p m i u cy ch =
    let low : zeroᶠ ≤ᶠ H = u.low in
    less_close _ _ _ (div_close _ _ _ k p (mul_close y h Y H (square_error X) f (ratio (pos 16) 25) oneᶠ m i.ordered cy ch (at_most (H ∷ []) (H +ᶠ oneᶠ) (search not_negative) (search quote depth 20) tt) u.high))

abbrev pub inner_error : Fraction → Fraction
inner_error X = ratio (pos 1) 6 *ᶠ X +ᶠ ratio (pos 3) 2 *ᶠ unit

inner_shrinks : (r X : Fraction) → zeroᶠ ≤ᶠ X → r ≤ᶠ ratio (pos 1) 12 → r *ᶠ (ratio (pos 16) 25 *ᶠ inner_error X +ᶠ oneᶠ *ᶠ square_error X +ᶠ unit) +ᶠ unit ≤ᶠ inner_error X
inner_shrinks r X p h = at_most (r ∷ X ∷ [])
    ((ratio (pos 1) 12 -ᶠ r) *ᶠ ((ratio (pos 8) 75 +ᶠ ratio (pos 8) 5) *ᶠ X +ᶠ ratio (pos 74) 25 *ᶠ unit) +ᶠ (ratio (pos 1) 6 -ᶠ ratio (pos 1) 12 *ᶠ (ratio (pos 8) 75 +ᶠ ratio (pos 8) 5)) *ᶠ X +ᶠ (ratio (pos 1) 2 -ᶠ ratio (pos 74) 300) *ᶠ unit)
    (parts) (search quote depth 40 fits 30000) tt
  where
    k1 : zeroᶠ ≤ᶠ ratio (pos 1) 6 -ᶠ ratio (pos 1) 12 *ᶠ (ratio (pos 8) 75 +ᶠ ratio (pos 8) 5)
    k1 = constants (search quote depth 20) tt

    k2 : zeroᶠ ≤ᶠ ratio (pos 1) 2 -ᶠ ratio (pos 74) 300
    k2 = constants (search quote depth 20) tt

    parts : zeroᶠ ≤ᶠ (ratio (pos 1) 12 -ᶠ r) *ᶠ ((ratio (pos 8) 75 +ᶠ ratio (pos 8) 5) *ᶠ X +ᶠ ratio (pos 74) 25 *ᶠ unit) +ᶠ (ratio (pos 1) 6 -ᶠ ratio (pos 1) 12 *ᶠ (ratio (pos 8) 75 +ᶠ ratio (pos 8) 5)) *ᶠ X +ᶠ (ratio (pos 1) 2 -ᶠ ratio (pos 74) 300) *ᶠ unit
    parts = let a = k1 in let b = k2 in search not_negative depth 10

nest_step : (Y : Fraction) (j n : ℕ) → oneᶠ -ᶠ ratio (pos 1) ((j + 1) * (j + 2)) *ᶠ (Y *ᶠ nest Y (j + 2) n) ≡ nest Y j (suc n)
nest_step Y j n = identity (Y ∷ ratio (pos 1) ((j + 1) * (j + 2)) ∷ nest Y (j + 2) n ∷ []) (search quote depth 20) tt

one_close : IsClose one_ends oneᶠ zeroᶠ
one_close = record { low = constants (search quote depth 20) tt; high = constants (search quote depth 20) tt }

inner_close : (y : Ends) (Y X : Fraction) (j n : ℕ) → 2 ≤ j → zeroᶠ ≤ᶠ X → IsAtMost y (ratio (pos 16) 25) → IsInside y unit_ends → IsUnit Y → IsClose y Y (square_error X) → IsClose (nested_of y (steps j n)) (nest Y j (suc n)) (inner_error X)
unfolding nested_of
inner_close y Y X j zero h p m i u c =
    let e : oneᶠ ≡ nest Y j 1 = identity (step Y j ∷ []) (search quote depth 20) tt in
    let small : zeroᶠ ≤ᶠ inner_error X = search not_negative in
    rw (sym e) (close_weaken small one_close)
inner_close y Y X j (suc n) h p m i u c =
    let three : 3 ≤ j + 1 = omega arith in
    let four : 4 ≤ j + 2 = omega arith in
    let twelve : 12 ≤ (j + 1) * (j + 2) = omega (arith, mul-le-mul three four) in
    rw (sym (nest_step Y j (suc n))) (close_weaken (inner_shrinks (ratio (pos 1) ((j + 1) * (j + 2))) X p (ratio_anti 12 ((j + 1) * (j + 2)) (lit≤ tt) twelve))
    (step_close y (nested_of y (steps (j + 2) n)) Y (nest Y (j + 2) (suc n)) X (inner_error X) ((j + 1) * (j + 2)) (step_positive j) m (nested_inside y (j + 2) n i) (nest_unit Y (j + 2) (suc n) u) c
    (inner_close y Y X (j + 2) n (omega arith) p m i u c)))

sine_nested_close : (y : Ends) (Y X : Fraction) → zeroᶠ ≤ᶠ X → IsAtMost y (ratio (pos 16) 25) → IsInside y unit_ends → IsUnit Y → IsClose y Y (square_error X)
    → IsClose (nested_of y (6 ∷ 20 ∷ 42 ∷ 72 ∷ 110 ∷ 156 ∷ [])) (nest Y 1 7) (ratio (pos 3) 10 *ᶠ X +ᶠ ratio (pos 3) 2 *ᶠ unit)
unfolding nested_of
sine_nested_close y Y X p m i u c =
    rw (sym (nest_step Y 1 6)) (close_weaken (at_most (X ∷ []) (ratio (pos 7) 450 *ᶠ X +ᶠ ratio (pos 1) 150 *ᶠ unit) (search not_negative) (search quote depth 40) tt)
    (step_close y (nested_of y (steps 3 5)) Y (nest Y 3 6) X (inner_error X) 6 (lit≤ tt) m (nested_inside y 3 5 i) (nest_unit Y 3 6 u) c (inner_close y Y X 3 5 (lit≤ tt) p m i u c)))

cosine_nested_close : (y : Ends) (Y X : Fraction) → zeroᶠ ≤ᶠ X → IsAtMost y (ratio (pos 16) 25) → IsInside y unit_ends → IsUnit Y → IsClose y Y (square_error X)
    → IsClose (nested_of y (2 ∷ 12 ∷ 30 ∷ 56 ∷ 90 ∷ 132 ∷ [])) (nest Y 0 7) (ratio (pos 9) 10 *ᶠ X +ᶠ ratio (pos 5) 2 *ᶠ unit)
unfolding nested_of
cosine_nested_close y Y X p m i u c =
    rw (sym (nest_step Y 0 6)) (close_weaken (at_most (X ∷ []) (ratio (pos 7) 150 *ᶠ X +ᶠ ratio (pos 1) 50 *ᶠ unit) (search not_negative) (search quote depth 40) tt)
    (step_close y (nested_of y (steps 2 5)) Y (nest Y 2 6) X (inner_error X) 2 (lit≤ tt) m (nested_inside y 2 5 i) (nest_unit Y 2 6 u) c (inner_close y Y X 2 5 (lit≤ tt) p m i u c)))

-- ---- the magnitudes on a quarter
pub radians_widest : IsInside (radians_of eighth_ends) radian_ends
unfolding scale_of
radians_widest = record { low = record { le = tt }; ordered = record { le = tt }; high = record { le = tt } }

square_widest : IsInside (sqr_of (radians_of eighth_ends)) record { lo = pos 0; hi = pos 175921860444 }
unfolding scale_of sqr_of sqr_wide_of narrow76_of
square_widest = record { low = record { le = tt }; ordered = record { le = tt }; high = record { le = tt } }

pub radians_within : (r : Ends) → IsInside r eighth_ends → IsInside (radians_of r) radian_ends
radians_within r h = inside_trans (radians_isotone r eighth_ends h) radians_widest

radians_most : (r : Ends) → IsInside r eighth_ends → IsAtMost (radians_of r) (ratio (pos 4) 5)
radians_most r h =
    let i = radians_within r h in
    record { low = ≤ᶠ_trans (constants (search quote depth 20) tt) (ratio_mono (2 ^ 38) i.low); ordered = i.ordered; high = ≤ᶠ_trans (ratio_mono (2 ^ 38) i.high) (constants (search quote depth 20) tt) }

square_most : (r : Ends) → IsInside r eighth_ends → IsAtMost (sqr_of (radians_of r)) (ratio (pos 16) 25)
square_most r h =
    let i = inside_trans (square_isotone r eighth_ends h) square_widest in
    record { low = ≤ᶠ_trans (constants (search quote depth 20) tt) (ratio_mono (2 ^ 38) i.low); ordered = i.ordered; high = ≤ᶠ_trans (ratio_mono (2 ^ 38) i.high) (constants (search quote depth 20) tt) }

-- ---- the sine and the cosine on a quarter
-- the error of x, the error of turns being e
abbrev pub radian_error : Fraction → Fraction
radian_error e = tau *ᶠ e +ᶠ unit

trimmed_close : (a : Ends) (x e : Fraction) → IsClose a x e → IsClose (trimmed a) x (e +ᶠ unit)
trimmed_close a x e c = clamp_close _ (pos (2 ^ 38)) x (e +ᶠ unit) (widen_close a x e c)

square_close : (r : Ends) (u e : Fraction) → IsInside r eighth_ends → IsEighth u → IsClose r u e → IsClose (sqr_of (radians_of r)) ((tau *ᶠ u) *ᶠ (tau *ᶠ u)) (square_error (radian_error e))
square_close r u e h k c =
    let s = turns_are_small u k in
    close_weaken (at_most (e ∷ []) zeroᶠ (≤ᶠ_refl zeroᶠ) (search quote depth 30) tt)
    (sqr_close (radians_of r) (tau *ᶠ u) (radian_error e) (ratio (pos 4) 5) (radians_most r h) (scale_close r u e turn_parts (10 ^ 13) (lit≤ tt) c) s.low s.high)

seven_sine : (x : Fraction) → abs x ≤ᶠ ratio (pos 4) 5 → IsNear (x *ᶠ nest (x *ᶠ x) 1 7) (ten_sine x) fifth_unit
seven_sine x h =
    let rn : zeroᶠ ≤ᶠ sine_remainder 10 x = rw (sine_remainder-is 10 x) (not_negative_product _ _ (not_negative_abs x) (rest_unit (x *ᶠ x) 1 10 (square_unit x h)).low) in
    rw (sym (sine_series-nest 7 x), sym (sine_series-nest 10 x)) (near_sym (sine_near 10 x (sine_series 10 x) (lit≤ tt) h (near_self (sine_series 10 x) (sine_remainder 10 x) rn)))

seven_cosine : (x : Fraction) → abs x ≤ᶠ ratio (pos 4) 5 → IsNear (nest (x *ᶠ x) 0 7) (ten_cosine x) fifth_unit
seven_cosine x h =
    let rn : zeroᶠ ≤ᶠ cosine_remainder 10 x = rw (cosine_remainder-is 10 x) ((rest_unit (x *ᶠ x) 0 10 (square_unit x h)).low) in
    rw (sym (cosine_series-nest 7 x), sym (cosine_series-nest 10 x)) (near_sym (cosine_near 10 x (cosine_series 10 x) (lit≤ tt) h (near_self (cosine_series 10 x) (cosine_remainder 10 x) rn)))

-- the error of a sine or a cosine
abbrev pub part_error : Fraction → Fraction
part_error e = ratio (pos 8) 1 *ᶠ e +ᶠ ratio (pos 5) 1 *ᶠ unit

error_low : zeroᶠ ≤ᶠ ratio (pos 8) 1 -ᶠ ratio (pos 5) 4 *ᶠ tau
error_low = constants (search quote depth 20) tt

tau_low : zeroᶠ ≤ᶠ tau
tau_low = not_negative_ratio turn_parts (10 ^ 13)

pub sine_close : (r : Ends) (u e : Fraction) → zeroᶠ ≤ᶠ e → IsInside r eighth_ends → IsEighth u → IsClose r u e → IsClose (sine_of r) (ten_sine (tau *ᶠ u)) (part_error e)
unfolding sine_of
sine_close r u e p h k c =
    let s = radians_small u k in
    let U : IsUnit ((tau *ᶠ u) *ᶠ (tau *ᶠ u)) = square_unit (tau *ᶠ u) s in
    let t : zeroᶠ ≤ᶠ tau = tau_low in
    let xp : zeroᶠ ≤ᶠ radian_error e = search not_negative in
    let n = sine_nested_close (sqr_of (radians_of r)) ((tau *ᶠ u) *ᶠ (tau *ᶠ u)) (radian_error e) xp (square_most r h) (square_inside r h) U (square_close r u e h k c) in
    let nu : IsUnit (nest ((tau *ᶠ u) *ᶠ (tau *ᶠ u)) 1 7) = nest_unit _ 1 7 U in
    let nl : zeroᶠ ≤ᶠ nest ((tau *ᶠ u) *ᶠ (tau *ᶠ u)) 1 7 = nu.low in
    let v : Fraction = nest ((tau *ᶠ u) *ᶠ (tau *ᶠ u)) 1 7 in
    let i = nested_inside (sqr_of (radians_of r)) 1 6 (square_inside r h) in
    let m = mul_close (radians_of r) (nested_of (sqr_of (radians_of r)) (steps 1 6)) (tau *ᶠ u) v (radian_error e) (ratio (pos 3) 10 *ᶠ radian_error e +ᶠ ratio (pos 3) 2 *ᶠ unit) (ratio (pos 4) 5) oneᶠ (radians_most r h) i.ordered
    (scale_close r u e turn_parts (10 ^ 13) (lit≤ tt) c) n (at_most (v ∷ []) (v +ᶠ oneᶠ) (search not_negative) (search quote depth 20) tt) nu.high in
    let l : zeroᶠ ≤ᶠ ratio (pos 8) 1 -ᶠ ratio (pos 5) 4 *ᶠ tau = error_low in
    close_weaken (at_most (e ∷ []) ((ratio (pos 8) 1 -ᶠ ratio (pos 5) 4 *ᶠ tau) *ᶠ e +ᶠ ratio (pos 1) 100 *ᶠ (tau *ᶠ e) +ᶠ ratio (pos 36) 100 *ᶠ unit) (search not_negative) (search quote depth 40 fits 30000) tt)
    (close_near (seven_sine (tau *ᶠ u) s) (trimmed_close _ _ _ m))

pub cosine_close : (r : Ends) (u e : Fraction) → zeroᶠ ≤ᶠ e → IsInside r eighth_ends → IsEighth u → IsClose r u e → IsClose (cosine_of r) (ten_cosine (tau *ᶠ u)) (part_error e)
unfolding cosine_of
cosine_close r u e p h k c =
    let s = radians_small u k in
    let U : IsUnit ((tau *ᶠ u) *ᶠ (tau *ᶠ u)) = square_unit (tau *ᶠ u) s in
    let t : zeroᶠ ≤ᶠ tau = tau_low in
    let xp : zeroᶠ ≤ᶠ radian_error e = search not_negative in
    let n = cosine_nested_close (sqr_of (radians_of r)) ((tau *ᶠ u) *ᶠ (tau *ᶠ u)) (radian_error e) xp (square_most r h) (square_inside r h) U (square_close r u e h k c) in
    let l : zeroᶠ ≤ᶠ ratio (pos 8) 1 -ᶠ ratio (pos 5) 4 *ᶠ tau = error_low in
    close_weaken (at_most (e ∷ []) ((ratio (pos 8) 1 -ᶠ ratio (pos 5) 4 *ᶠ tau) *ᶠ e +ᶠ ratio (pos 35) 100 *ᶠ (tau *ᶠ e) +ᶠ ratio (pos 40) 100 *ᶠ unit) (search not_negative) (search quote depth 40 fits 30000) tt)
    (close_near (seven_cosine (tau *ᶠ u) s) (trimmed_close _ _ _ n))

-- ---- turned by quarters
-- the cosine at r turns from the middle of a quarter, by ten terms
abbrev pub cowave_of : ℤ → Fraction → Fraction
cowave_of (pos zero) r = ten_cosine (tau *ᶠ r)
cowave_of (pos (suc zero)) r = neg (ten_sine (tau *ᶠ r))
cowave_of (pos (suc (suc zero))) r = neg (ten_cosine (tau *ᶠ r))
cowave_of k r = ten_sine (tau *ᶠ r)

abbrev pub cowave : ℤ → Fraction → Fraction
cowave q r = cowave_of (int_rem_euclid q (pos 4)) r

pub record PairClose (p : PairEnds) (s c e : Fraction) : Type 0 where
  pub sine : IsClose p.sine s e
  pub cosine : IsClose p.cosine c e

neg_close : (a : Ends) (x e : Fraction) → IsClose a x e → IsClose (neg_of a) (neg x) e
unfolding neg_of sub_of
neg_close a x e c =
    let cl : x -ᶠ e ≤ᶠ ratio a.lo (2 ^ 38) = c.low in
    let ch : ratio a.hi (2 ^ 38) ≤ᶠ x +ᶠ e = c.high in
    let lo : Fraction = ratio a.lo (2 ^ 38) in
    let hi : Fraction = ratio a.hi (2 ^ 38) in
    record {
      low = rw (turned a.hi) (at_most (x ∷ e ∷ hi ∷ []) ((x +ᶠ e) -ᶠ hi) (search not_negative) (search quote depth 30) tt);
      high = rw (turned a.lo) (at_most (x ∷ e ∷ lo ∷ []) (lo -ᶠ (x -ᶠ e)) (search not_negative) (search quote depth 30) tt);
    }
  where
    same : (n : ℤ) → pos 0 -ℤ n ≡ neg_ℤ n
    same n = omega (arith, ints)

    turned : (n : ℤ) → ratio (pos 0 -ℤ n) (2 ^ 38) ≡ neg (ratio n (2 ^ 38))
    turned n = ap (λ t. ratio t (2 ^ 38)) (same n) ∙ sym (neg-ratio n (2 ^ 38))

turn_close : (k : ℤ) (a b : Ends) (r e : Fraction) → IsClose a (ten_sine (tau *ᶠ r)) e → IsClose b (ten_cosine (tau *ᶠ r)) e → PairClose (turn_of k a b) (wave_of k r) (cowave_of k r) e
turn_close (pos zero) a b r e p q = record { sine = p; cosine = q }
turn_close (pos (suc zero)) a b r e p q = record { sine = q; cosine = neg_close a _ e p }
turn_close (pos (suc (suc zero))) a b r e p q = record { sine = neg_close a _ e p; cosine = neg_close b _ e q }
turn_close (pos (suc (suc (suc n)))) a b r e p q = record { sine = neg_close b _ e q; cosine = p }
turn_close (negsuc n) a b r e p q = record { sine = neg_close b _ e q; cosine = p }

pub pair_close : (a : Ends) (q : ℤ) (u e : Fraction) → zeroᶠ ≤ᶠ e → IsInside (left_of a q) eighth_ends → IsEighth u → IsClose (left_of a q) u e → PairClose (pair_at a q) (wave q u) (cowave q u) (part_error e)
unfolding pair_at
pair_close a q u e p h k c = turn_close (int_rem_euclid q (pos 4)) _ _ u (part_error e) (sine_close _ u e p h k c) (cosine_close _ u e p h k c)

-- ---- at one number of units
pub sin_cos_point : (k : ℤ) → sin_cos_of (point k) ≡ pair_at (point k) (nearest_quarter_of k)
unfolding sin_cos_of hull_from
sin_cos_point k = rw (no_width k, no_width (nearest_quarter_of k)) refl
  where
    no_width : (k : ℤ) → k -ℤ k ≡ pos 0
    no_width k = omega (arith, ints)

quarter_point : (k : ℤ) → quarter_of (ratio k (2 ^ 38)) ≡ nearest_quarter_of k
quarter_point k = both (quarter_above k _ (≤ᶠ_refl _)) (quarter_below k _ (≤ᶠ_refl _))
  where
    both : {x y : ℤ} → x ≤ℤ y → y ≤ℤ x → y ≡ x
    both h k = omega (arith, ints)

left_point : (k q : ℤ) → IsClose (left_of (point k) q) (ratio k (2 ^ 38) -ᶠ whole q *ᶠ ratio (pos 1) 4) zeroᶠ
unfolding left_of sub_of
left_point k q =
    let l = quarter_lies q in
    let w : Fraction = whole q *ᶠ ratio (pos 1) 4 in
    let h : w ≤ᶠ ratio (q *ℤ pos (2 ^ 36)) (2 ^ 38) = l.high in
    let g : ratio (q *ℤ pos (2 ^ 36)) (2 ^ 38) ≤ᶠ w = l.low in
    let v : Fraction = ratio (q *ℤ pos (2 ^ 36)) (2 ^ 38) in
    let x : Fraction = ratio k (2 ^ 38) in
    clamp_close _ (pos (2 ^ 35)) _ zeroᶠ record {
      low = rw (minus k (q *ℤ pos (2 ^ 36))) (at_most (x ∷ w ∷ v ∷ []) (w -ᶠ v) (search not_negative) (search quote depth 30) tt);
      high = rw (minus k (q *ℤ pos (2 ^ 36))) (at_most (x ∷ w ∷ v ∷ []) (v -ᶠ w) (search not_negative) (search quote depth 30) tt);
    }

-- at one number of units each end is within five units
pub point_close : (k : ℤ) → PairClose (sin_cos_of (point k)) (wave (quarter_of (ratio k (2 ^ 38))) (turns_left (ratio k (2 ^ 38)))) (cowave (quarter_of (ratio k (2 ^ 38))) (turns_left (ratio k (2 ^ 38)))) (ratio (pos 5) 1 *ᶠ unit)
point_close k =
    let x : Fraction = ratio k (2 ^ 38) in
    let q : ℤ = quarter_of x in
    let s : sin_cos_of (point k) ≡ pair_at (point k) q = sin_cos_point k ∙ ap (λ t. pair_at (point k) t) (sym (quarter_point k)) in
    let al : nearest_quarter_of k ≤ℤ q = quarter_above k x (≤ᶠ_refl x) in
    let ah : q ≤ℤ nearest_quarter_of k = quarter_below k x (≤ᶠ_refl x) in
    let i : IsInside (left_of (point k) q) eighth_ends = left_eighth (point k) q (omega (arith, ints)) al ah in
    let c = pair_close (point k) q (turns_left x) zeroᶠ (≤ᶠ_refl zeroᶠ) i (turns_small x) (left_point k q) in
    let e : part_error zeroᶠ ≤ᶠ ratio (pos 5) 1 *ᶠ unit = constants (search quote depth 20) tt in
    rw s record { sine = close_weaken e c.sine; cosine = close_weaken e c.cosine }
