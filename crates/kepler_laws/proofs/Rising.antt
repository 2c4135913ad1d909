-- The mean anomaly of the written evaluation rises from each number of units to the next.
use Rattle.std.specs.Prelude.{◌≡◌, ℤ, pos, ◌*◌, ◌^◌, refl, ◌+ℤ◌, ◌-ℤ◌, ◌*ℤ◌, neg_ℤ, ◌≤ℤ◌, Bool, true, false, [], ◌∷◌}
use Rattle.std.proofs.Common.{arith, sym}
use Rattle.std.proofs.lemmas.Int.{ints, clamps}
use Rattle.std.proofs.lemmas.Nat.{pow_pos}
use lib.Signed.{le_z}
use Rattle.whole_numbers.specs.Rounding.{floor_of, ceil_of}
use Rattle.whole_numbers.proofs.Divisions.{floor_parts_high, floor_parts_low, ceil_parts_high, ceil_parts_low}
use Rattle.fractions.specs.Fraction.{Fraction, ratio, zeroᶠ, ◌+ᶠ◌, ◌-ᶠ◌, ◌*ᶠ◌, ◌≤ᶠ◌}
use Rattle.fractions.proofs.Certificates.{at_most, not_negative, constants}
use Rattle.fractions.proofs.Quote.{quote}
use Rattle.fractions.proofs.Ratios.{ratio-add, ratio_mono, ratio_at_most_out}
use Rattle.raim_model.specs.Sine.{quarter_of, turns_left}
use Rattle.fix_interval.specs.Ends.{Ends, IsInside}
use Rattle.fix_interval.specs.Products.{mul_of, mul_wide_of, narrow76_of}
use Rattle.fix_interval.specs.Sums.{sub_of}
use Rattle.fix_interval.proofs.EndProducts.{corner, mul_isotone}
use Rattle.fix_interval.specs.Ranges.{full_ends, point}
use Rattle.fix_interval.proofs.EndInsides.{inside_trans}
use Rattle.series_laws.proofs.Slow.{wave, wave_moves, jump}
use Rattle.trig_laws.specs.SinCos.{sin_cos_of}
use Rattle.trig_laws.proofs.Close.{least, greatest, unit}
use Rattle.trig_laws.proofs.Encloses.{sin_cos_full}
use Rattle.trig_laws.proofs.Isotones.{whole_order}
use Rattle.trig_laws.proofs.Points.{point_close}
use Rattle.kepler_laws.specs.Anomalies.{mean_of, is_below, is_above, IsEccentricityInTurns}

-- ---- the sine moves by at most 21 units
unit_order : (m n : ℤ) → ratio m (2 ^ 38) ≤ᶠ ratio n (2 ^ 38) → m ≤ℤ n
unit_order m n h = let k = ratio_at_most_out m n (2 ^ 38) (2 ^ 38) (pow_pos 38) (pow_pos 38) h in omega (arith, ints)

pub sine_step : (k : ℤ) → ((sin_cos_of (point (k +ℤ pos 1))).sine.hi ≤ℤ ((sin_cos_of (point k)).sine.lo +ℤ pos 21))
sine_step k =
    let x : Fraction = ratio k (2 ^ 38) in
    let z : Fraction = ratio (k +ℤ pos 1) (2 ^ 38) in
    let e : ratio (k +ℤ pos 1) (2 ^ 38) ≡ x +ᶠ unit = sym (ratio-add k (pos 1) (2 ^ 38)) in
    let a : Fraction = wave (quarter_of x) (turns_left x) in
    let b : Fraction = wave (quarter_of z) (turns_left z) in
    let c = (point_close k).sine in
    let d = (point_close (k +ℤ pos 1)).sine in
    let lo : Fraction = ratio (sin_cos_of (point k)).sine.lo (2 ^ 38) in
    let hi : Fraction = ratio (sin_cos_of (point (k +ℤ pos 1))).sine.hi (2 ^ 38) in
    let cl : a -ᶠ ratio (pos 5) 1 *ᶠ unit ≤ᶠ lo = c.low in
    let dh : hi ≤ᶠ b +ᶠ ratio (pos 5) 1 *ᶠ unit = d.high in
    let up : x ≤ᶠ z = rw e (at_most (x ∷ []) unit (search not_negative) (search quote depth 20) tt) in
    let m = wave_moves x z up in
    let mh : b ≤ᶠ a +ᶠ (ratio (pos 10) 1 *ᶠ (z -ᶠ x) +ᶠ jump) = m.high in
    let zx : z -ᶠ x ≤ᶠ unit = rw e (at_most (x ∷ []) zeroᶠ (search not_negative) (search quote depth 20) tt) in
    let small : jump ≤ᶠ unit = constants (search quote depth 20) tt in
    let all : hi ≤ᶠ lo +ᶠ ratio (pos 21) (2 ^ 38) = at_most (x ∷ z ∷ a ∷ b ∷ lo ∷ hi ∷ [])
    (((b +ᶠ ratio (pos 5) 1 *ᶠ unit) -ᶠ hi) +ᶠ ((a +ᶠ (ratio (pos 10) 1 *ᶠ (z -ᶠ x) +ᶠ jump)) -ᶠ b) +ᶠ (lo -ᶠ (a -ᶠ ratio (pos 5) 1 *ᶠ unit)) +ᶠ ratio (pos 10) 1 *ᶠ (unit -ᶠ (z -ᶠ x)) +ᶠ (unit -ᶠ jump))
    (search not_negative depth 10) (search quote depth 40 fits 30000) tt in
    unit_order _ _ (rw (ratio-add (sin_cos_of (point k)).sine.lo (pos 21) (2 ^ 38)) at all)

pub sine_ordered : (k : ℤ) → (sin_cos_of (point k)).sine.lo ≤ℤ (sin_cos_of (point k)).sine.hi
sine_ordered k = let o : k ≤ℤ k = omega (arith, ints) in (sin_cos_full (point k) o).sine.ordered

-- ---- the product moves by at most a unit
product_step : (x s t : ℤ) → pos 0 ≤ℤ x → x ≤ℤ pos (2 ^ 31) → t ≤ℤ (s +ℤ pos 21) → (x *ℤ t) ≤ℤ ((x *ℤ s) +ℤ pos (2 ^ 36))
product_step x s t n h k =
    let X : Fraction = ratio x 1 in
    let S : Fraction = ratio s 1 in
    let T : Fraction = ratio t 1 in
    let a : zeroᶠ ≤ᶠ X = ratio_mono 1 n in
    let b : X ≤ᶠ ratio (pos (2 ^ 31)) 1 = ratio_mono 1 h in
    let c : T ≤ᶠ S +ᶠ ratio (pos 21) 1 = rw (ratio-add s (pos 21) 1) (ratio_mono 1 k) in
    let d : X *ᶠ T ≤ᶠ X *ᶠ S +ᶠ ratio (pos (2 ^ 36)) 1 = at_most (X ∷ S ∷ T ∷ []) (X *ᶠ ((S +ᶠ ratio (pos 21) 1) -ᶠ T) +ᶠ ratio (pos 21) 1 *ᶠ (ratio (pos (2 ^ 31)) 1 -ᶠ X) +ᶠ ratio (pos (11 * 2 ^ 31)) 1) (search not_negative) (search quote depth 40 fits 30000) tt in
    let et : X *ᶠ T ≡ ratio (x *ℤ t) 1 = corner x t 0 0 in
    let es : X *ᶠ S ≡ ratio (x *ℤ s) 1 = corner x s 0 0 in
    let f : ratio (x *ℤ t) 1 ≤ᶠ ratio (x *ℤ s) 1 +ᶠ ratio (pos (2 ^ 36)) 1 = rw (et, es) at d in
    whole_order _ _ (rw (ratio-add (x *ℤ s) (pos (2 ^ 36)) 1) at f)

least_step : (p q r t p' q' r' t' c : ℤ) → p' ≤ℤ (p +ℤ c) → q' ≤ℤ (q +ℤ c) → r' ≤ℤ (r +ℤ c) → t' ≤ℤ (t +ℤ c) → least p' q' r' t' ≤ℤ (least p q r t +ℤ c)
least_step p q r t p' q' r' t' c h i j k = omega (arith, ints, clamps)

greatest_step : (p q r t p' q' r' t' c : ℤ) → p' ≤ℤ (p +ℤ c) → q' ≤ℤ (q +ℤ c) → r' ≤ℤ (r +ℤ c) → t' ≤ℤ (t +ℤ c) → greatest p' q' r' t' ≤ℤ (greatest p q r t +ℤ c)
greatest_step p q r t p' q' r' t' c h i j k = omega (arith, ints, clamps)

floor_step : (y z : ℤ) → z ≤ℤ (y +ℤ pos (2 ^ 36)) → floor_of z (2 ^ 38) ≤ℤ (floor_of y (2 ^ 38) +ℤ pos 1)
floor_step y z h = omega (arith, ints, floor_parts_high y (2 ^ 38) (pow_pos 38), floor_parts_low z (2 ^ 38) (pow_pos 38))

ceil_step : (y z : ℤ) → z ≤ℤ (y +ℤ pos (2 ^ 36)) → ceil_of z (2 ^ 38) ≤ℤ (ceil_of y (2 ^ 38) +ℤ pos 1)
ceil_step y z h = omega (arith, ints, ceil_parts_high y (2 ^ 38) (pow_pos 38), ceil_parts_low z (2 ^ 38) (pow_pos 38))

mul_step : (e s t : Ends) → IsEccentricityInTurns e → t.lo ≤ℤ (s.lo +ℤ pos 21) → t.hi ≤ℤ (s.hi +ℤ pos 21) → ((mul_of e t).lo ≤ℤ ((mul_of e s).lo +ℤ pos 1)) × ((mul_of e t).hi ≤ℤ ((mul_of e s).hi +ℤ pos 1))
unfolding mul_of mul_wide_of narrow76_of
mul_step e s t i h k =
    let el : pos 0 ≤ℤ e.lo = i.low in
    let eo : e.lo ≤ℤ e.hi = i.ordered in
    let eh : e.hi ≤ℤ pos (2 ^ 31) = i.high in
    let lh : e.lo ≤ℤ pos (2 ^ 31) = omega (arith, ints) in
    let hl : pos 0 ≤ℤ e.hi = omega (arith, ints) in
    let ll = product_step e.lo s.lo t.lo el lh h in
    let lm = product_step e.lo s.hi t.hi el lh k in
    let ml = product_step e.hi s.lo t.lo hl eh h in
    let mm = product_step e.hi s.hi t.hi hl eh k in (
      floor_step (least (e.lo *ℤ s.lo) (e.lo *ℤ s.hi) (e.hi *ℤ s.lo) (e.hi *ℤ s.hi)) (least (e.lo *ℤ t.lo) (e.lo *ℤ t.hi) (e.hi *ℤ t.lo) (e.hi *ℤ t.hi)) (least_step (e.lo *ℤ s.lo) (e.lo *ℤ s.hi) (e.hi *ℤ s.lo) (e.hi *ℤ s.hi) (e.lo *ℤ t.lo) (e.lo *ℤ t.hi) (e.hi *ℤ t.lo) (e.hi *ℤ t.hi) (pos (2 ^ 36)) ll lm ml mm),
      ceil_step (greatest (e.lo *ℤ s.lo) (e.lo *ℤ s.hi) (e.hi *ℤ s.lo) (e.hi *ℤ s.hi)) (greatest (e.lo *ℤ t.lo) (e.lo *ℤ t.hi) (e.hi *ℤ t.lo) (e.hi *ℤ t.hi)) (greatest_step (e.lo *ℤ s.lo) (e.lo *ℤ s.hi) (e.hi *ℤ s.lo) (e.hi *ℤ s.hi) (e.lo *ℤ t.lo) (e.lo *ℤ t.hi) (e.hi *ℤ t.lo) (e.hi *ℤ t.hi) (pos (2 ^ 36)) ll lm ml mm),
    )

-- both ends of the mean anomaly rise from one number to the next
pub mean_rises : (eps : Ends) (k : ℤ) → IsEccentricityInTurns eps → ((mean_of eps k).hi ≤ℤ (mean_of eps (k +ℤ pos 1)).hi) × ((mean_of eps k).lo ≤ℤ (mean_of eps (k +ℤ pos 1)).lo)
unfolding mean_of sub_of
mean_rises eps k i =
    let s : Ends = (sin_cos_of (point k)).sine in
    let t : Ends = (sin_cos_of (point (k +ℤ pos 1))).sine in
    let h : t.hi ≤ℤ (s.lo +ℤ pos 21) = sine_step k in
    let so : s.lo ≤ℤ s.hi = sine_ordered k in
    let to : t.lo ≤ℤ t.hi = sine_ordered (k +ℤ pos 1) in
    let m = mul_step eps s t i (omega (arith, ints)) (omega (arith, ints)) in
    let m0 : (mul_of eps t).lo ≤ℤ ((mul_of eps s).lo +ℤ pos 1) = m.0 in
    let m1 : (mul_of eps t).hi ≤ℤ ((mul_of eps s).hi +ℤ pos 1) = m.1 in
    (omega (arith, ints), omega (arith, ints))

pub below_falls : (eps : Ends) (m : ℤ) → IsEccentricityInTurns eps → (k : ℤ) → is_below eps m (k +ℤ pos 1) ≡ true → is_below eps m k ≡ true
below_falls eps m i k e = let r = mean_rises eps k i in at_most_too (r.0) e
  where
    at_most_too : {x y : ℤ} → x ≤ℤ y → le_z y m ≡ true → le_z x m ≡ true
    at_most_too {x} {y} h e = by_test (le_z x m) refl
      where
        by_test : (t : Bool) → le_z x m ≡ t → t ≡ true
        by_test true d = refl
        by_test false d = absurd (omega (arith, ints))

pub above_rises : (eps : Ends) (m : ℤ) → IsEccentricityInTurns eps → (k : ℤ) → is_above eps m k ≡ true → is_above eps m (k +ℤ pos 1) ≡ true
above_rises eps m i k e = let r = mean_rises eps k i in at_least_too (r.1) e
  where
    at_least_too : {x y : ℤ} → x ≤ℤ y → le_z m x ≡ true → le_z m y ≡ true
    at_least_too {x} {y} h e = by_test (le_z m y) refl
      where
        by_test : (t : Bool) → le_z m y ≡ t → t ≡ true
        by_test true d = refl
        by_test false d = absurd (omega (arith, ints))

-- ---- the ends of the bracket
product_widest : IsInside (mul_of record { lo = pos 0; hi = pos (2 ^ 31) } full_ends) record { lo = neg_ℤ (pos (2 ^ 31)); hi = pos (2 ^ 31) }
unfolding mul_of mul_wide_of narrow76_of
product_widest = record { low = record { le = tt }; ordered = record { le = tt }; high = record { le = tt } }

product_small : (eps : Ends) (k : ℤ) → IsEccentricityInTurns eps → IsInside (mul_of eps (sin_cos_of (point k)).sine) record { lo = neg_ℤ (pos (2 ^ 31)); hi = pos (2 ^ 31) }
product_small eps k i =
    let o : k ≤ℤ k = omega (arith, ints) in
    inside_trans (mul_isotone refl record { lo = pos 0; hi = pos (2 ^ 31) } full_ends record { low = i.low; ordered = i.ordered; high = i.high } (sin_cos_full (point k) o).sine) product_widest

-- the mean anomaly of k is at most 2^31 units from k
pub mean_near : (eps : Ends) (k : ℤ) → IsEccentricityInTurns eps → IsInside (mean_of eps k) record { lo = k -ℤ pos (2 ^ 31); hi = k +ℤ pos (2 ^ 31) }
unfolding mean_of sub_of
mean_near eps k i = let p = product_small eps k i in record { low = omega (arith, ints, p.high); ordered = omega (arith, ints, p.ordered); high = omega (arith, ints, p.low) }
