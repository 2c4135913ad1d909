-- How wide the sine and cosine of the eccentric anomaly are.
use Rattle.std.specs.Prelude.{◌≡◌, ℤ, pos, ◌^◌, refl, ◌+ℤ◌, ◌-ℤ◌, ◌*ℤ◌, neg_ℤ, ◌≤ℤ◌, ◌<ℤ◌, Bool, true, false, cond, not, [], ◌∷◌}
use Rattle.std.proofs.Common.{arith, ap, ap₂, sym, ◌∙◌, subst}
use Rattle.std.proofs.lemmas.Int.{ints, clamps}
use Rattle.std.proofs.lemmas.Nat.{pow_pos}
use lib.Dec.{lit≤}
use lib.Signed.{le_z}
use Rattle.fractions.specs.Fraction.{Fraction, ratio, zeroᶠ, oneᶠ, ◌+ᶠ◌, ◌-ᶠ◌, ◌*ᶠ◌, neg, ◌≤ᶠ◌}
use Rattle.fractions.proofs.Certificates.{at_most, not_negative, constants}
use Rattle.fractions.proofs.Laws.{≤ᶠ_refl, ≤ᶠ_trans, by_order}
use Rattle.fractions.proofs.Quote.{quote}
use Rattle.fractions.proofs.Ratios.{ratio-add, ratio-mul, ratio_mono, ratio_at_most_out, not_negative_ratio}
use Rattle.raim_model.specs.Level.{Level}
use Rattle.raim_model.specs.Sine.{IsSineCosine}
use Rattle.fix_interval.specs.Bounds.{clamp_of}
use Rattle.fix_interval.specs.Ends.{Ends, IsInside}
use Rattle.fix_interval.specs.Lies.{Lies}
use Rattle.fix_interval.specs.Products.{mul_of}
use Rattle.fix_interval.specs.Sums.{sub_of}
use Rattle.fix_interval.specs.Ranges.{point}
use Rattle.fix_interval.specs.Pairs.{PairEnds, full_pair, PairInside, hull_from}
use Rattle.fix_interval.proofs.EndPairs.{hulls_least}
use Rattle.series_laws.proofs.Pairs.{has_pair}
use Rattle.series_laws.proofs.Slow.{sine_wave, near_sym}
use Rattle.series_laws.proofs.Waves.{tiny}
use Rattle.trig_laws.specs.SinCos.{sin_cos_of}
use Rattle.trig_laws.proofs.Close.{unit, IsClose, IsAtMost, close_weaken, close_near, mul_close, minus}
use Rattle.trig_laws.proofs.Encloses.{sin_cos_isotone, full_lies}
use Rattle.trig_laws.proofs.Narrow.{sin_cos_narrow}
use Rattle.trig_laws.proofs.Periods.{turned_on, sin_cos_on}
use Rattle.trig_laws.proofs.Points.{point_close}
use Rattle.kepler_laws.specs.Anomalies.{mean_of, is_below, is_above, lower_end, last_below, bracket, anomalies_of, IsGreatest, IsLeast, IsEccentricityInTurns, IsWithinHalfTurn}
use Rattle.kepler_laws.specs.EccentricSine.{nearest_turn_of, wrapped_of, wrap_pair, ecc_sin_cos_of}
use Rattle.kepler_laws.proofs.Anomalies.{fails, passed, passes, bracket_order, bracket_size, eccentricity, lower_is, upper_is}
use Rattle.kepler_laws.proofs.Halvings.{lower_last, unheld}
use Rattle.kepler_laws.proofs.Rises.{IsEccentricity, rises, gap52}
use Rattle.kepler_laws.proofs.Rising.{sine_ordered, mean_near}
use Rattle.kepler_laws.proofs.Wraps.{wrap_mono, wrap_spans, spans_wrap, wrapped_half, anomalies_ordered, wraps_of, last_wrap}

-- ---- the mean anomaly of k, from the model's
six_units : ratio (pos 5) 1 *ᶠ unit +ᶠ tiny ≤ᶠ ratio (pos 6) 1 *ᶠ unit
six_units = constants (search quote depth 20) tt

product_units : ratio (pos 1) 128 *ᶠ (ratio (pos 6) 1 *ᶠ unit) +ᶠ oneᶠ *ᶠ ratio (pos 4) (2 ^ 38) +ᶠ unit ≤ᶠ ratio (pos 6) 1 *ᶠ unit
product_units = constants (search quote depth 20) tt

minus_one : neg oneᶠ ≤ᶠ ratio (neg_ℤ (pos (2 ^ 38))) (2 ^ 38)
minus_one = constants (search quote depth 20) tt

at_one : ratio (pos (2 ^ 38)) (2 ^ 38) ≤ᶠ oneᶠ
at_one = constants (search quote depth 20) tt

below_zero : neg (ratio (pos 1) 128) ≤ᶠ zeroᶠ
below_zero = constants (search quote depth 20) tt

pub mean_close : (N : Level) (eps : Ends) (k : ℤ) (s c : Fraction) → IsEccentricityInTurns eps → (eps.hi -ℤ eps.lo) ≤ℤ pos 4 → IsSineCosine N (ratio k (2 ^ 38)) s c
    → IsClose (mean_of eps k) (ratio k (2 ^ 38) -ᶠ ratio eps.lo (2 ^ 38) *ᶠ s) (ratio (pos 6) 1 *ᶠ unit)
unfolding mean_of sub_of
mean_close N eps k s c i n p =
    let x : Fraction = ratio k (2 ^ 38) in
    let e : Fraction = ratio eps.lo (2 ^ 38) in
    let a : Ends = (sin_cos_of (point k)).sine in
    let ca : IsClose a s (ratio (pos 6) 1 *ᶠ unit) = close_weaken six_units (close_near (near_sym (sine_wave N x s c p)) (point_close k).sine) in
    let el : Lies eps 38 e = record { low = ≤ᶠ_refl e; high = ratio_mono (2 ^ 38) i.ordered } in
    let g : IsEccentricity e = eccentricity eps e i el in
    let gl : zeroᶠ ≤ᶠ e = g.low in
    let top : Lies eps 38 (ratio eps.hi (2 ^ 38)) = record { low = ratio_mono (2 ^ 38) i.ordered; high = ≤ᶠ_refl _ } in
    let gh : ratio eps.hi (2 ^ 38) ≤ᶠ ratio (pos 1) 128 = (eccentricity eps _ i top).high in
    let m : IsAtMost eps (ratio (pos 1) 128) = record { low = ≤ᶠ_trans below_zero gl; ordered = i.ordered; high = gh } in
    let wide : eps.hi ≤ℤ (eps.lo +ℤ pos 4) = omega (arith, ints) in
    let ce : IsClose eps e (ratio (pos 4) (2 ^ 38)) = record {
      low = at_most (e ∷ []) (ratio (pos 4) (2 ^ 38)) (not_negative_ratio 4 (2 ^ 38)) (search quote depth 20) tt;
      high = rw (ratio-add eps.lo (pos 4) (2 ^ 38)) (ratio_mono (2 ^ 38) wide);
    } in
    let f = (full_lies N x s c p).sine in
    let b : Ends = mul_of eps a in
    let cb : IsClose b (e *ᶠ s) (ratio (pos 6) 1 *ᶠ unit) = close_weaken product_units (mul_close eps a e s (ratio (pos 4) (2 ^ 38)) (ratio (pos 6) 1 *ᶠ unit) (ratio (pos 1) 128) oneᶠ m (sine_ordered k) ce ca (≤ᶠ_trans minus_one f.low) (≤ᶠ_trans f.high at_one)) in
    let lo : Fraction = ratio b.lo (2 ^ 38) in
    let hi : Fraction = ratio b.hi (2 ^ 38) in
    let bl : e *ᶠ s -ᶠ ratio (pos 6) 1 *ᶠ unit ≤ᶠ lo = cb.low in
    let bh : hi ≤ᶠ e *ᶠ s +ᶠ ratio (pos 6) 1 *ᶠ unit = cb.high in
    record {
      low = rw (minus k b.hi) (at_most (x ∷ e ∷ s ∷ hi ∷ []) ((e *ᶠ s +ᶠ ratio (pos 6) 1 *ᶠ unit) -ᶠ hi) (search not_negative) (search quote depth 30) tt);
      high = rw (minus k b.lo) (at_most (x ∷ e ∷ s ∷ lo ∷ []) (lo -ᶠ (e *ᶠ s -ᶠ ratio (pos 6) 1 *ᶠ unit)) (search not_negative) (search quote depth 30) tt);
    }

-- ---- numbers whose mean anomalies reach p and q are little more apart than these
level : Level
level = record { terms = 100; enough = lit≤ tt }

span_units : ratio (pos 128) 118 *ᶠ (gap52 +ᶠ ratio (pos 12) 1 *ᶠ unit) ≤ᶠ ratio (pos 14) (2 ^ 38)
span_units = constants (search quote depth 20) tt

pub span : (eps : Ends) (x y p q : ℤ) → IsEccentricityInTurns eps → (eps.hi -ℤ eps.lo) ≤ℤ pos 4 → p ≤ℤ (mean_of eps x).hi → (mean_of eps y).lo ≤ℤ q → p ≤ℤ q → (y -ℤ x) ≤ℤ ((pos 2 *ℤ (q -ℤ p)) +ℤ pos 14)
span eps x y p q i n hx hy pq =
    let X : Fraction = ratio x (2 ^ 38) in
    let Y : Fraction = ratio y (2 ^ 38) in
    let P : Fraction = ratio p (2 ^ 38) in
    let Q : Fraction = ratio q (2 ^ 38) in
    let e : Fraction = ratio eps.lo (2 ^ 38) in
    let el : Lies eps 38 e = record { low = ≤ᶠ_refl e; high = ratio_mono (2 ^ 38) i.ordered } in
    let g : IsEccentricity e = eccentricity eps e i el in
    let v = has_pair level X in
    let w = has_pair level Y in
    let s : Fraction = v.sine in
    let t : Fraction = w.sine in
    let cx : P ≤ᶠ (X -ᶠ e *ᶠ s) +ᶠ ratio (pos 6) 1 *ᶠ unit = ≤ᶠ_trans (ratio_mono (2 ^ 38) hx) (mean_close level eps x s v.cosine i n v.pair).high in
    let cy : (Y -ᶠ e *ᶠ t) -ᶠ ratio (pos 6) 1 *ᶠ unit ≤ᶠ Q = ≤ᶠ_trans (mean_close level eps y t w.cosine i n w.pair).low (ratio_mono (2 ^ 38) hy) in
    let PQ : P ≤ᶠ Q = ratio_mono (2 ^ 38) pq in
    let su : ratio (pos 128) 118 *ᶠ (gap52 +ᶠ ratio (pos 12) 1 *ᶠ unit) ≤ᶠ ratio (pos 14) (2 ^ 38) = span_units in
    let d : Y -ᶠ X ≤ᶠ (Q -ᶠ P) *ᶠ ratio (pos 2) 1 +ᶠ ratio (pos 14) (2 ^ 38) = by_order X Y
    (λ xy.
    let r : ratio (pos 118) 128 *ᶠ (Y -ᶠ X) ≤ᶠ ((Y -ᶠ e *ᶠ t) -ᶠ (X -ᶠ e *ᶠ s)) +ᶠ gap52 = rises level level e X Y s v.cosine t w.cosine g xy v.pair w.pair in
    at_most (X ∷ Y ∷ P ∷ Q ∷ e ∷ s ∷ t ∷ [])
    (ratio (pos 128) 118 *ᶠ (((((Y -ᶠ e *ᶠ t) -ᶠ (X -ᶠ e *ᶠ s)) +ᶠ gap52) -ᶠ ratio (pos 118) 128 *ᶠ (Y -ᶠ X)) +ᶠ (((X -ᶠ e *ᶠ s) +ᶠ ratio (pos 6) 1 *ᶠ unit) -ᶠ P) +ᶠ (Q -ᶠ ((Y -ᶠ e *ᶠ t) -ᶠ ratio (pos 6) 1 *ᶠ unit)))
    +ᶠ ratio (pos 108) 118 *ᶠ (Q -ᶠ P) +ᶠ (ratio (pos 14) (2 ^ 38) -ᶠ ratio (pos 128) 118 *ᶠ (gap52 +ᶠ ratio (pos 12) 1 *ᶠ unit)))
    (search not_negative depth 10) (search quote depth 40 fits 30000) tt)
    (λ yx. at_most (X ∷ Y ∷ P ∷ Q ∷ []) (ratio (pos 2) 1 *ᶠ (Q -ᶠ P) +ᶠ ratio (pos 14) (2 ^ 38) +ᶠ (X -ᶠ Y)) (search not_negative depth 10) (search quote depth 40 fits 30000) tt) in
    let ey : Y -ᶠ X ≡ ratio (y -ℤ x) (2 ^ 38) = sym (minus y x) in
    let eq : (Q -ᶠ P) *ᶠ ratio (pos 2) 1 ≡ ratio ((q -ℤ p) *ℤ pos 2) (2 ^ 38) = ap (λ t. t *ᶠ ratio (pos 2) 1) (sym (minus q p)) ∙ ratio-mul (q -ℤ p) (pos 2) (2 ^ 38) 1 (pow_pos 38) (lit≤ tt) in
    let f : ratio (y -ℤ x) (2 ^ 38) ≤ᶠ ratio ((q -ℤ p) *ℤ pos 2) (2 ^ 38) +ᶠ ratio (pos 14) (2 ^ 38) = rw (ey, eq) at d in
    let h = ratio_at_most_out _ _ (2 ^ 38) (2 ^ 38) (pow_pos 38) (pow_pos 38) (rw (ratio-add ((q -ℤ p) *ℤ pos 2) (pos 14) (2 ^ 38)) at f) in
    omega (arith, ints, h)

-- ---- a unit further in the tests fail
failed : (x y : ℤ) → le_z x y ≡ false → y <ℤ x
failed x y e = omega (arith, ints)

lower_next : (eps m : Ends) → IsEccentricityInTurns eps → IsWithinHalfTurn m → m.lo <ℤ (mean_of eps ((anomalies_of eps m).lo +ℤ pos 2)).hi
unfolding anomalies_of
lower_next eps m i h =
    let a = mean_near eps (neg_ℤ bracket) i in
    let b = mean_near eps bracket i in
    let hl = h.low in
    let ho = h.ordered in
    let hh = h.high in
    let first : (mean_of eps (neg_ℤ bracket)).hi ≤ℤ m.lo = omega (arith, ints, a.high) in
    let last : m.lo <ℤ (mean_of eps bracket).hi = omega (arith, ints, b.low, b.ordered) in
    let r = lower_last (is_below eps m.lo) 40 (neg_ℤ bracket) bracket (passes _ _ first) (fails _ _ last) bracket_order bracket_size in
    subst (λ z. m.lo <ℤ (mean_of eps z).hi) (one_on (last_below eps m.lo)) (failed _ _ r.fails)
  where
    one_on : (z : ℤ) → z +ℤ pos 1 ≡ (z -ℤ pos 1) +ℤ pos 2
    one_on z = omega (arith, ints)

upper_before : (eps m : Ends) → IsEccentricityInTurns eps → IsWithinHalfTurn m → (mean_of eps ((anomalies_of eps m).hi -ℤ pos 2)).lo <ℤ m.hi
unfolding anomalies_of
upper_before eps m i h =
    let a = mean_near eps (neg_ℤ bracket) i in
    let b = mean_near eps bracket i in
    let hl = h.low in
    let ho = h.ordered in
    let hh = h.high in
    let first : (mean_of eps (neg_ℤ bracket)).lo <ℤ m.hi = omega (arith, ints, a.high, a.ordered) in
    let last : m.hi ≤ℤ (mean_of eps bracket).lo = omega (arith, ints, b.low) in
    let r = lower_last (λ k. not (is_above eps m.hi k)) 40 (neg_ℤ bracket) bracket (ap not (fails _ _ first)) (ap not (passes _ _ last)) bracket_order bracket_size in
    subst (λ z. (mean_of eps z).lo <ℤ m.hi) (one_back (lower_end (λ k. not (is_above eps m.hi k)) 40 (neg_ℤ bracket) bracket)) (failed _ _ (unheld _ r.holds))
  where
    one_back : (z : ℤ) → z ≡ ((z +ℤ pos 1) +ℤ pos 1) -ℤ pos 2
    one_back z = omega (arith, ints)

-- ---- the mean anomaly w turns on
pub mean_on : (eps : Ends) (k w : ℤ) → mean_of eps (k +ℤ (w *ℤ pos (2 ^ 38))) ≡ turned_on (mean_of eps k) w
unfolding mean_of sub_of
mean_on eps k w =
    let b : Ends = mul_of eps (sin_cos_of (point k)).sine in
    let t : ℤ = w *ℤ pos (2 ^ 38) in
    ap (λ p. sub_of (point (k +ℤ (w *ℤ pos (2 ^ 38)))) (mul_of eps p.sine)) (sin_cos_on (point k) w) ∙ ap₂ (λ y z. record { lo = y; hi = z }) (swap b.hi) (swap b.lo)
  where
    swap : (z : ℤ) → (k +ℤ (w *ℤ pos (2 ^ 38))) -ℤ z ≡ (k -ℤ z) +ℤ (w *ℤ pos (2 ^ 38))
    swap z = omega (arith, ints)

-- ---- the anomalies of all turns, put back
abbrev pub spread : Ends → Ends → Ends
spread m eps = record {
  lo = (anomalies_of eps (wrapped_of m (nearest_turn_of m.lo))).lo +ℤ (nearest_turn_of m.lo *ℤ pos (2 ^ 38));
  hi = (anomalies_of eps (wrapped_of m (nearest_turn_of m.hi))).hi +ℤ (nearest_turn_of m.hi *ℤ pos (2 ^ 38));
}

first_lo : (m : Ends) → (wrapped_of m (nearest_turn_of m.lo)).lo ≡ m.lo -ℤ (nearest_turn_of m.lo *ℤ pos (2 ^ 38))
unfolding wrapped_of clamp_of sub_of
first_lo m = let j = spans_wrap m.lo (nearest_turn_of m.lo) (self (nearest_turn_of m.lo)) in omega (arith, ints, clamps)
  where
    self : (z : ℤ) → z ≤ℤ z
    self z = omega (arith, ints)

last_hi : (m : Ends) → (wrapped_of m (nearest_turn_of m.hi)).hi ≡ m.hi -ℤ (nearest_turn_of m.hi *ℤ pos (2 ^ 38))
unfolding wrapped_of clamp_of sub_of
last_hi m = let j = wrap_spans m.hi (nearest_turn_of m.hi) (self (nearest_turn_of m.hi)) in omega (arith, ints, clamps)
  where
    self : (z : ℤ) → z ≤ℤ z
    self z = omega (arith, ints)

any_lo : (m : Ends) (w : ℤ) → (m.lo -ℤ (w *ℤ pos (2 ^ 38))) ≤ℤ (wrapped_of m w).lo
unfolding wrapped_of clamp_of sub_of
any_lo m w = omega (arith, ints, clamps)

any_hi : (m : Ends) (w : ℤ) → (wrapped_of m w).hi ≤ℤ (m.hi -ℤ (w *ℤ pos (2 ^ 38)))
unfolding wrapped_of clamp_of sub_of
any_hi m w = omega (arith, ints, clamps)

same : (z : ℤ) → z ≤ℤ z
same z = omega (arith, ints)

spread_low : (m eps : Ends) (w : ℤ) → m.lo ≤ℤ m.hi → IsEccentricityInTurns eps → nearest_turn_of m.lo ≤ℤ w → w ≤ℤ nearest_turn_of m.hi → (spread m eps).lo ≤ℤ ((anomalies_of eps (wrapped_of m w)).lo +ℤ (w *ℤ pos (2 ^ 38)))
unfolding anomalies_of
spread_low m eps w o i h k =
    let f : ℤ = nearest_turn_of m.lo in
    let a = lower_is eps (wrapped_of m f) i (wrapped_half m f o (same f) (wrap_mono m.lo m.hi o)) in
    let b = lower_is eps (wrapped_of m w) i (wrapped_half m w o h k) in
    goes _ _ f (ap (λ t. t.hi) (mean_on eps _ (f -ℤ w))) a b (first_lo m) (any_lo m w) h
  where
    goes : (r t f : ℤ) → (mean_of eps (r +ℤ ((f -ℤ w) *ℤ pos (2 ^ 38)))).hi ≡ (mean_of eps r).hi +ℤ ((f -ℤ w) *ℤ pos (2 ^ 38))
        → IsGreatest (is_below eps (wrapped_of m f).lo) (neg_ℤ bracket) bracket r → IsGreatest (is_below eps (wrapped_of m w).lo) (neg_ℤ bracket) bracket t
        → (wrapped_of m f).lo ≡ m.lo -ℤ (f *ℤ pos (2 ^ 38)) → (m.lo -ℤ (w *ℤ pos (2 ^ 38))) ≤ℤ (wrapped_of m w).lo → f ≤ℤ w
        → ((r -ℤ pos 1) +ℤ (f *ℤ pos (2 ^ 38))) ≤ℤ ((t -ℤ pos 1) +ℤ (w *ℤ pos (2 ^ 38)))
    goes r t f e a b g j h =
        let p : (mean_of eps r).hi ≤ℤ (wrapped_of m f).lo = passed _ _ a.holds in
        let q : (mean_of eps (r +ℤ ((f -ℤ w) *ℤ pos (2 ^ 38)))).hi ≤ℤ (wrapped_of m w).lo = omega (arith, ints) in
        let l : (r +ℤ ((f -ℤ w) *ℤ pos (2 ^ 38))) <ℤ bracket = omega (arith, ints, a.high) in
        let u = b.greatest _ l (passes _ _ q) in
        omega (arith, ints, u)

spread_high : (m eps : Ends) (w : ℤ) → m.lo ≤ℤ m.hi → IsEccentricityInTurns eps → nearest_turn_of m.lo ≤ℤ w → w ≤ℤ nearest_turn_of m.hi → ((anomalies_of eps (wrapped_of m w)).hi +ℤ (w *ℤ pos (2 ^ 38))) ≤ℤ (spread m eps).hi
unfolding anomalies_of
spread_high m eps w o i h k =
    let f : ℤ = nearest_turn_of m.hi in
    let a = upper_is eps (wrapped_of m f) i (wrapped_half m f o (wrap_mono m.lo m.hi o) (same f)) in
    let b = upper_is eps (wrapped_of m w) i (wrapped_half m w o h k) in
    goes _ _ f (ap (λ t. t.lo) (mean_on eps _ (f -ℤ w))) a b (last_hi m) (any_hi m w) k
  where
    goes : (r t f : ℤ) → (mean_of eps (r +ℤ ((f -ℤ w) *ℤ pos (2 ^ 38)))).lo ≡ (mean_of eps r).lo +ℤ ((f -ℤ w) *ℤ pos (2 ^ 38))
        → IsLeast (is_above eps (wrapped_of m f).hi) (neg_ℤ bracket) bracket r → IsLeast (is_above eps (wrapped_of m w).hi) (neg_ℤ bracket) bracket t
        → (wrapped_of m f).hi ≡ m.hi -ℤ (f *ℤ pos (2 ^ 38)) → (wrapped_of m w).hi ≤ℤ (m.hi -ℤ (w *ℤ pos (2 ^ 38))) → w ≤ℤ f
        → ((t +ℤ pos 1) +ℤ (w *ℤ pos (2 ^ 38))) ≤ℤ ((r +ℤ pos 1) +ℤ (f *ℤ pos (2 ^ 38)))
    goes r t f e a b g j h =
        let p : (wrapped_of m f).hi ≤ℤ (mean_of eps r).lo = passed _ _ a.holds in
        let q : (wrapped_of m w).hi ≤ℤ (mean_of eps (r +ℤ ((f -ℤ w) *ℤ pos (2 ^ 38)))).lo = omega (arith, ints) in
        let l : neg_ℤ bracket <ℤ (r +ℤ ((f -ℤ w) *ℤ pos (2 ^ 38))) = omega (arith, ints, a.low) in
        let u = b.least _ l (passes _ _ q) in
        omega (arith, ints, u)

spread_holds : (m eps : Ends) (w : ℤ) → m.lo ≤ℤ m.hi → IsEccentricityInTurns eps → nearest_turn_of m.lo ≤ℤ w → w ≤ℤ nearest_turn_of m.hi → IsInside (turned_on (anomalies_of eps (wrapped_of m w)) w) (spread m eps)
spread_holds m eps w o i h k = record { low = spread_low m eps w o i h k; ordered = more (anomalies_ordered eps (wrapped_of m w) i (wrapped_half m w o h k)); high = spread_high m eps w o i h k }
  where
    more : {x y : ℤ} → x ≤ℤ y → (x +ℤ (w *ℤ pos (2 ^ 38))) ≤ℤ (y +ℤ (w *ℤ pos (2 ^ 38)))
    more h = omega (arith, ints)

-- the anomalies of all turns are at most twice as wide as the mean ones, and 18 units
pub spread_width : (m eps : Ends) → m.lo ≤ℤ m.hi → IsEccentricityInTurns eps → (eps.hi -ℤ eps.lo) ≤ℤ pos 4 → ((spread m eps).hi -ℤ (spread m eps).lo) ≤ℤ ((pos 2 *ℤ (m.hi -ℤ m.lo)) +ℤ pos 18)
spread_width m eps o i n =
    let f : ℤ = nearest_turn_of m.lo in
    let l : ℤ = nearest_turn_of m.hi in
    let fl : f ≤ℤ l = wrap_mono m.lo m.hi o in
    let a : ℤ = (anomalies_of eps (wrapped_of m f)).lo in
    let b : ℤ = (anomalies_of eps (wrapped_of m l)).hi in
    let p : (wrapped_of m f).lo <ℤ (mean_of eps (a +ℤ pos 2)).hi = lower_next eps (wrapped_of m f) i (wrapped_half m f o (same f) fl) in
    let q : (mean_of eps (b -ℤ pos 2)).lo <ℤ (wrapped_of m l).hi = upper_before eps (wrapped_of m l) i (wrapped_half m l o fl (same l)) in
    let ep : (mean_of eps ((a +ℤ pos 2) +ℤ (f *ℤ pos (2 ^ 38)))).hi ≡ (mean_of eps (a +ℤ pos 2)).hi +ℤ (f *ℤ pos (2 ^ 38)) = ap (λ t. t.hi) (mean_on eps (a +ℤ pos 2) f) in
    let eq : (mean_of eps ((b -ℤ pos 2) +ℤ (l *ℤ pos (2 ^ 38)))).lo ≡ (mean_of eps (b -ℤ pos 2)).lo +ℤ (l *ℤ pos (2 ^ 38)) = ap (λ t. t.lo) (mean_on eps (b -ℤ pos 2) l) in
    let p' : m.lo ≤ℤ (mean_of eps ((a +ℤ pos 2) +ℤ (f *ℤ pos (2 ^ 38)))).hi = reach_lo _ _ _ (f *ℤ pos (2 ^ 38)) _ p (first_lo m) ep in
    let q' : (mean_of eps ((b -ℤ pos 2) +ℤ (l *ℤ pos (2 ^ 38)))).lo ≤ℤ m.hi = reach_hi _ _ _ (l *ℤ pos (2 ^ 38)) _ q (last_hi m) eq in
    ends a b (f *ℤ pos (2 ^ 38)) (l *ℤ pos (2 ^ 38)) (span eps _ _ m.lo m.hi i n p' q' o)
  where
    reach_lo : (z g w t k : ℤ) → w <ℤ g → w ≡ z -ℤ t → k ≡ g +ℤ t → z ≤ℤ k
    reach_lo z g w t k h d e = omega (arith, ints)

    reach_hi : (z g w t k : ℤ) → g <ℤ w → w ≡ z -ℤ t → k ≡ g +ℤ t → k ≤ℤ z
    reach_hi z g w t k h d e = omega (arith, ints)

    ends : (a b x y : ℤ) → (((b -ℤ pos 2) +ℤ y) -ℤ ((a +ℤ pos 2) +ℤ x)) ≤ℤ ((pos 2 *ℤ (m.hi -ℤ m.lo)) +ℤ pos 14) → ((b +ℤ y) -ℤ (a +ℤ x)) ≤ℤ ((pos 2 *ℤ (m.hi -ℤ m.lo)) +ℤ pos 18)
    ends a b x y h = omega (arith, ints, h)

-- ---- the answer is inside the sine and cosine of these
wrap_inside : (m eps : Ends) (w : ℤ) → m.lo ≤ℤ m.hi → IsEccentricityInTurns eps → nearest_turn_of m.lo ≤ℤ w → w ≤ℤ nearest_turn_of m.hi → PairInside (wrap_pair m eps w) (sin_cos_of (spread m eps))
unfolding wrap_pair
wrap_inside m eps w o i h k = sin_cos_isotone (sym (sin_cos_on (anomalies_of eps (wrapped_of m w)) w)) (spread m eps) (spread_holds m eps w o i h k)

pub hull_inside : (m eps : Ends) → m.lo ≤ℤ m.hi → IsEccentricityInTurns eps → PairInside (hull_from (wrap_pair m eps) (nearest_turn_of m.lo) (wraps_of m)) (sin_cos_of (spread m eps))
hull_inside m eps o i = let lm = last_wrap m o in hulls_least (wrap_pair m eps) _ (nearest_turn_of m.lo) _ (λ w h k. wrap_inside m eps w o i h (rw lm at k))

-- each part is at most b wide
abbrev pub WidthsAtMost : PairEnds → ℤ → Type 0
WidthsAtMost p b = ((p.sine.hi -ℤ p.sine.lo) ≤ℤ b) × ((p.cosine.hi -ℤ p.cosine.lo) ≤ℤ b)

-- each part is at most 32 w + 2048 wide
pub ecc_narrow : {m eps : Ends} {r : PairEnds} → r ≡ ecc_sin_cos_of m eps → m.lo ≤ℤ m.hi → IsEccentricityInTurns eps → (eps.hi -ℤ eps.lo) ≤ℤ pos 4 → WidthsAtMost r ((pos 32 *ℤ (m.hi -ℤ m.lo)) +ℤ pos 2048)
unfolding ecc_sin_cos_of
ecc_narrow {m} {eps} {r} e o i n = rw e (by_width (le_z (pos (2 ^ 38)) (m.hi -ℤ m.lo)) refl)
  where
    ordered : (spread m eps).lo ≤ℤ (spread m eps).hi
    ordered = let fl = wrap_mono m.lo m.hi o in let p = spread_holds m eps (nearest_turn_of m.lo) o i (same (nearest_turn_of m.lo)) fl in between p.low p.ordered p.high
      where
        between : {x y z t : ℤ} → x ≤ℤ y → y ≤ℤ z → z ≤ℤ t → x ≤ℤ t
        between h k l = omega (arith, ints)

    less : {a b : Ends} → IsInside a b → (b.hi -ℤ b.lo) ≤ℤ ((pos 16 *ℤ ((spread m eps).hi -ℤ (spread m eps).lo)) +ℤ pos 256) → (a.hi -ℤ a.lo) ≤ℤ ((pos 32 *ℤ (m.hi -ℤ m.lo)) +ℤ pos 2048)
    less {a} {b} p w = numbers a.lo a.hi b.lo b.hi ((spread m eps).hi -ℤ (spread m eps).lo) p.low p.high w (spread_width m eps o i n)
      where
        numbers : (x y z t d : ℤ) → z ≤ℤ x → y ≤ℤ t → (t -ℤ z) ≤ℤ ((pos 16 *ℤ d) +ℤ pos 256) → d ≤ℤ ((pos 2 *ℤ (m.hi -ℤ m.lo)) +ℤ pos 18) → (y -ℤ x) ≤ℤ ((pos 32 *ℤ (m.hi -ℤ m.lo)) +ℤ pos 2048)
        numbers x y z t d h k l j = omega (arith, ints, l, j)

    by_width : (t : Bool) → le_z (pos (2 ^ 38)) (m.hi -ℤ m.lo) ≡ t → WidthsAtMost (cond t full_pair (hull_from (wrap_pair m eps) (nearest_turn_of m.lo) (wraps_of m))) ((pos 32 *ℤ (m.hi -ℤ m.lo)) +ℤ pos 2048)
    by_width true e = (omega (arith, ints), omega (arith, ints))
    by_width false e = let p = hull_inside m eps o i in let w = sin_cos_narrow {a = spread m eps} refl ordered in (less p.sine w.0, less p.cosine w.1)
