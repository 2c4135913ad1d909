-- The two ends that halving finds: what they are, that they enclose each solution, and that they are isotone.
use Rattle.std.specs.Prelude.{◌≡◌, ℤ, pos, ◌^◌, ◌*◌, refl, ◌+ℤ◌, ◌-ℤ◌, neg_ℤ, ◌≤ℤ◌, ◌<ℤ◌, Bool, true, false, not, [], ◌∷◌}
use Rattle.std.proofs.Common.{arith, ap}
use Rattle.std.proofs.lemmas.Int.{ints}
use Rattle.std.proofs.lemmas.Nat.{pow_pos}
use lib.Dec.{lit≤}
use lib.Signed.{le_z}
use Rattle.fractions.specs.Fraction.{Fraction, ratio, ◌+ᶠ◌, ◌-ᶠ◌, ◌*ᶠ◌, ◌≤ᶠ◌}
use Rattle.fractions.proofs.Certificates.{at_most, not_negative, constants}
use Rattle.fractions.proofs.Laws.{≤ᶠ_refl, ≤ᶠ_trans}
use Rattle.fractions.proofs.Quote.{quote}
use Rattle.fractions.proofs.Ratios.{ratio_mono, ratio_at_most, ratio_at_most_out, ratio-add}
use Rattle.raim_model.specs.Kepler.{SolvesKepler}
use Rattle.raim_model.specs.Level.{Level}
use Rattle.fix_interval.specs.Ends.{Ends, IsInside}
use Rattle.fix_interval.specs.Lies.{Lies}
use Rattle.fix_interval.proofs.EndProducts.{mul_isotone}
use Rattle.fix_interval.proofs.EndSums.{sub_isotone}
use Rattle.series_laws.proofs.Pairs.{has_pair}
use Rattle.trig_laws.proofs.Close.{unit}
use Rattle.trig_laws.proofs.Encloses.{sin_cos_isotone}
use Rattle.kepler_laws.specs.Anomalies.{mean_of, is_below, is_above, last_below, first_above, bracket, anomalies_of, IsGreatest, IsLeast, IsEccentricityInTurns, IsWithinHalfTurn}
use Rattle.kepler_laws.proofs.Halvings.{lower_last, is_greatest, is_least}
use Rattle.kepler_laws.proofs.Rises.{IsEccentricity, rises, mean_encloses, below_solutions, above_solutions, gap52}
use Rattle.kepler_laws.proofs.Rising.{below_falls, above_rises, mean_near}

-- ---- a test and what it says
pub passed : (x y : ℤ) → le_z x y ≡ true → x ≤ℤ y
passed x y e = omega (arith, ints)

pub passes : (x y : ℤ) → x ≤ℤ y → le_z x y ≡ true
passes x y h = by_test (le_z x y) refl
  where
    by_test : (t : Bool) → le_z x y ≡ t → t ≡ true
    by_test true e = refl
    by_test false e = absurd (omega (arith, ints))

pub fails : (x y : ℤ) → y <ℤ x → le_z x y ≡ false
fails x y h = by_test (le_z x y) refl
  where
    by_test : (t : Bool) → le_z x y ≡ t → t ≡ false
    by_test true e = absurd (omega (arith, ints))
    by_test false e = refl

-- ---- what the ends are
pub bracket_order : neg_ℤ bracket <ℤ bracket
bracket_order = omega (arith, ints)

pub bracket_size : bracket ≤ℤ (neg_ℤ bracket +ℤ pos (2 ^ 40))
bracket_size = omega (arith, ints)

-- a unit inside the lower end is the greatest number whose mean anomaly is certainly at most m
pub lower_is : (eps m : Ends) → IsEccentricityInTurns eps → IsWithinHalfTurn m → IsGreatest (is_below eps m.lo) (neg_ℤ bracket) bracket (last_below eps m.lo)
lower_is eps m i h =
    let a = mean_near eps (neg_ℤ bracket) i in
    let b = mean_near eps bracket i in
    let hl = h.low in
    let ho = h.ordered in
    let hh = h.high in
    let first : (mean_of eps (neg_ℤ bracket)).hi ≤ℤ m.lo = omega (arith, ints, a.high) in
    let last : m.lo <ℤ (mean_of eps bracket).hi = omega (arith, ints, b.low, b.ordered) in
    is_greatest _ _ _ _ (below_falls eps m.lo i) (lower_last (is_below eps m.lo) 40 (neg_ℤ bracket) bracket (passes _ _ first) (fails _ _ last) bracket_order bracket_size)

-- a unit inside the upper end is the least number whose mean anomaly is certainly at least m
pub upper_is : (eps m : Ends) → IsEccentricityInTurns eps → IsWithinHalfTurn m → IsLeast (is_above eps m.hi) (neg_ℤ bracket) bracket (first_above eps m.hi)
upper_is eps m i h =
    let a = mean_near eps (neg_ℤ bracket) i in
    let b = mean_near eps bracket i in
    let hl = h.low in
    let ho = h.ordered in
    let hh = h.high in
    let first : (mean_of eps (neg_ℤ bracket)).lo <ℤ m.hi = omega (arith, ints, a.high, a.ordered) in
    let last : m.hi ≤ℤ (mean_of eps bracket).lo = omega (arith, ints, b.low) in
    is_least _ _ _ _ (above_rises eps m.hi i) (lower_last (λ k. not (is_above eps m.hi k)) 40 (neg_ℤ bracket) bracket (ap not (fails _ _ first)) (ap not (passes _ _ last)) bracket_order bracket_size)

-- ---- they enclose
pub eccentricity : (eps : Ends) (e : Fraction) → IsEccentricityInTurns eps → Lies eps 38 e → IsEccentricity e
eccentricity eps e i l = record {
  low = ≤ᶠ_trans (ratio_at_most (pos 0) eps.lo 1 (2 ^ 38) (lit≤ tt) (pow_pos 38) (omega (arith, ints, i.low))) l.low;
  high = ≤ᶠ_trans l.high (ratio_at_most eps.hi (pos 1) (2 ^ 38) 128 (pow_pos 38) (lit≤ tt) (omega (arith, ints, i.high)));
}

-- each solution lies between the ends, at each level
pub anomalies_enclose : {eps m r : Ends} → r ≡ anomalies_of eps m → IsEccentricityInTurns eps → IsWithinHalfTurn m → (N : Level) (M e E : Fraction) → Lies m 38 M → Lies eps 38 e → SolvesKepler N M e E → Lies r 38 E
unfolding anomalies_of
anomalies_enclose {eps} {m} {r} q i h N M e E l k p =
    let low = lower_is eps m i h in
    let high = upper_is eps m i h in
    let j = eccentricity eps e i k in
    rw q record {
      low = below_solutions N eps _ m.lo M e E j k (passed _ _ low.holds) l.low p;
      high = above_solutions N eps _ m.hi M e E j k (passed _ _ high.holds) l.high p;
    }

-- ---- they are isotone
mean_isotone : (eps c : Ends) (k : ℤ) → IsInside eps c → IsInside (mean_of eps k) (mean_of c k)
unfolding mean_of
mean_isotone eps c k p =
    let o : k ≤ℤ k = omega (arith, ints) in
    let at : IsInside record { lo = k; hi = k } record { lo = k; hi = k } = record { low = o; ordered = o; high = o } in
    sub_isotone refl _ _ at (mul_isotone refl c _ p (sin_cos_isotone refl _ at).sine)

-- the mean anomalies of r and s, r's at most and s's at least the same number, are in order
ends_order : (eps : Ends) (m : ℤ) (r s : ℤ) → IsEccentricityInTurns eps → (mean_of eps r).hi ≤ℤ m → m ≤ℤ (mean_of eps s).lo → r ≤ℤ s
ends_order eps m r s i h k = by_test (le_z r s) refl
  where
    level : Level
    level = record { terms = 100; enough = lit≤ tt }

    impossible : s <ℤ r → ⊥
    impossible o =
        let e : Fraction = ratio eps.lo (2 ^ 38) in
        let le : Lies eps 38 e = record { low = ≤ᶠ_refl e; high = ratio_mono (2 ^ 38) i.ordered } in
        let x : Fraction = ratio r (2 ^ 38) in
        let y : Fraction = ratio s (2 ^ 38) in
        let p = has_pair level x in
        let q = has_pair level y in
        let a : Fraction = p.sine in
        let b : Fraction = q.sine in
        let xm : x -ᶠ e *ᶠ a ≤ᶠ ratio m (2 ^ 38) = ≤ᶠ_trans (mean_encloses level eps r e a p.cosine le p.pair).high (ratio_mono (2 ^ 38) h) in
        let my : ratio m (2 ^ 38) ≤ᶠ y -ᶠ e *ᶠ b = ≤ᶠ_trans (ratio_mono (2 ^ 38) k) (mean_encloses level eps s e b q.cosine le q.pair).low in
        let z : Fraction = ratio m (2 ^ 38) in
        let o' : (s +ℤ pos 1) ≤ℤ r = omega (arith, ints) in
        let yx : y +ᶠ unit ≤ᶠ x = rw (ratio-add s (pos 1) (2 ^ 38)) (ratio_mono (2 ^ 38) o') in
        let un : y ≤ᶠ x = ratio_mono (2 ^ 38) (omega (arith, ints)) in
        let g : ratio (pos 118) 128 *ᶠ (x -ᶠ y) ≤ᶠ ((x -ᶠ e *ᶠ a) -ᶠ (y -ᶠ e *ᶠ b)) +ᶠ gap52 = rises level level e y x b q.cosine a p.cosine (eccentricity eps e i le) un q.pair p.pair in
        let bad : ratio (pos 118) 128 *ᶠ unit ≤ᶠ gap52 = at_most (x ∷ y ∷ z ∷ e ∷ a ∷ b ∷ [])
        ((((((x -ᶠ e *ᶠ a) -ᶠ (y -ᶠ e *ᶠ b)) +ᶠ gap52) -ᶠ ratio (pos 118) 128 *ᶠ (x -ᶠ y)) +ᶠ (z -ᶠ (x -ᶠ e *ᶠ a)) +ᶠ ((y -ᶠ e *ᶠ b) -ᶠ z)) +ᶠ ratio (pos 118) 128 *ᶠ (x -ᶠ (y +ᶠ unit)))
        (search not_negative depth 10) (search quote depth 40 fits 30000) tt in
        too_small bad
      where
        too_small : ratio (pos 118) 128 *ᶠ unit ≤ᶠ gap52 → ⊥
        too_small h =
            let l : ratio (pos 118) (128 * 2 ^ 38) ≤ᶠ ratio (pos 118) 128 *ᶠ unit = constants (search quote depth 20) tt in
            let w = ratio_at_most_out (pos 118) (pos 1) (128 * 2 ^ 38) (2 ^ 52) (lit≤ tt) (pow_pos 52) (≤ᶠ_trans l h) in
            omega (arith, ints, w)

    by_test : (t : Bool) → le_z r s ≡ t → r ≤ℤ s
    by_test true e = omega (arith, ints)
    by_test false e = absurd (impossible (omega (arith, ints)))

-- wider mean anomalies and eccentricities give wider ends
pub anomalies_isotone : {eps m r : Ends} → r ≡ anomalies_of eps m → (f c : Ends) → IsEccentricityInTurns f → IsWithinHalfTurn c → IsInside eps f → IsInside m c → IsInside r (anomalies_of f c)
unfolding anomalies_of
anomalies_isotone {eps} {m} {r} q f c i h p k =
    let j : IsEccentricityInTurns eps = record { low = omega (arith, ints, p.low, i.low); ordered = p.ordered; high = omega (arith, ints, p.high, i.high) } in
    let n : IsWithinHalfTurn m = record { low = omega (arith, ints, k.low, h.low); ordered = k.ordered; high = omega (arith, ints, k.high, h.high) } in
    let low = lower_is eps m j n in
    let high = upper_is eps m j n in
    let low' = lower_is f c i h in
    let high' = upper_is f c i h in
    let ml = mean_isotone eps f _ p in
    let mh = mean_isotone eps f _ p in
    let below : (mean_of eps (last_below f c.lo)).hi ≤ℤ m.lo = both ml.high (passed _ _ low'.holds) k.low in
    let above : m.hi ≤ℤ (mean_of eps (first_above f c.hi)).lo = both k.high (passed _ _ high'.holds) mh.low in
    let l = low.greatest _ low'.high (passes _ _ below) in
    let u = high.least _ high'.low (passes _ _ above) in
    let o = ends_order eps m.lo _ _ j (passed _ _ low.holds) (both k.ordered (passed _ _ high.holds) (self _)) in
    rw q record { low = lower l; ordered = wider o; high = upper u }
  where
    both : {x y z w : ℤ} → x ≤ℤ y → y ≤ℤ z → z ≤ℤ w → x ≤ℤ w
    both h k l = omega (arith, ints)

    self : (x : ℤ) → x ≤ℤ x
    self x = omega (arith, ints)

    lower : {x y : ℤ} → x ≤ℤ y → (x -ℤ pos 1) ≤ℤ (y -ℤ pos 1)
    lower h = omega (arith, ints)

    upper : {x y : ℤ} → x ≤ℤ y → (x +ℤ pos 1) ≤ℤ (y +ℤ pos 1)
    upper h = omega (arith, ints)

    wider : {x y : ℤ} → x ≤ℤ y → (x -ℤ pos 1) ≤ℤ (y +ℤ pos 1)
    wider h = omega (arith, ints)
