-- The sine and cosine of the eccentric anomaly enclose each solution, and wider inputs give wider answers.
use Rattle.std.specs.Prelude.{◌≡◌, ℕ, ℤ, pos, ◌*◌, ◌^◌, refl, ◌+ℤ◌, ◌-ℤ◌, ◌*ℤ◌, neg_ℤ, ◌≤◌, ◌≤ℤ◌, ◌<ℤ◌, Bool, true, false, cond, unsigned_abs, [], ◌∷◌}
use Rattle.std.proofs.Common.{arith, ap, ◌∙◌}
use Rattle.std.proofs.lemmas.Int.{ints, clamps}
use Rattle.std.proofs.lemmas.Nat.{pow_pos}
use lib.Dec.{lit≤}
use lib.Signed.{le_z}
use Rattle.whole_numbers.specs.Rounding.{floor_of}
use Rattle.whole_numbers.proofs.Divisions.{floor_of_mono, floor_parts_low, floor_parts_high}
use Rattle.fractions.specs.Floor.{floor}
use Rattle.fractions.specs.Fraction.{Fraction, ratio, whole, oneᶠ, ◌+ᶠ◌, ◌-ᶠ◌, neg, ◌≤ᶠ◌, ◌*ᶠ◌}
use Rattle.fractions.proofs.Certificates.{at_most, not_negative}
use Rattle.fractions.proofs.Floors.{floor_low, floor_high, ratio-floor_of, at_most-floor}
use Rattle.fractions.proofs.Laws.{≤ᶠ_refl, ≤ᶠ_trans, +ᶠ_mono_left}
use Rattle.fractions.proofs.Quote.{quote}
use Rattle.fractions.proofs.Ratios.{ratio-same, ratio-add, ratio_at_most_out, neg-ratio}
use Rattle.fractions.proofs.StrictOrder.{<ᶠ_at_most}
use Rattle.raim_model.specs.Kepler.{SolvesKepler}
use Rattle.raim_model.specs.Level.{Level}
use Rattle.raim_model.specs.Sine.{IsSineCosine}
use Rattle.fix_interval.specs.Bounds.{clamp_of}
use Rattle.fix_interval.specs.Ends.{Ends, IsInside}
use Rattle.fix_interval.specs.Lies.{Lies}
use Rattle.fix_interval.specs.Sums.{sub_of}
use Rattle.fix_interval.proofs.EndBounds.{clamp_encloses}
use Rattle.fix_interval.proofs.EndSums.{sub_encloses}
use Rattle.fix_interval.specs.Pairs.{PairEnds, full_pair, PairLies, PairInside, hull_from}
use Rattle.fix_interval.proofs.EndPairs.{full_self, last_of_range, hulls_lie, hulls_above, hulls_least}
use Rattle.fix_interval.proofs.EndInsides.{inside_self}
use Rattle.series_laws.proofs.Periods.{sine_back}
use Rattle.trig_laws.proofs.Encloses.{sin_cos_encloses, sin_cos_isotone, sin_cos_full, full_lies}
use Rattle.kepler_laws.specs.Anomalies.{anomalies_of, IsEccentricityInTurns, IsWithinHalfTurn}
use Rattle.kepler_laws.specs.EccentricSine.{nearest_turn_of, wrapped_of, wrap_pair, ecc_sin_cos_of}
use Rattle.kepler_laws.proofs.Anomalies.{anomalies_enclose, anomalies_isotone}
use Rattle.std.proofs.Common.{sym}

-- ---- the turn of a fraction is between those of the ends
abbrev pub wrap_of : Fraction → ℤ
wrap_of M = floor (M +ᶠ ratio (pos 1) 2)

scaled : (z : ℤ) → ratio z (2 ^ 38) +ᶠ ratio (pos 1) 2 ≡ ratio (z +ℤ pos (2 ^ 37)) (2 ^ 38 * 1)
scaled z = ap (λ t. ratio z (2 ^ 38) +ᶠ t) (ratio-same (pos 1) (pos (2 ^ 37)) 2 (2 ^ 38) (lit≤ tt) (pow_pos 38) refl) ∙ ratio-add z (pos (2 ^ 37)) (2 ^ 38)

pub wrap_above : (z : ℤ) (M : Fraction) → ratio z (2 ^ 38) ≤ᶠ M → nearest_turn_of z ≤ℤ wrap_of M
wrap_above z M h =
    let k : ratio z (2 ^ 38) +ᶠ ratio (pos 1) 2 ≤ᶠ M +ᶠ ratio (pos 1) 2 = +ᶠ_mono_left (ratio (pos 1) 2) h in
    (at_most-floor (nearest_turn_of z) _).1 (≤ᶠ_trans (ratio-floor_of (z +ℤ pos (2 ^ 37)) (2 ^ 38) 1 (pow_pos 38) (lit≤ tt)) (rw (scaled z) at k))

pub wrap_below : (z : ℤ) (M : Fraction) → M ≤ᶠ ratio z (2 ^ 38) → wrap_of M ≤ℤ nearest_turn_of z
wrap_below z M h =
    let k : M +ᶠ ratio (pos 1) 2 ≤ᶠ ratio z (2 ^ 38) +ᶠ ratio (pos 1) 2 = +ᶠ_mono_left (ratio (pos 1) 2) h in
    let f : whole (wrap_of M) ≤ᶠ ratio (z +ℤ pos (2 ^ 37)) (2 ^ 38 * 1) = ≤ᶠ_trans (floor_low _) (rw (scaled z) at k) in
    least (wrap_of M) (z +ℤ pos (2 ^ 37)) (ratio_at_most_out (wrap_of M) (z +ℤ pos (2 ^ 37)) 1 (2 ^ 38) (lit≤ tt) (pow_pos 38) f)
  where
    least : (q y : ℤ) → (q *ℤ pos (2 ^ 38)) ≤ℤ (y *ℤ pos 1) → q ≤ℤ floor_of y (2 ^ 38)
    least q y h = omega (arith, ints, floor_parts_high y (2 ^ 38) (pow_pos 38))

pub wrap_mono : (y z : ℤ) → y ≤ℤ z → nearest_turn_of y ≤ℤ nearest_turn_of z
wrap_mono y z h = floor_of_mono (y +ℤ pos (2 ^ 37)) (z +ℤ pos (2 ^ 37)) (2 ^ 38) (pow_pos 38) (omega (arith, ints))

pub wrap_spans : (z w : ℤ) → nearest_turn_of z ≤ℤ w → (z -ℤ w *ℤ pos (2 ^ 38)) ≤ℤ pos (2 ^ 37)
wrap_spans z w h = omega (arith, ints, floor_parts_high (z +ℤ pos (2 ^ 37)) (2 ^ 38) (pow_pos 38))

pub spans_wrap : (z w : ℤ) → w ≤ℤ nearest_turn_of z → neg_ℤ (pos (2 ^ 37)) ≤ℤ (z -ℤ w *ℤ pos (2 ^ 38))
spans_wrap z w h = omega (arith, ints, floor_parts_low (z +ℤ pos (2 ^ 37)) (2 ^ 38) (pow_pos 38))

-- ---- what is left at a turn
whole_lies : (w : ℤ) → Lies record { lo = w *ℤ pos (2 ^ 38); hi = w *ℤ pos (2 ^ 38) } 38 (whole w)
whole_lies w = record { low = rw e (≤ᶠ_refl _); high = rw e (≤ᶠ_refl _) }
  where
    scales : (w : ℤ) → w *ℤ pos (2 ^ 38) ≡ (w *ℤ pos (2 ^ 38)) *ℤ pos 1
    scales w = omega (arith, ints)

    e : whole w ≡ ratio (w *ℤ pos (2 ^ 38)) (2 ^ 38)
    e = ratio-same w (w *ℤ pos (2 ^ 38)) 1 (2 ^ 38) (lit≤ tt) (pow_pos 38) (scales w)

half_turn : ratio (pos (2 ^ 37)) (2 ^ 38) ≡ ratio (pos 1) 2
half_turn = ratio-same (pos (2 ^ 37)) (pos 1) (2 ^ 38) 2 (pow_pos 38) (lit≤ tt) refl

pub wrapped_lies : (m : Ends) (M : Fraction) → Lies m 38 M → Lies (wrapped_of m (wrap_of M)) 38 (M -ᶠ whole (wrap_of M))
unfolding wrapped_of
wrapped_lies m M l =
    let w : Fraction = whole (wrap_of M) in
    let f : w ≤ᶠ M +ᶠ ratio (pos 1) 2 = floor_low _ in
    let g : M +ᶠ ratio (pos 1) 2 ≤ᶠ w +ᶠ oneᶠ = rw (ratio-add (wrap_of M) (pos 1) 1) (<ᶠ_at_most (floor_high _)) in
    let low : neg (ratio (pos 1) 2) ≤ᶠ M -ᶠ w = at_most (M ∷ w ∷ []) ((M +ᶠ ratio (pos 1) 2) -ᶠ w) (search not_negative) (search quote depth 20) tt in
    let high : M -ᶠ w ≤ᶠ ratio (pos 1) 2 = at_most (M ∷ w ∷ []) ((w +ᶠ oneᶠ) -ᶠ (M +ᶠ ratio (pos 1) 2)) (search not_negative) (search quote depth 20) tt in
    clamp_encloses (pos (2 ^ 37)) refl 38 (M -ᶠ w) (sub_encloses refl 38 M _ l (whole_lies (wrap_of M))) (rw (sym (neg-ratio (pos (2 ^ 37)) (2 ^ 38)), half_turn) low) (rw half_turn high)

pub wrapped_half : (m : Ends) (w : ℤ) → m.lo ≤ℤ m.hi → nearest_turn_of m.lo ≤ℤ w → w ≤ℤ nearest_turn_of m.hi → IsWithinHalfTurn (wrapped_of m w)
unfolding wrapped_of clamp_of sub_of
wrapped_half m w o h k =
    let i = wrap_spans m.lo w h in
    let j = spans_wrap m.hi w k in
    record { low = omega (arith, ints, clamps); ordered = omega (arith, ints, clamps); high = omega (arith, ints, clamps) }

pub wrapped_isotone : (m d : Ends) (w : ℤ) → nearest_turn_of m.lo ≤ℤ w → w ≤ℤ nearest_turn_of m.hi → IsInside m d → IsInside (wrapped_of m w) (wrapped_of d w)
unfolding wrapped_of clamp_of sub_of
wrapped_isotone m d w h k p =
    let i = wrap_spans m.lo w h in
    let j = spans_wrap m.hi w k in
    record { low = omega (arith, ints, clamps); ordered = omega (arith, ints, clamps); high = omega (arith, ints, clamps) }

pub anomalies_ordered : (eps m : Ends) → IsEccentricityInTurns eps → IsWithinHalfTurn m → (anomalies_of eps m).lo ≤ℤ (anomalies_of eps m).hi
anomalies_ordered eps m i h = (anomalies_isotone refl eps m i h (inside_self eps i.ordered) (inside_self m h.ordered)).ordered

-- ---- a solution, w turns back
pub kepler_back : (N : Level) (M eps E : Fraction) (w : ℤ) → SolvesKepler N M eps E → SolvesKepler N (M -ᶠ whole w) eps (E -ᶠ whole w)
kepler_back N M eps E w p =
    let a : Fraction = p.before in
    let b : Fraction = p.after in
    let s : Fraction = p.sine_before in
    let t : Fraction = p.sine_after in
    let g : Fraction = ratio (pos 1) (2 ^ N.terms) in
    let x : Fraction = whole w in
    let aE : a ≤ᶠ E = p.from_before in
    let Eb : E ≤ᶠ b = p.to_after in
    let ba : b -ᶠ a ≤ᶠ g = p.close in
    let la : a -ᶠ eps *ᶠ s ≤ᶠ M = p.below in
    let hb : M ≤ᶠ b -ᶠ eps *ᶠ t = p.above in
    record {
      before = p.before -ᶠ whole w;
      after = p.after -ᶠ whole w;
      from_before = at_most (a ∷ E ∷ x ∷ []) (E -ᶠ a) (search not_negative) (search quote depth 20) tt;
      to_after = at_most (b ∷ E ∷ x ∷ []) (b -ᶠ E) (search not_negative) (search quote depth 20) tt;
      close = at_most (a ∷ b ∷ x ∷ g ∷ []) (g -ᶠ (b -ᶠ a)) (search not_negative) (search quote depth 20) tt;
      sine_before = p.sine_before;
      is_sine_before = record { cosine = p.is_sine_before.cosine; pair = sine_back N p.before p.sine_before p.is_sine_before.cosine w p.is_sine_before.pair };
      sine_after = p.sine_after;
      is_sine_after = record { cosine = p.is_sine_after.cosine; pair = sine_back N p.after p.sine_after p.is_sine_after.cosine w p.is_sine_after.pair };
      below = at_most (a ∷ eps ∷ s ∷ M ∷ x ∷ []) (M -ᶠ (a -ᶠ eps *ᶠ s)) (search not_negative) (search quote depth 20) tt;
      above = at_most (b ∷ eps ∷ t ∷ M ∷ x ∷ []) ((b -ᶠ eps *ᶠ t) -ᶠ M) (search not_negative) (search quote depth 20) tt;
    }

-- ---- one turn
wrap_encloses : (m eps : Ends) → m.lo ≤ℤ m.hi → IsEccentricityInTurns eps → (N : Level) (M e E s c : Fraction) → Lies m 38 M → Lies eps 38 e → SolvesKepler N M e E → IsSineCosine N E s c → PairLies (wrap_pair m eps (wrap_of M)) s c
unfolding wrap_pair
wrap_encloses m eps o i N M e E s c l k p q =
    let w : ℤ = wrap_of M in
    let h : IsWithinHalfTurn (wrapped_of m w) = wrapped_half m w o (wrap_above m.lo M l.low) (wrap_below m.hi M l.high) in
    let d : Lies (anomalies_of eps (wrapped_of m w)) 38 (E -ᶠ whole w) = anomalies_enclose refl i h N (M -ᶠ whole w) e (E -ᶠ whole w) (wrapped_lies m M l) k (kepler_back N M e E w p) in
    sin_cos_encloses refl (anomalies_ordered eps (wrapped_of m w) i h) N (E -ᶠ whole w) s c d (sine_back N E s c w q)

wrap_isotone : (m eps d f : Ends) (w : ℤ) → nearest_turn_of m.lo ≤ℤ w → w ≤ℤ nearest_turn_of m.hi → IsEccentricityInTurns f → IsInside m d → IsInside eps f → PairInside (wrap_pair m eps w) (wrap_pair d f w)
unfolding wrap_pair
wrap_isotone m eps d f w h k i p q =
    let od : d.lo ≤ℤ d.hi = omega (arith, ints, p.low, p.ordered, p.high) in
    let dl : nearest_turn_of d.lo ≤ℤ w = through (wrap_mono d.lo m.lo p.low) h in
    let dh : w ≤ℤ nearest_turn_of d.hi = through k (wrap_mono m.hi d.hi p.high) in
    let n : IsWithinHalfTurn (wrapped_of d w) = wrapped_half d w od dl dh in
    sin_cos_isotone refl _ (anomalies_isotone refl f (wrapped_of d w) i n q (wrapped_isotone m d w h k p))
  where
    through : {x y z : ℤ} → x ≤ℤ y → y ≤ℤ z → x ≤ℤ z
    through h k = omega (arith, ints)

wrap_full : (m eps : Ends) (w : ℤ) → m.lo ≤ℤ m.hi → IsEccentricityInTurns eps → nearest_turn_of m.lo ≤ℤ w → w ≤ℤ nearest_turn_of m.hi → PairInside (wrap_pair m eps w) full_pair
unfolding wrap_pair
wrap_full m eps w o i h k = sin_cos_full _ (anomalies_ordered eps (wrapped_of m w) i (wrapped_half m w o h k))

-- ---- the whole
-- the turns from the first to the last
abbrev pub wraps_of : Ends → ℕ
wraps_of m = unsigned_abs (nearest_turn_of m.hi -ℤ nearest_turn_of m.lo)

pub last_wrap : (m : Ends) → m.lo ≤ℤ m.hi → nearest_turn_of m.lo +ℤ pos (wraps_of m) ≡ nearest_turn_of m.hi
last_wrap m o = last_of_range _ _ (wrap_mono m.lo m.hi o)

-- each sine and cosine of each solution lies in the answer, at each level
pub ecc_encloses : {m eps : Ends} {r : PairEnds} → r ≡ ecc_sin_cos_of m eps → m.lo ≤ℤ m.hi → IsEccentricityInTurns eps → (N : Level) (M e E s c : Fraction) → Lies m 38 M → Lies eps 38 e → SolvesKepler N M e E → IsSineCosine N E s c → PairLies r s c
unfolding ecc_sin_cos_of
ecc_encloses {m} {eps} {r} g o i N M e E s c l k p q = rw g (by_width (le_z (pos (2 ^ 38)) (m.hi -ℤ m.lo)))
  where
    by_width : (t : Bool) → PairLies (cond t full_pair (hull_from (wrap_pair m eps) (nearest_turn_of m.lo) (wraps_of m))) s c
    by_width true = full_lies N E s c q
    by_width false = hulls_lie (wrap_pair m eps) (nearest_turn_of m.lo) (wrap_of M) _ s c (wrap_above m.lo M l.low) (rw (last_wrap m o) (wrap_below m.hi M l.high)) (wrap_encloses m eps o i N M e E s c l k p q)

narrow_full : (m eps : Ends) → m.lo ≤ℤ m.hi → IsEccentricityInTurns eps → PairInside (hull_from (wrap_pair m eps) (nearest_turn_of m.lo) (wraps_of m)) full_pair
narrow_full m eps o i = let lm = last_wrap m o in hulls_least (wrap_pair m eps) _ (nearest_turn_of m.lo) _ (λ w h k. wrap_full m eps w o i h (rw lm at k))

narrow_isotone : (m eps d f : Ends) → IsEccentricityInTurns f → IsInside m d → IsInside eps f → PairInside (hull_from (wrap_pair m eps) (nearest_turn_of m.lo) (wraps_of m)) (hull_from (wrap_pair d f) (nearest_turn_of d.lo) (wraps_of d))
narrow_isotone m eps d f i p q =
    let od : d.lo ≤ℤ d.hi = omega (arith, ints, p.low, p.ordered, p.high) in
    let lm : nearest_turn_of m.lo +ℤ pos (wraps_of m) ≡ nearest_turn_of m.hi = last_wrap m p.ordered in
    let ld : nearest_turn_of d.lo +ℤ pos (wraps_of d) ≡ nearest_turn_of d.hi = last_wrap d od in
    let ml = wrap_mono d.lo m.lo p.low in
    let mh = wrap_mono m.hi d.hi p.high in
    hulls_least (wrap_pair m eps) _ (nearest_turn_of m.lo) _ (λ w h k.
    let j : w ≤ℤ nearest_turn_of m.hi = rw lm at k in
    hulls_above (wrap_pair d f) (wrap_pair m eps w) (nearest_turn_of d.lo) w _ (through ml h) (rw ld (through j mh)) (wrap_isotone m eps d f w h j i p q))
  where
    through : {x y z : ℤ} → x ≤ℤ y → y ≤ℤ z → x ≤ℤ z
    through h k = omega (arith, ints)

not_wide : (a c : Ends) → IsInside a c → le_z (pos (2 ^ 38)) (c.hi -ℤ c.lo) ≡ false → le_z (pos (2 ^ 38)) (a.hi -ℤ a.lo) ≡ true → ⊥
not_wide a c p d e = omega (arith, ints, p.low, p.high)

-- wider mean anomalies and eccentricities give wider answers
pub ecc_isotone : {m eps : Ends} {r : PairEnds} → r ≡ ecc_sin_cos_of m eps → (d f : Ends) → IsEccentricityInTurns f → IsInside m d → IsInside eps f → PairInside r (ecc_sin_cos_of d f)
unfolding ecc_sin_cos_of
ecc_isotone {m} {eps} {r} g d f i p q = rw g (by_width (le_z (pos (2 ^ 38)) (m.hi -ℤ m.lo)) (le_z (pos (2 ^ 38)) (d.hi -ℤ d.lo)) refl refl)
  where
    j : IsEccentricityInTurns eps
    j = record { low = omega (arith, ints, q.low, i.low); ordered = q.ordered; high = omega (arith, ints, q.high, i.high) }

    by_width : (t v : Bool) → le_z (pos (2 ^ 38)) (m.hi -ℤ m.lo) ≡ t → le_z (pos (2 ^ 38)) (d.hi -ℤ d.lo) ≡ v
        → PairInside (cond t full_pair (hull_from (wrap_pair m eps) (nearest_turn_of m.lo) (wraps_of m))) (cond v full_pair (hull_from (wrap_pair d f) (nearest_turn_of d.lo) (wraps_of d)))
    by_width true true a b = full_self
    by_width true false a b = absurd (not_wide m d p b a)
    by_width false true a b = narrow_full m eps p.ordered j
    by_width false false a b = narrow_isotone m eps d f i p q

-- each part is an interval from -1 to 1
pub ecc_full : (m eps : Ends) → m.lo ≤ℤ m.hi → IsEccentricityInTurns eps → PairInside (ecc_sin_cos_of m eps) full_pair
unfolding ecc_sin_cos_of
ecc_full m eps o i = by_width (le_z (pos (2 ^ 38)) (m.hi -ℤ m.lo))
  where
    by_width : (t : Bool) → PairInside (cond t full_pair (hull_from (wrap_pair m eps) (nearest_turn_of m.lo) (wraps_of m))) full_pair
    by_width true = full_self
    by_width false = narrow_full m eps o i

-- mean anomalies less than a turn wide meet at most two turns
pub wraps_few : (m : Ends) → m.lo ≤ℤ m.hi → (m.hi -ℤ m.lo) <ℤ pos (2 ^ 38) → wraps_of m ≤ 1
wraps_few m o h =
    let l : ℤ = m.lo +ℤ pos (2 ^ 37) in
    let k : ℤ = m.hi +ℤ pos (2 ^ 37) in
    omega (arith, ints, floor_parts_high l (2 ^ 38) (pow_pos 38), floor_parts_low k (2 ^ 38) (pow_pos 38), wrap_mono m.lo m.hi o)
