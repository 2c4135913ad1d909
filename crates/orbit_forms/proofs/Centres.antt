-- The bracket of the centre's eccentric anomaly, and the slope there.
use Rattle.std.specs.Prelude.{◌≡◌, ℤ, pos, ◌<◌, ◌*◌, ◌^◌, refl, ◌+ℤ◌, ◌-ℤ◌, ◌*ℤ◌, ◌≤ℤ◌, unsigned_abs, [], ◌∷◌}
use Rattle.std.proofs.Common.{arith, ap, sym, ◌∙◌, subst}
use Rattle.std.proofs.lemmas.Int.{ints}
use Rattle.std.proofs.lemmas.Nat.{pow_pos}
use Rattle.std.proofs.Math.Nat.{mul-pos}
use lib.Dec.{lit≤}
use Rattle.whole_numbers.specs.Rounding.{floor_of}
use Rattle.whole_numbers.proofs.Divisions.{floor_of_low, floor_of_high}
use Rattle.whole_numbers.proofs.Integers.{≤ℤ_refl, ≤ℤ_antisym}
use Rattle.fractions.specs.Fraction.{Fraction, ratio, whole, zeroᶠ, oneᶠ, ◌+ᶠ◌, ◌-ᶠ◌, ◌*ᶠ◌, neg, ◌≤ᶠ◌, IsNear}
use Rattle.fractions.proofs.Certificates.{at_most, not_negative, constants}
use Rattle.fractions.proofs.Laws.{≤ᶠ_refl}
use Rattle.fractions.proofs.Near.{near_weaken}
use Rattle.fractions.proofs.Quote.{quote}
use Rattle.fractions.proofs.Ratios.{ratio-mul, ratio-same, ratio_mono, ratio_at_most_out}
use Rattle.raim_model.specs.Constants.{tau}
use Rattle.raim_model.specs.Kepler.{SolvesKepler}
use Rattle.raim_model.specs.Level.{Level}
use Rattle.raim_model.specs.Sine.{IsSineCosine}
use Rattle.fix_interval.specs.Ends.{Ends}
use Rattle.fix_interval.specs.Lies.{Lies}
use Rattle.fix_interval.specs.Pairs.{PairLies}
use Rattle.fix_interval.specs.Ranges.{point}
use Rattle.series_laws.proofs.Turns.{pair_within}
use Rattle.trig_laws.specs.SinCos.{sin_cos_of}
use Rattle.trig_laws.proofs.Encloses.{sin_cos_encloses}
use Rattle.trig_laws.proofs.Narrow.{sin_cos_narrow}
use Rattle.kepler_laws.specs.Anomalies.{anomalies_of, IsEccentricityInTurns, IsWithinHalfTurn}
use Rattle.kepler_laws.specs.EccentricSine.{nearest_turn_of, wrapped_of}
use Rattle.kepler_laws.proofs.Anomalies.{anomalies_enclose}
use Rattle.kepler_laws.proofs.Widths.{spread_width}
use Rattle.kepler_laws.proofs.Wraps.{wrap_of, wrap_above, wrap_below, wrapped_lies, wrapped_half, kepler_back}
use Rattle.sine_lines.proofs.Kepler.{IsEccentricity, slope_low}
use Rattle.time_forms.specs.Forms.{Form, size}
use Rattle.time_forms.specs.Operations.{fixed_of}
use Rattle.orbit_forms.specs.Lines.{radians_of}
use Rattle.orbit_forms.specs.Anomalies.{bracket_at, anomaly_at, slope_at}
use Rattle.orbit_forms.proofs.Units.{units, unit, units-add, units-sub, units_mono}
use Rattle.orbit_forms.proofs.Lines.{slope_near, turns_near, turn_error, fixed_near}
use Rattle.orbit_forms.proofs.SinCos.{point_lies}
use Rattle.orbit_forms.proofs.Follows.{IsSlope}

-- ---- the bracket holds each solution
whole_units : (w : ℤ) → whole w ≡ units (w *ℤ pos (2 ^ 38))
whole_units w = ratio-same w (w *ℤ pos (2 ^ 38)) 1 (2 ^ 38) (lit≤ tt) (pow_pos 38) (scales w)
  where
    scales : (w : ℤ) → w *ℤ pos (2 ^ 38) ≡ (w *ℤ pos (2 ^ 38)) *ℤ pos 1
    scales w = omega (arith, ints)

turn_is : (c : ℤ) → wrap_of (units c) ≡ nearest_turn_of c
turn_is c = ≤ℤ_antisym _ _ (wrap_below c (units c) (≤ᶠ_refl (units c))) (wrap_above c (units c) (≤ᶠ_refl (units c)))

put_back : (a : Ends) (w : ℤ) (E : Fraction) → Lies a 38 (E -ᶠ whole w) → Lies record { lo = a.lo +ℤ (w *ℤ pos (2 ^ 38)); hi = a.hi +ℤ (w *ℤ pos (2 ^ 38)) } 38 E
put_back a w E l =
    let x : Fraction = units a.lo in
    let y : Fraction = units a.hi in
    let u : Fraction = whole w in
    let ll : x ≤ᶠ E -ᶠ u = l.low in
    let lh : E -ᶠ u ≤ᶠ y = l.high in
    let ex : x +ᶠ u ≡ units (a.lo +ℤ (w *ℤ pos (2 ^ 38))) = ap (λ t. x +ᶠ t) (whole_units w) ∙ sym (units-add a.lo (w *ℤ pos (2 ^ 38))) in
    let ey : y +ᶠ u ≡ units (a.hi +ℤ (w *ℤ pos (2 ^ 38))) = ap (λ t. y +ᶠ t) (whole_units w) ∙ sym (units-add a.hi (w *ℤ pos (2 ^ 38))) in
    let p : x +ᶠ u ≤ᶠ E = at_most (x ∷ u ∷ E ∷ []) ((E -ᶠ u) -ᶠ x) (search not_negative) (search quote depth 20) tt in
    let q : E ≤ᶠ y +ᶠ u = at_most (y ∷ u ∷ E ∷ []) (y -ᶠ (E -ᶠ u)) (search not_negative) (search quote depth 20) tt in
    record { low = subst (λ t. t ≤ᶠ E) ex p; high = subst (λ t. E ≤ᶠ t) ey q }

pub bracket_lies : (m : Form) (eps : Ends) (e : Fraction) → IsEccentricityInTurns eps → Lies eps 38 e → (N : Level) (E : Fraction) → SolvesKepler N (units m.centre) e E → Lies (bracket_at m eps) 38 E
bracket_lies m eps e i l N E p =
    let w : ℤ = nearest_turn_of m.centre in
    let C : Fraction = units m.centre in
    let a : Lies (wrapped_of (point m.centre) w) 38 (C -ᶠ whole w) = subst (λ k. Lies (wrapped_of (point m.centre) k) 38 (C -ᶠ whole k)) (turn_is m.centre) (wrapped_lies (point m.centre) C (point_lies m.centre)) in
    let h : IsWithinHalfTurn (wrapped_of (point m.centre) w) = wrapped_half (point m.centre) w (≤ℤ_refl m.centre) (≤ℤ_refl w) (≤ℤ_refl w) in
    let d : Lies (anomalies_of eps (wrapped_of (point m.centre) w)) 38 (E -ᶠ whole w) = anomalies_enclose refl i h N (C -ᶠ whole w) e (E -ᶠ whole w) a l (kepler_back N C e E w p) in
    put_back (anomalies_of eps (wrapped_of (point m.centre) w)) w E d

-- the remainder of fixed ends
remainder_below : (lo hi : ℤ) (k : ℤ) → (hi -ℤ lo) ≤ℤ (k +ℤ k) → (hi -ℤ floor_of (lo +ℤ hi) 2) ≤ℤ (k +ℤ pos 1)
remainder_below lo hi k h = let a = floor_of_high (lo +ℤ hi) 2 (lit≤ tt) in omega (arith, ints)

fixed_remainder : (e : Ends) (k : ℤ) → (e.hi -ℤ e.lo) ≤ℤ (k +ℤ k) → (fixed_of e).remainder ≤ℤ (k +ℤ pos 1)
unfolding fixed_of
fixed_remainder e k h = remainder_below e.lo e.hi k h

-- it leaves at most ten units
pub anomaly_remainder : (m : Form) (eps : Ends) → IsEccentricityInTurns eps → (eps.hi -ℤ eps.lo) ≤ℤ pos 4 → (anomaly_at m eps).remainder ≤ℤ pos 10
anomaly_remainder m eps i n = fixed_remainder (bracket_at m eps) (pos 9) (narrow ((bracket_at m eps).hi -ℤ (bracket_at m eps).lo) m.centre (spread_width (point m.centre) eps (≤ℤ_refl m.centre) i n))
  where
    narrow : (w c : ℤ) → w ≤ℤ ((pos 2 *ℤ (c -ℤ c)) +ℤ pos 18) → w ≤ℤ (pos 9 +ℤ pos 9)
    narrow w c h = omega (arith, ints)

-- ---- the slope
pub cosine_remainder : (k : ℤ) → (fixed_of (sin_cos_of (point k)).cosine).remainder ≤ℤ pos 129
cosine_remainder k = fixed_remainder (sin_cos_of (point k)).cosine (pos 128) (narrow _ k (sin_cos_narrow {a = point k} refl (≤ℤ_refl k)).1)
  where
    narrow : (w c : ℤ) → w ≤ℤ (pos 16 *ℤ (c -ℤ c) +ℤ pos 256) → w ≤ℤ (pos 128 +ℤ pos 128)
    narrow w c h = omega (arith, ints)

pub is_slope : (L : Level) (e E s c : Fraction) → IsEccentricity e → IsSineCosine L E s c → IsSlope (oneᶠ -ᶠ (tau *ᶠ e) *ᶠ c)
is_slope L e E s c i k =
    let el : zeroᶠ ≤ᶠ e = i.low in
    let eh : e ≤ᶠ ratio (pos 1) 128 = i.high in
    let cl : neg oneᶠ ≤ᶠ c = (pair_within L E s c k).1.low in
    let t : tau *ᶠ ratio (pos 1) 128 ≤ᶠ ratio (pos 1) 20 = constants (search quote depth 20) tt in
    record {
      low = slope_low L e E s c i k;
      high = at_most (e ∷ c ∷ []) ((tau *ᶠ e) *ᶠ (c -ᶠ neg oneᶠ) +ᶠ tau *ᶠ (ratio (pos 1) 128 -ᶠ e) +ᶠ (ratio (pos 1) 20 -ᶠ tau *ᶠ ratio (pos 1) 128)) (search not_negative) (search quote depth 20) tt;
    }

one_units : units (pos (2 ^ 38)) ≡ oneᶠ
one_units = ratio-same (pos (2 ^ 38)) (pos 1) (2 ^ 38) 1 (pow_pos 38) (lit≤ tt) refl

small_size : (z : ℤ) → pos 0 ≤ℤ z → z ≤ℤ pos (2 ^ 31) → size z ≤ℤ pos (2 ^ 37)
small_size z p q = omega (arith, ints)

-- the slope in units is within 16 units of that of the model
pub slope_close : (m : Form) (eps : Ends) (L : Level) (s c : Fraction) → IsEccentricityInTurns eps → IsEccentricity (units eps.lo) → IsSineCosine L (units (anomaly_at m eps).centre) s c
    → IsNear (units (slope_at m eps)) (oneᶠ -ᶠ (tau *ᶠ units eps.lo) *ᶠ c) (units (pos 16))
slope_close m eps L s c i ie k =
    let a : ℤ = (anomaly_at m eps).centre in
    let g : Form = fixed_of (sin_cos_of (point a)).cosine in
    let e : Fraction = units eps.lo in
    let T : Fraction = units (radians_of eps.lo) in
    let F : ℤ = floor_of (g.centre *ℤ radians_of eps.lo) (2 ^ 38) in
    let S : Fraction = units F in
    let el : zeroᶠ ≤ᶠ e = ie.low in
    let eh : e ≤ᶠ ratio (pos 1) 128 = ie.high in
    let l : PairLies (sin_cos_of (point a)) s c = sin_cos_encloses refl (≤ℤ_refl a) L (units a) s c (point_lies a) k in
    let one = (pair_within L (units a) s c k).1 in
    let n : IsNear c (units g.centre) (units (pos 129)) = near_weaken (units_mono (cosine_remainder a)) (fixed_near (sin_cos_of (point a)).cosine c l.cosine) in
    let t : IsNear (tau *ᶠ e) T turn_error = turns_near eps.lo (small_size eps.lo i.low (below eps.lo eps.hi i.ordered i.high)) in
    let tl : tau *ᶠ e ≤ᶠ T +ᶠ turn_error = t.low in
    let th : T ≤ᶠ tau *ᶠ e +ᶠ turn_error = t.high in
    let b : tau *ᶠ ratio (pos 1) 128 +ᶠ turn_error ≤ᶠ ratio (pos 1) 10 = constants (search quote depth 30) tt in
    let q : turn_error ≤ᶠ ratio (pos 1) 10 = constants (search quote depth 30) tt in
    let Th : T ≤ᶠ ratio (pos 1) 10 = at_most (e ∷ T ∷ []) (((tau *ᶠ e +ᶠ turn_error) -ᶠ T) +ᶠ tau *ᶠ (ratio (pos 1) 128 -ᶠ e) +ᶠ (ratio (pos 1) 10 -ᶠ (tau *ᶠ ratio (pos 1) 128 +ᶠ turn_error))) (search not_negative) (search quote depth 30) tt in
    let Tl : neg (ratio (pos 1) 10) ≤ᶠ T = at_most (e ∷ T ∷ []) (((T +ᶠ turn_error) -ᶠ tau *ᶠ e) +ᶠ tau *ᶠ e +ᶠ (ratio (pos 1) 10 -ᶠ turn_error)) (search not_negative) (search quote depth 30) tt in
    let p = slope_near c (units g.centre) (units (pos 129)) e T (ratio (pos 1) 10) S turn_error unit one n t Tl Th (Rattle.orbit_forms.proofs.Units.product_floor g.centre (radians_of eps.lo)) in
    let ed : units (slope_at m eps) ≡ oneᶠ -ᶠ S = units-sub (pos (2 ^ 38)) F ∙ ap (λ x. x -ᶠ S) one_units in
    subst (λ x. IsNear x (oneᶠ -ᶠ (tau *ᶠ e) *ᶠ c) (units (pos 16))) (sym ed) (turned e c S p.low p.high)
  where
    below : (x y : ℤ) → x ≤ℤ y → y ≤ℤ pos (2 ^ 31) → x ≤ℤ pos (2 ^ 31)
    below x y p q = omega (arith, ints)

    turned : (e c S : Fraction) → (tau *ᶠ c) *ᶠ e ≤ᶠ S +ᶠ ((ratio (pos 1) 10 *ᶠ units (pos 129) +ᶠ turn_error) +ᶠ unit) → S ≤ᶠ (tau *ᶠ c) *ᶠ e +ᶠ ((ratio (pos 1) 10 *ᶠ units (pos 129) +ᶠ turn_error) +ᶠ unit)
        → IsNear (oneᶠ -ᶠ S) (oneᶠ -ᶠ (tau *ᶠ e) *ᶠ c) (units (pos 16))
    turned e c S pl ph =
        let w : (ratio (pos 1) 10 *ᶠ units (pos 129) +ᶠ turn_error) +ᶠ unit ≤ᶠ units (pos 16) = constants (search quote depth 30) tt in
        record {
          low = at_most (e ∷ c ∷ S ∷ []) (((S +ᶠ ((ratio (pos 1) 10 *ᶠ units (pos 129) +ᶠ turn_error) +ᶠ unit)) -ᶠ (tau *ᶠ c) *ᶠ e) +ᶠ (units (pos 16) -ᶠ ((ratio (pos 1) 10 *ᶠ units (pos 129) +ᶠ turn_error) +ᶠ unit))) (search not_negative) (search quote depth 30) tt;
          high = at_most (e ∷ c ∷ S ∷ []) ((((tau *ᶠ c) *ᶠ e +ᶠ ((ratio (pos 1) 10 *ᶠ units (pos 129) +ᶠ turn_error) +ᶠ unit)) -ᶠ S) +ᶠ (units (pos 16) -ᶠ ((ratio (pos 1) 10 *ᶠ units (pos 129) +ᶠ turn_error) +ᶠ unit))) (search not_negative) (search quote depth 30) tt;
        }

-- ---- the quotient by the slope
record SlopeUnits (den : ℤ) : Type 0 where
  low : pos (2 ^ 37) ≤ℤ den
  high : units den ≤ᶠ ratio (pos 11) 10

slope_units : (den : ℤ) (k : Fraction) → IsSlope k → IsNear (units den) k (units (pos 16)) → SlopeUnits den
slope_units den k s n =
    let D : Fraction = units den in
    let kl : ratio (pos 19) 20 ≤ᶠ k = s.low in
    let kh : k ≤ᶠ ratio (pos 21) 20 = s.high in
    let nl : D ≤ᶠ k +ᶠ units (pos 16) = n.low in
    let nh : k ≤ᶠ D +ᶠ units (pos 16) = n.high in
    let a : ratio (pos 21) 20 +ᶠ units (pos 16) ≤ᶠ ratio (pos 11) 10 = constants (search quote depth 30) tt in
    let b : units (pos (2 ^ 37)) +ᶠ units (pos 16) ≤ᶠ ratio (pos 19) 20 = constants (search quote depth 30) tt in
    let l : units (pos (2 ^ 37)) ≤ᶠ D = at_most (D ∷ k ∷ []) (((D +ᶠ units (pos 16)) -ᶠ k) +ᶠ (k -ᶠ ratio (pos 19) 20) +ᶠ (ratio (pos 19) 20 -ᶠ (units (pos (2 ^ 37)) +ᶠ units (pos 16)))) (search not_negative) (search quote depth 30) tt in
    record {
      low = cancel den (ratio_at_most_out (pos (2 ^ 37)) den (2 ^ 38) (2 ^ 38) (pow_pos 38) (pow_pos 38) l);
      high = at_most (D ∷ k ∷ []) (((k +ᶠ units (pos 16)) -ᶠ D) +ᶠ (ratio (pos 21) 20 -ᶠ k) +ᶠ (ratio (pos 11) 10 -ᶠ (ratio (pos 21) 20 +ᶠ units (pos 16)))) (search not_negative) (search quote depth 30) tt;
    }
  where
    cancel : (z : ℤ) → (pos (2 ^ 37) *ℤ pos (2 ^ 38)) ≤ℤ (z *ℤ pos (2 ^ 38)) → pos (2 ^ 37) ≤ℤ z
    cancel z h = omega (arith, ints)

abs_is : (z : ℤ) → pos (2 ^ 37) ≤ℤ z → pos (unsigned_abs z) ≡ z
abs_is z h = omega (arith, ints)

abs_some : (z : ℤ) → pos (2 ^ 37) ≤ℤ z → 0 < unsigned_abs z
abs_some z h = omega (arith, ints)

quotient_close : (v den q : ℤ) → units den ≤ᶠ ratio (pos 11) 10 → (q *ℤ den) ≤ℤ (v *ℤ pos (2 ^ 38)) → (v *ℤ pos (2 ^ 38)) ≤ℤ ((q +ℤ pos 1) *ℤ den) → IsNear (units v) (units den *ᶠ units q) (ratio (pos 11) 10 *ᶠ unit)
quotient_close v den q dh l h =
    let D : Fraction = units den in
    let Q : Fraction = units q in
    let V : Fraction = units v in
    let ev : ratio (v *ℤ pos (2 ^ 38)) (2 ^ 38 * 2 ^ 38) ≡ V = ratio-same (v *ℤ pos (2 ^ 38)) v (2 ^ 38 * 2 ^ 38) (2 ^ 38) (mul-pos (pow_pos 38) (pow_pos 38)) (pow_pos 38) (scales v) in
    let el : ratio (q *ℤ den) (2 ^ 38 * 2 ^ 38) ≡ Q *ᶠ D = sym (ratio-mul q den (2 ^ 38) (2 ^ 38) (pow_pos 38) (pow_pos 38)) in
    let eh : ratio ((q +ℤ pos 1) *ℤ den) (2 ^ 38 * 2 ^ 38) ≡ (Q +ᶠ unit) *ᶠ D = sym (ratio-mul (q +ℤ pos 1) den (2 ^ 38) (2 ^ 38) (pow_pos 38) (pow_pos 38)) ∙ ap (λ x. x *ᶠ D) (units-add q (pos 1)) in
    let a : Q *ᶠ D ≤ᶠ V = rw (el, ev) at (ratio_mono (2 ^ 38 * 2 ^ 38) l) in
    let b : V ≤ᶠ (Q +ᶠ unit) *ᶠ D = rw (ev, eh) at (ratio_mono (2 ^ 38 * 2 ^ 38) h) in
    record {
      low = at_most (D ∷ Q ∷ V ∷ []) (((Q +ᶠ unit) *ᶠ D -ᶠ V) +ᶠ unit *ᶠ (ratio (pos 11) 10 -ᶠ D)) (search not_negative) (search quote depth 30) tt;
      high = at_most (D ∷ Q ∷ V ∷ []) ((V -ᶠ Q *ᶠ D) +ᶠ ratio (pos 11) 10 *ᶠ unit) (search not_negative) (search quote depth 30) tt;
    }
  where
    scales : (v : ℤ) → (v *ℤ pos (2 ^ 38)) *ℤ pos (2 ^ 38) ≡ v *ℤ pos (2 ^ 38 * 2 ^ 38)
    scales v = omega (arith, ints)

pub quotient_near : (v den : ℤ) (k : Fraction) → IsSlope k → IsNear (units den) k (units (pos 16)) → IsNear (units v) (units den *ᶠ units (floor_of (v *ℤ pos (2 ^ 38)) (unsigned_abs den))) (ratio (pos 11) 10 *ᶠ unit)
quotient_near v den k s n =
    let d = slope_units den k s n in
    let z : ℤ = v *ℤ pos (2 ^ 38) in
    let q : ℤ = floor_of z (unsigned_abs den) in
    let e : pos (unsigned_abs den) ≡ den = abs_is den d.low in
    let l : (q *ℤ pos (unsigned_abs den)) ≤ℤ z = floor_of_low z (unsigned_abs den) (abs_some den d.low) in
    let h : z ≤ℤ ((q +ℤ pos 1) *ℤ pos (unsigned_abs den)) = Rattle.orbit_forms.proofs.Units.floor_next z (unsigned_abs den) (abs_some den d.low) in
    quotient_close v den q d.high (subst (λ t. (q *ℤ t) ≤ℤ z) e l) (subst (λ t. z ≤ℤ ((q +ℤ pos 1) *ℤ t)) e h)
