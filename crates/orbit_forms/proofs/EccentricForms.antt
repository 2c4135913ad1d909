-- The sine and the cosine of the form of an eccentric anomaly hold those of what the mean anomaly's form holds.
use Rattle.std.specs.Prelude.{◌≡◌, ℕ, ℤ, pos, ◌^◌, refl, ◌+ℤ◌, ◌-ℤ◌, ◌*ℤ◌, ◌≤ℤ◌, ◌<ℤ◌, unsigned_abs, [], ◌∷◌}
use Rattle.std.proofs.Common.{arith, ap, ap₂, sym, ◌∙◌, subst}
use Rattle.std.proofs.lemmas.Int.{ints}
use lib.Dec.{lit≤}
use Rattle.whole_numbers.specs.Rounding.{floor_of}
use Rattle.whole_numbers.proofs.Divisions.{floor_of_high}
use Rattle.fractions.specs.Fraction.{Fraction, ratio, zeroᶠ, oneᶠ, ◌+ᶠ◌, ◌-ᶠ◌, ◌*ᶠ◌, neg, ◌≤ᶠ◌, ◌<ᶠ◌, IsNear}
use Rattle.fractions.specs.Inverse.{inverse}
use Rattle.fractions.proofs.Certificates.{at_most, not_negative, constants}
use Rattle.fractions.proofs.Inverses.{*ᶠ_inverse}
use Rattle.fractions.proofs.Laws.{≤ᶠ_refl, ≤ᶠ_trans}
use Rattle.fractions.proofs.Near.{near_weaken}
use Rattle.fractions.proofs.Quote.{quote}
use Rattle.fractions.proofs.StrictOrder.{<ᶠ_≤ᶠ_trans, <ᶠ_at_most, positive_numeral, positive_apart, positive_inverse}
use Rattle.raim_model.specs.Constants.{tau}
use Rattle.raim_model.specs.Kepler.{SolvesKepler}
use Rattle.raim_model.specs.Level.{Level}
use Rattle.raim_model.specs.Sine.{IsSineCosine}
use Rattle.fix_interval.specs.Ends.{Ends}
use Rattle.fix_interval.specs.Lies.{Lies}
use Rattle.fix_interval.specs.Pairs.{PairLies}
use Rattle.series_laws.proofs.Pairs.{has_pair}
use Rattle.kepler_laws.specs.Anomalies.{IsEccentricityInTurns}
use Rattle.kepler_laws.specs.EccentricSine.{ecc_sin_cos_of}
use Rattle.kepler_laws.proofs.Anomalies.{eccentricity}
use Rattle.kepler_laws.proofs.Exists.{has_anomaly}
use Rattle.kepler_laws.proofs.Widths.{ecc_narrow}
use Rattle.kepler_laws.proofs.Wraps.{ecc_encloses, ecc_full}
use Rattle.sine_lines.proofs.Kepler.{IsEccentricity, mean_follows, eccentric_by_mean}
use Rattle.time_forms.specs.Forms.{Form, IsTime, Holds, size}
use Rattle.time_forms.proofs.FormSpans.{holds_lo}
use Rattle.orbit_forms.specs.Anomalies.{bracket_at, anomaly_at, slope_at, miss_of, reach_of, mean_bend_of, anomaly_form, ecc_slack, ecc_sine_form, ecc_cosine_form}
use Rattle.orbit_forms.proofs.Units.{units, unit, part_of, line_at, near_line, units-add, units-times, units_mono, product_floor, part_low, part_high, size_units_low, size_units_high}
use Rattle.orbit_forms.proofs.Lines.{fixed_near, near_holds}
use Rattle.orbit_forms.proofs.SinCos.{level, width_at_most, lowest_lies, sine_near, cosine_near}
use Rattle.orbit_forms.proofs.Follows.{IsSlope, gap42, gap97, centre_miss, centre_near, follows}
use Rattle.orbit_forms.proofs.Centres.{bracket_lies, anomaly_remainder, is_slope, slope_close, quotient_near}

-- each number of turns is an eccentric anomaly, of its mean one
self_solves : (L : Level) (e E s c : Fraction) → IsSineCosine L E s c → SolvesKepler L (E -ᶠ e *ᶠ s) e E
self_solves L e E s c p = record {
  before = E;
  after = E;
  from_before = ≤ᶠ_refl E;
  to_after = ≤ᶠ_refl E;
  close = let g : Fraction = ratio (pos 1) (2 ^ L.terms) in at_most (E ∷ g ∷ []) (ratio (pos 1) (2 ^ L.terms)) (search not_negative) (search quote depth 20) tt;
  sine_before = s;
  is_sine_before = record { cosine = c; pair = p };
  sine_after = s;
  is_sine_after = record { cosine = c; pair = p };
  below = ≤ᶠ_refl (E -ᶠ e *ᶠ s);
  above = ≤ᶠ_refl (E -ᶠ e *ᶠ s);
}

-- the inverse of a slope
record HasInverse (k i : Fraction) : Type 0 where
  product : k *ᶠ i ≡ oneᶠ
  low : zeroᶠ ≤ᶠ i
  high : i ≤ᶠ ratio (pos 20) 19

slope_inverse : (k : Fraction) → ratio (pos 19) 20 ≤ᶠ k → HasInverse k (inverse k)
slope_inverse k h =
    let lk : zeroᶠ <ᶠ k = <ᶠ_≤ᶠ_trans (positive_numeral 19 20 tt) h in
    let e : k *ᶠ inverse k ≡ oneᶠ = *ᶠ_inverse k (positive_apart lk) in
    let il : zeroᶠ ≤ᶠ inverse k = <ᶠ_at_most (positive_inverse k lk) in
    record { product = e; low = il; high = by_inverse (inverse k) e il }
  where
    by_inverse : (I : Fraction) → k *ᶠ I ≡ oneᶠ → zeroᶠ ≤ᶠ I → I ≤ᶠ ratio (pos 20) 19
    by_inverse I e il =
        let ke : k *ᶠ I ≤ᶠ oneᶠ = subst (λ z. z ≤ᶠ oneᶠ) (sym e) (≤ᶠ_refl oneᶠ) in
        at_most (k ∷ I ∷ []) ((ratio (pos 20) 19 *ᶠ I) *ᶠ (k -ᶠ ratio (pos 19) 20) +ᶠ ratio (pos 20) 19 *ᶠ (oneᶠ -ᶠ k *ᶠ I)) (search not_negative) (search quote depth 20) tt

remainder_low : (x y r : Fraction) → IsNear x y r → zeroᶠ ≤ᶠ r
remainder_low x y r n =
    let nl : x ≤ᶠ y +ᶠ r = n.low in
    let nh : y ≤ᶠ x +ᶠ r = n.high in
    at_most (x ∷ y ∷ r ∷ []) (ratio (pos 1) 2 *ᶠ (((y +ᶠ r) -ᶠ x) +ᶠ ((x +ᶠ r) -ᶠ y))) (search not_negative) (search quote depth 20) tt

half_turn : (v : ℤ) → size v ≤ℤ pos (2 ^ 37) → (neg (ratio (pos 1) 2) ≤ᶠ units v) × (units v ≤ᶠ ratio (pos 1) 2)
half_turn v small =
    let V : Fraction = units v in
    let S : Fraction = units (size v) in
    let c : units (pos (2 ^ 37)) ≤ᶠ ratio (pos 1) 2 = constants (search quote depth 20) tt in
    let d : S ≤ᶠ ratio (pos 1) 2 = ≤ᶠ_trans (units_mono small) c in
    let sh : V ≤ᶠ S = size_units_high v in
    let sl : neg S ≤ᶠ V = size_units_low v in
    (at_most (V ∷ S ∷ []) ((V -ᶠ neg S) +ᶠ (ratio (pos 1) 2 -ᶠ S)) (search not_negative) (search quote depth 20) tt, ≤ᶠ_trans sh d)

-- ---- the remainder
-- an eighth, rounded down, and a unit
eighth_enough : (z : ℤ) → ratio (pos 1) 8 *ᶠ units z ≤ᶠ units (floor_of z 8) +ᶠ unit
eighth_enough z =
    let F : Fraction = units (floor_of z 8) in
    let Z : Fraction = units z in
    let a : z ≤ℤ (pos 8 *ℤ (floor_of z 8 +ℤ pos 1)) = next z (floor_of_high z 8 (lit≤ tt)) in
    let e : units (pos 8 *ℤ (floor_of z 8 +ℤ pos 1)) ≡ ratio (pos 8) 1 *ᶠ (F +ᶠ unit) = units-times (pos 8) (floor_of z 8 +ℤ pos 1) ∙ ap (λ x. ratio (pos 8) 1 *ᶠ x) (units-add (floor_of z 8) (pos 1)) in
    let b : Z ≤ᶠ ratio (pos 8) 1 *ᶠ (F +ᶠ unit) = subst (λ x. Z ≤ᶠ x) e (units_mono a) in
    at_most (Z ∷ F ∷ []) (ratio (pos 1) 8 *ᶠ (ratio (pos 8) 1 *ᶠ (F +ᶠ unit) -ᶠ Z)) (search not_negative) (search quote depth 20) tt
  where
    next : (z : ℤ) → z <ℤ (floor_of z 8 *ℤ pos 8 +ℤ pos 8) → z ≤ℤ (pos 8 *ℤ (floor_of z 8 +ℤ pos 1))
    next z h = omega (arith, ints)

-- the bend
mean_bend_enough : (e q : ℤ) (Q : Fraction) → zeroᶠ ≤ᶠ units e → units e ≤ᶠ ratio (pos 1) 128 → zeroᶠ ≤ᶠ Q → Q ≤ᶠ units q
    → units e *ᶠ (ratio (pos 25) 1 *ᶠ (Q *ᶠ Q) +ᶠ gap42) +ᶠ gap97 ≤ᶠ units (mean_bend_of e q)
mean_bend_enough e q Q el eh Ql Qh =
    let x : Fraction = units e in
    let M : Fraction = units q in
    let f : ℤ = floor_of ((pos 25 *ℤ q) *ℤ q) (2 ^ 38) in
    let F : Fraction = units f in
    let G : Fraction = units (floor_of (e *ℤ (f +ℤ pos 1)) (2 ^ 38)) in
    let p : units (pos 25 *ℤ q) *ᶠ M ≤ᶠ F +ᶠ unit = (product_floor (pos 25 *ℤ q) q).low in
    let p' : (ratio (pos 25) 1 *ᶠ M) *ᶠ M ≤ᶠ F +ᶠ unit = subst (λ t. t *ᶠ M ≤ᶠ F +ᶠ unit) (units-times (pos 25) q) p in
    let r : x *ᶠ units (f +ℤ pos 1) ≤ᶠ G +ᶠ unit = (product_floor e (f +ℤ pos 1)).low in
    let r' : x *ᶠ (F +ᶠ unit) ≤ᶠ G +ᶠ unit = subst (λ t. x *ᶠ t ≤ᶠ G +ᶠ unit) (units-add f (pos 1)) r in
    let c : ratio (pos 1) 128 *ᶠ gap42 +ᶠ gap97 ≤ᶠ unit = constants (search quote depth 30) tt in
    let Mn : zeroᶠ ≤ᶠ M = ≤ᶠ_trans Ql Qh in
    let all : x *ᶠ (ratio (pos 25) 1 *ᶠ (Q *ᶠ Q) +ᶠ gap42) +ᶠ gap97 ≤ᶠ G +ᶠ units (pos 2) = at_most (x ∷ M ∷ F ∷ G ∷ Q ∷ [])
    ((ratio (pos 25) 1 *ᶠ x) *ᶠ ((M -ᶠ Q) *ᶠ (M +ᶠ Q)) +ᶠ x *ᶠ ((F +ᶠ unit) -ᶠ (ratio (pos 25) 1 *ᶠ M) *ᶠ M) +ᶠ ((G +ᶠ unit) -ᶠ x *ᶠ (F +ᶠ unit)) +ᶠ (ratio (pos 1) 128 -ᶠ x) *ᶠ gap42 +ᶠ (unit -ᶠ (ratio (pos 1) 128 *ᶠ gap42 +ᶠ gap97)))
    (search not_negative depth 12) (search quote depth 40 fits 30000) tt in
    subst (λ z. x *ᶠ (ratio (pos 25) 1 *ᶠ (Q *ᶠ Q) +ᶠ gap42) +ᶠ gap97 ≤ᶠ z) (sym (units-add _ (pos 2))) all

-- the sum of all that is lost
sum_enough : (R r e F B P : Fraction) → zeroᶠ ≤ᶠ R → zeroᶠ ≤ᶠ r → ratio (pos 1) 8 *ᶠ ((R +ᶠ ratio (pos 2) 1 *ᶠ r) +ᶠ units (pos 10)) ≤ᶠ F +ᶠ unit → P ≤ᶠ B
    → ratio (pos 20) 19 *ᶠ ((R +ᶠ centre_miss r) +ᶠ (ratio (pos 11) 10 *ᶠ unit +ᶠ ratio (pos 1) 2 *ᶠ units (pos 16))) +ᶠ P ≤ᶠ ((((R +ᶠ ratio (pos 2) 1 *ᶠ r) +ᶠ units (pos 10)) +ᶠ F) +ᶠ unit) +ᶠ B
sum_enough R r e F B P Rl rl f b =
    let c : ratio (pos 20) 19 *ᶠ (ratio (pos 1) 2048 *ᶠ unit +ᶠ (ratio (pos 11) 10 *ᶠ unit +ᶠ ratio (pos 1) 2 *ᶠ units (pos 16))) ≤ᶠ ratio (pos 9) 8 *ᶠ units (pos 10) = constants (search quote depth 30) tt in
    at_most (R ∷ r ∷ F ∷ B ∷ P ∷ [])
    (((F +ᶠ unit) -ᶠ ratio (pos 1) 8 *ᶠ ((R +ᶠ ratio (pos 2) 1 *ᶠ r) +ᶠ units (pos 10))) +ᶠ (B -ᶠ P) +ᶠ ratio (pos 11) 152 *ᶠ R +ᶠ ratio (pos 83) 76 *ᶠ r
    +ᶠ (ratio (pos 9) 8 *ᶠ units (pos 10) -ᶠ ratio (pos 20) 19 *ᶠ (ratio (pos 1) 2048 *ᶠ unit +ᶠ (ratio (pos 11) 10 *ᶠ unit +ᶠ ratio (pos 1) 2 *ᶠ units (pos 16)))))
    (search not_negative depth 12) (search quote depth 40 fits 30000) tt

miss_units : (r a : ℤ) → units ((r +ℤ pos 2 *ℤ a) +ℤ pos 10) ≡ (units r +ᶠ ratio (pos 2) 1 *ᶠ units a) +ᶠ units (pos 10)
miss_units r a = units-add _ (pos 10) ∙ ap (λ z. z +ᶠ units (pos 10)) (units-add r (pos 2 *ℤ a) ∙ ap (λ z. units r +ᶠ z) (units-times (pos 2) a))

reach_units : (w r a : ℤ) → units (((w +ℤ r) +ℤ pos 2 *ℤ a) +ℤ pos 1) ≡ ((units w +ᶠ units r) +ᶠ ratio (pos 2) 1 *ᶠ units a) +ᶠ unit
reach_units w r a = units-add _ (pos 1) ∙ ap (λ z. z +ᶠ unit) (units-add _ (pos 2 *ℤ a) ∙ ap₂ (λ x y. x +ᶠ y) (units-add w r) (units-times (pos 2) a))

remainder_units : (p f b : ℤ) → units (((p +ℤ f) +ℤ pos 1) +ℤ b) ≡ ((units p +ᶠ units f) +ᶠ unit) +ᶠ units b
remainder_units p f b = units-add _ b ∙ ap (λ z. z +ᶠ units b) (units-add _ (pos 1) ∙ ap (λ z. z +ᶠ unit) (units-add p f))

reach_enough : (W R r : Fraction) → zeroᶠ ≤ᶠ r → W +ᶠ (R +ᶠ centre_miss r) ≤ᶠ ((W +ᶠ R) +ᶠ ratio (pos 2) 1 *ᶠ r) +ᶠ unit
reach_enough W R r rl = at_most (W ∷ R ∷ r ∷ []) (ratio (pos 9) 10 *ᶠ r +ᶠ ratio (pos 2047) 2048 *ᶠ unit) (search not_negative) (search quote depth 30) tt

sum_low : (W R r : Fraction) → zeroᶠ ≤ᶠ W → zeroᶠ ≤ᶠ R → zeroᶠ ≤ᶠ r → zeroᶠ ≤ᶠ W +ᶠ (R +ᶠ centre_miss r)
sum_low W R r a b c = search not_negative depth 10

-- the remainder of the form is enough
form_remainder : (m : Form) (eps : Ends) → zeroᶠ ≤ᶠ units eps.lo → units eps.lo ≤ᶠ ratio (pos 1) 128 → zeroᶠ ≤ᶠ units m.remainder → zeroᶠ ≤ᶠ units (anomaly_at m eps).remainder
    → ratio (pos 20) 19 *ᶠ ((units m.remainder +ᶠ centre_miss (units (anomaly_at m eps).remainder)) +ᶠ (ratio (pos 11) 10 *ᶠ unit +ᶠ ratio (pos 1) 2 *ᶠ units (pos 16)))
    +ᶠ (units eps.lo *ᶠ (ratio (pos 25) 1 *ᶠ ((units (size m.turning) +ᶠ (units m.remainder +ᶠ centre_miss (units (anomaly_at m eps).remainder))) *ᶠ (units (size m.turning) +ᶠ (units m.remainder +ᶠ centre_miss (units (anomaly_at m eps).remainder)))) +ᶠ gap42) +ᶠ gap97)
    ≤ᶠ units (((miss_of m eps +ℤ floor_of (miss_of m eps) 8) +ℤ pos 1) +ℤ mean_bend_of eps.lo (reach_of m eps))
form_remainder m eps el eh Rl rl =
    let R : Fraction = units m.remainder in
    let a : ℤ = (anomaly_at m eps).remainder in
    let r : Fraction = units a in
    let W : Fraction = units (size m.turning) in
    let Wl : zeroᶠ ≤ᶠ W = Rattle.fractions.proofs.Ratios.not_negative_ratio (unsigned_abs m.turning) (2 ^ 38) in
    let Q : Fraction = W +ᶠ (R +ᶠ centre_miss r) in
    let Qh : Q ≤ᶠ units (reach_of m eps) = subst (λ z. Q ≤ᶠ z) (sym (reach_units (size m.turning) m.remainder a)) (reach_enough W R r rl) in
    let b = mean_bend_enough eps.lo (reach_of m eps) Q el eh (sum_low W R r Wl Rl rl) Qh in
    let em : units (miss_of m eps) ≡ (R +ᶠ ratio (pos 2) 1 *ᶠ r) +ᶠ units (pos 10) = miss_units m.remainder a in
    let f : ratio (pos 1) 8 *ᶠ ((R +ᶠ ratio (pos 2) 1 *ᶠ r) +ᶠ units (pos 10)) ≤ᶠ units (floor_of (miss_of m eps) 8) +ᶠ unit = subst (λ z. ratio (pos 1) 8 *ᶠ z ≤ᶠ units (floor_of (miss_of m eps) 8) +ᶠ unit) em (eighth_enough (miss_of m eps)) in
    let s = sum_enough R r zeroᶠ (units (floor_of (miss_of m eps) 8)) (units (mean_bend_of eps.lo (reach_of m eps))) (units eps.lo *ᶠ (ratio (pos 25) 1 *ᶠ (Q *ᶠ Q) +ᶠ gap42) +ᶠ gap97) Rl rl f b in
    let er : units (((miss_of m eps +ℤ floor_of (miss_of m eps) 8) +ℤ pos 1) +ℤ mean_bend_of eps.lo (reach_of m eps)) ≡ ((((R +ᶠ ratio (pos 2) 1 *ᶠ r) +ᶠ units (pos 10)) +ᶠ units (floor_of (miss_of m eps) 8)) +ᶠ unit) +ᶠ units (mean_bend_of eps.lo (reach_of m eps)) = remainder_units (miss_of m eps) (floor_of (miss_of m eps) 8) (mean_bend_of eps.lo (reach_of m eps)) ∙ ap (λ z. ((z +ᶠ units (floor_of (miss_of m eps) 8)) +ᶠ unit) +ᶠ units (mean_bend_of eps.lo (reach_of m eps))) em in
    subst (λ z. ratio (pos 20) 19 *ᶠ ((R +ᶠ centre_miss r) +ᶠ (ratio (pos 11) 10 *ᶠ unit +ᶠ ratio (pos 1) 2 *ᶠ units (pos 16))) +ᶠ (units eps.lo *ᶠ (ratio (pos 25) 1 *ᶠ (Q *ᶠ Q) +ᶠ gap42) +ᶠ gap97) ≤ᶠ z) (sym er) s

-- ---- the eccentric anomaly of a mean one that lies near m lies near its form
pub anomaly_near : {h : ℕ} {d : ℤ} (m : Form) (eps : Ends) (N : Level) (X F : Fraction) → IsTime h d → IsEccentricityInTurns eps → (eps.hi -ℤ eps.lo) ≤ℤ pos 4 → size (anomaly_form m eps).turning ≤ℤ pos (2 ^ 37)
    → IsNear X (line_at m (part_of d h)) (units m.remainder) → SolvesKepler N X (units eps.lo) F → IsNear F (line_at (anomaly_form m eps) (part_of d h)) (units (anomaly_form m eps).remainder)
unfolding anomaly_form
anomaly_near {h} {d} m eps N X F t i n small place p =
    let e : Fraction = units eps.lo in
    let l : Lies eps 38 e = lowest_lies eps i.ordered in
    let ke = eccentricity eps e i l in
    let ie : IsEccentricity e = record { low = ke.low; high = ke.high } in
    let A : Form = anomaly_at m eps in
    let c : Fraction = units A.centre in
    let r : Fraction = units A.remainder in
    let q = has_pair level c in
    let M : Fraction = units m.centre in
    let m0 : Fraction = c -ᶠ e *ᶠ q.sine in
    let k : Fraction = oneᶠ -ᶠ (tau *ᶠ e) *ᶠ q.cosine in
    let sl : IsSlope k = is_slope level e c q.sine q.cosine ie q.pair in
    let s0 : SolvesKepler level m0 e c = self_solves level e c q.sine q.cosine q.pair in
    let a = has_anomaly level M e ke in
    let E : Fraction = a.anomaly in
    let Ec : IsNear E c r = fixed_near (bracket_at m eps) E (bracket_lies m eps e i l level E a.solves) in
    let rh : r ≤ᶠ units (pos 18) = units_mono (more A.remainder (anomaly_remainder m eps i n)) in
    let Mm : IsNear M m0 (centre_miss r) = centre_near e k E c r M m0 ie.low ie.high sl Ec rh (mean_follows level level level e m0 M c E q.sine q.cosine ie s0 a.solves q.pair) in
    let dk : IsNear (units (slope_at m eps)) k (units (pos 16)) = slope_close m eps level q.sine q.cosine i ie q.pair in
    let v : ℤ = floor_of (m.turning *ℤ pos (2 ^ 38)) (unsigned_abs (slope_at m eps)) in
    let vq = quotient_near m.turning (slope_at m eps) k sl dk in
    let hv = half_turn v small in
    let iv = slope_inverse k sl.low in
    let Rl : zeroᶠ ≤ᶠ units m.remainder = remainder_low X (line_at m (part_of d h)) (units m.remainder) place in
    let rl : zeroᶠ ≤ᶠ r = remainder_low E c r Ec in
    near_weaken (form_remainder m eps ie.low ie.high Rl rl)
    (follows e k (inverse k) c F X M m0 (units m.turning) (units (size m.turning)) (part_of d h) (units m.remainder) (centre_miss r) (units (slope_at m eps)) (units v) (ratio (pos 11) 10 *ᶠ unit) (units (pos 16)) iv.product iv.low iv.high (part_low t) (part_high t) hv.0 hv.1 (size_units_low m.turning) (size_units_high m.turning) ie.low
    vq dk Mm place (eccentric_by_mean level N level e m0 X c F q.sine q.cosine ie s0 p q.pair))
  where
    more : (z : ℤ) → z ≤ℤ pos 10 → z ≤ℤ pos 18
    more z h = omega (arith, ints)

-- ---- the interval answer
ecc_slack_enough : (w z r : ℤ) → z ≤ℤ (pos 2 *ℤ r) → w ≤ℤ (pos 32 *ℤ z +ℤ pos 2048) → w ≤ℤ (pos 64 *ℤ r +ℤ pos 2048)
ecc_slack_enough w z r p q = omega (arith, ints, p, q)

pub ecc_sine_holds : {h : ℕ} {d : ℤ} (m : Form) (eps a : Ends) → IsTime h d → IsEccentricityInTurns eps → (eps.hi -ℤ eps.lo) ≤ℤ pos 4 → size (anomaly_form m eps).turning ≤ℤ pos (2 ^ 37) → Holds h d m a → Holds h d (ecc_sine_form m eps) (ecc_sin_cos_of a eps).sine
unfolding ecc_sine_form
ecc_sine_holds {h} {d} m eps a t i n small p =
    let X : Fraction = units a.lo in
    let l : Lies eps 38 (units eps.lo) = lowest_lies eps i.ordered in
    let s = has_anomaly level X (units eps.lo) (eccentricity eps (units eps.lo) i l) in
    let e : PairLies (ecc_sin_cos_of a eps) s.sine s.cosine = ecc_encloses refl p.ordered i level X (units eps.lo) s.anomaly s.sine s.cosine (lowest_lies a p.ordered) l s.solves s.pair in
    let w = ecc_narrow {m = a} {eps = eps} refl p.ordered i n in
    near_holds _ (ecc_sin_cos_of a eps).sine (ecc_slack m) s.sine t e.sine (ecc_full a eps p.ordered i).sine.ordered (ecc_slack_enough _ (a.hi -ℤ a.lo) m.remainder (width_at_most m a t p) w.0)
    (sine_near (anomaly_form m eps) (ecc_slack m) level s.anomaly s.sine s.cosine t small (anomaly_near m eps level X s.anomaly t i n small (near_line m a.lo t (holds_lo p)) s.solves) s.pair)

pub ecc_cosine_holds : {h : ℕ} {d : ℤ} (m : Form) (eps a : Ends) → IsTime h d → IsEccentricityInTurns eps → (eps.hi -ℤ eps.lo) ≤ℤ pos 4 → size (anomaly_form m eps).turning ≤ℤ pos (2 ^ 37) → Holds h d m a → Holds h d (ecc_cosine_form m eps) (ecc_sin_cos_of a eps).cosine
unfolding ecc_cosine_form
ecc_cosine_holds {h} {d} m eps a t i n small p =
    let X : Fraction = units a.lo in
    let l : Lies eps 38 (units eps.lo) = lowest_lies eps i.ordered in
    let s = has_anomaly level X (units eps.lo) (eccentricity eps (units eps.lo) i l) in
    let e : PairLies (ecc_sin_cos_of a eps) s.sine s.cosine = ecc_encloses refl p.ordered i level X (units eps.lo) s.anomaly s.sine s.cosine (lowest_lies a p.ordered) l s.solves s.pair in
    let w = ecc_narrow {m = a} {eps = eps} refl p.ordered i n in
    near_holds _ (ecc_sin_cos_of a eps).cosine (ecc_slack m) s.cosine t e.cosine (ecc_full a eps p.ordered i).cosine.ordered (ecc_slack_enough _ (a.hi -ℤ a.lo) m.remainder (width_at_most m a t p) w.1)
    (cosine_near (anomaly_form m eps) (ecc_slack m) level s.anomaly s.sine s.cosine t small (anomaly_near m eps level X s.anomaly t i n small (near_line m a.lo t (holds_lo p)) s.solves) s.pair)
