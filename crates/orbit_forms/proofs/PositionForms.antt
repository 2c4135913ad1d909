-- The form of a place holds the interval place at each millisecond.
use Rattle.std.specs.Prelude.{◌≡◌, ℕ, ℤ, pos, ◌+ℤ◌, ◌-ℤ◌, ◌≤ℤ◌}
use Rattle.std.proofs.Common.{arith, subst}
use Rattle.std.proofs.lemmas.Int.{ints}
use Rattle.raim_model.specs.declared.almanac.AlmRecord.{AlmRecord}
use Rattle.raim_model.specs.AlmanacRanges.{IsAlmRecord}
use Rattle.fix_interval.specs.Ends.{Ends}
use Rattle.fix_interval.specs.Pairs.{PairEnds}
use Rattle.trig_laws.specs.SinCos.{sin_cos_of}
use Rattle.trig_laws.proofs.Encloses.{sin_cos_full}
use Rattle.kepler_laws.specs.EccentricSine.{ecc_sin_cos_of}
use Rattle.orbit_laws.specs.Elements.{Elements, elements_of}
use Rattle.orbit_laws.specs.Positions.{mean_anomaly_over, node_over, perifocal_x_of, perifocal_y_of, in_plane_x_of, in_plane_y_of, place_of, orbit_place_of, place_over, position_of}
use Rattle.orbit_laws.proofs.Elements.{IsBounded, IsFine, elements_bounded, elements_fine}
use Rattle.time_forms.specs.Forms.{Form, IsTime, Holds}
use Rattle.time_forms.proofs.Known.{fixed_holds, linear_holds}
use Rattle.time_forms.proofs.FormSums.{add_holds, sub_holds}
use Rattle.time_forms.proofs.Coarser.{narrow_holds, mul_holds}
use Rattle.orbit_forms.specs.Positions.{PairForm, PairHolds, VectorHolds, fixed_pair, turned_pair, mean_anomaly_form, node_form, anomaly_pair, perifocal_x_form, perifocal_y_form, in_plane_x_form, in_plane_y_form, place_form, orbit_form, place_over_form, position_form, IsShort}
use Rattle.orbit_forms.proofs.SinCos.{sine_holds, cosine_holds}
use Rattle.orbit_forms.proofs.EccentricForms.{ecc_sine_holds, ecc_cosine_holds}

mean_anomaly_holds : {h : ℕ} {d : ℤ} (e : Elements) (k : ℤ) → IsTime h d → IsBounded e → Holds h d (mean_anomaly_form e k h) (mean_anomaly_over e (k +ℤ d) (k +ℤ d))
unfolding mean_anomaly_form mean_anomaly_over
mean_anomaly_holds {h} {d} e k t b = add_holds _ _ _ _ (fixed_holds h d e.mean_anomaly b.mean_anomaly.ordered) (narrow_holds _ _ t (linear_holds e.motion k t b.motion.ordered))

node_holds : {h : ℕ} {d : ℤ} (e : Elements) (k : ℤ) → IsTime h d → IsBounded e → Holds h d (node_form e k h) (node_over e (k +ℤ d) (k +ℤ d))
unfolding node_form node_over
node_holds {h} {d} e k t b = add_holds _ _ _ _ (fixed_holds h d e.node b.node.ordered) (narrow_holds _ _ t (sub_holds _ _ _ _ (linear_holds e.drift k t b.drift.ordered) (fixed_holds h d e.turned b.turned.ordered)))

-- ---- sines and cosines
fixed_pair_holds : {h : ℕ} {d : ℤ} (a : Ends) → a.lo ≤ℤ a.hi → PairHolds h d (fixed_pair (sin_cos_of a)) (sin_cos_of a)
fixed_pair_holds {h} {d} a o = let f = sin_cos_full a o in record { sine = fixed_holds h d (sin_cos_of a).sine f.sine.ordered; cosine = fixed_holds h d (sin_cos_of a).cosine f.cosine.ordered }

turned_pair_holds : {h : ℕ} {d : ℤ} (e : Elements) (k : ℤ) → IsTime h d → IsBounded e → IsShort e k h → PairHolds h d (turned_pair (node_form e k h)) (sin_cos_of (node_over e (k +ℤ d) (k +ℤ d)))
turned_pair_holds {h} {d} e k t b s = let n = node_holds e k t b in record { sine = sine_holds _ _ t s.node n; cosine = cosine_holds _ _ t s.node n }

anomaly_pair_holds : {h : ℕ} {d : ℤ} (e : Elements) (k : ℤ) → IsTime h d → IsBounded e → IsFine e → IsShort e k h → PairHolds h d (anomaly_pair e k h) (ecc_sin_cos_of (mean_anomaly_over e (k +ℤ d) (k +ℤ d)) e.in_turns)
anomaly_pair_holds {h} {d} e k t b f s =
    let m = mean_anomaly_holds e k t b in
    let w : (e.in_turns.hi -ℤ e.in_turns.lo) ≤ℤ pos 4 = more (e.in_turns.hi -ℤ e.in_turns.lo) f.in_turns.width in
    record { sine = ecc_sine_holds _ e.in_turns _ t b.in_turns w s.anomaly m; cosine = ecc_cosine_holds _ e.in_turns _ t b.in_turns w s.anomaly m }
  where
    more : (w : ℤ) → w ≤ℤ pos 2 → w ≤ℤ pos 4
    more w h = omega (arith, ints)

-- ---- the place
perifocal_x_holds : {h : ℕ} {d : ℤ} (e : Elements) (p : PairForm) (q : PairEnds) → IsTime h d → IsBounded e → PairHolds h d p q → Holds h d (perifocal_x_form e p) (perifocal_x_of e q)
unfolding perifocal_x_form perifocal_x_of
perifocal_x_holds {h} {d} e p q t b k = mul_holds _ _ _ _ t (fixed_holds h d e.semi_major_axis b.semi_major_axis.ordered) (sub_holds _ _ _ _ k.cosine (fixed_holds h d e.eccentricity b.eccentricity.ordered))

perifocal_y_holds : {h : ℕ} {d : ℤ} (e : Elements) (p : PairForm) (q : PairEnds) → IsTime h d → IsBounded e → PairHolds h d p q → Holds h d (perifocal_y_form e p) (perifocal_y_of e q)
unfolding perifocal_y_form perifocal_y_of
perifocal_y_holds {h} {d} e p q t b k = mul_holds _ _ _ _ t (fixed_holds h d e.semi_minor_axis b.semi_minor_axis.ordered) k.sine

in_plane_x_holds : {h : ℕ} {d : ℤ} (f g : Form) (p : PairForm) (x y : Ends) (w : PairEnds) → IsTime h d → Holds h d f x → Holds h d g y → PairHolds h d p w → Holds h d (in_plane_x_form f g p) (in_plane_x_of x y w)
unfolding in_plane_x_form in_plane_x_of
in_plane_x_holds {h} {d} f g p x y w t a b k = sub_holds _ _ _ _ (mul_holds _ _ _ _ t a k.cosine) (mul_holds _ _ _ _ t b k.sine)

in_plane_y_holds : {h : ℕ} {d : ℤ} (f g : Form) (p : PairForm) (x y : Ends) (w : PairEnds) → IsTime h d → Holds h d f x → Holds h d g y → PairHolds h d p w → Holds h d (in_plane_y_form f g p) (in_plane_y_of x y w)
unfolding in_plane_y_form in_plane_y_of
in_plane_y_holds {h} {d} f g p x y w t a b k = add_holds _ _ _ _ (mul_holds _ _ _ _ t a k.sine) (mul_holds _ _ _ _ t b k.cosine)

place_holds : {h : ℕ} {d : ℤ} (f g : Form) (p q : PairForm) (x y : Ends) (o i : PairEnds) → IsTime h d → Holds h d f x → Holds h d g y → PairHolds h d p o → PairHolds h d q i → VectorHolds h d (place_form f g p q) (place_of x y o i)
unfolding place_form place_of
place_holds {h} {d} f g p q x y o i t a b k l = record {
  x = sub_holds _ _ _ _ (mul_holds _ _ _ _ t a k.cosine) (mul_holds _ _ _ _ t (mul_holds _ _ _ _ t b l.cosine) k.sine);
  y = add_holds _ _ _ _ (mul_holds _ _ _ _ t a k.sine) (mul_holds _ _ _ _ t (mul_holds _ _ _ _ t b l.cosine) k.cosine);
  z = mul_holds _ _ _ _ t b l.sine;
}

orbit_holds : {h : ℕ} {d : ℤ} (e : Elements) (a w o i : PairForm) (p q r s : PairEnds) → IsTime h d → IsBounded e → PairHolds h d a p → PairHolds h d w q → PairHolds h d o r → PairHolds h d i s → VectorHolds h d (orbit_form e a w o i) (orbit_place_of e p q r s)
unfolding orbit_form orbit_place_of
orbit_holds {h} {d} e a w o i p q r s t b ka kw ko ki =
    let x = perifocal_x_holds e a p t b ka in
    let y = perifocal_y_holds e a p t b ka in
    place_holds _ _ o i _ _ r s t (in_plane_x_holds _ _ w _ _ q t x y kw) (in_plane_y_holds _ _ w _ _ q t x y kw) ko ki

pub place_over_holds : {h : ℕ} {d : ℤ} (e : Elements) (k : ℤ) → IsTime h d → IsBounded e → IsFine e → IsShort e k h → VectorHolds h d (place_over_form e k h) (place_over e (k +ℤ d) (k +ℤ d))
unfolding place_over_form place_over
place_over_holds {h} {d} e k t b f s = orbit_holds e _ _ _ _ _ _ _ _ t b (anomaly_pair_holds e k t b f s) (fixed_pair_holds e.perigee b.perigee.ordered) (turned_pair_holds e k t b s) (fixed_pair_holds e.inclination b.inclination.ordered)

pub position_holds : (h : ℕ) (d : ℤ) (rec : AlmRecord) (mid : ℤ) → IsAlmRecord rec → IsTime h d → IsShort (elements_of rec) (mid -ℤ rec.toa_ms) h → VectorHolds h d (position_form rec mid h) (position_of rec (mid +ℤ d) (mid +ℤ d))
unfolding position_form position_of
position_holds h d rec mid i t s = subst (λ z. VectorHolds h d (place_over_form (elements_of rec) (mid -ℤ rec.toa_ms) h) (place_over (elements_of rec) z z)) (later mid rec.toa_ms d)
    (place_over_holds (elements_of rec) (mid -ℤ rec.toa_ms) t (elements_bounded rec i) (elements_fine rec i) s)
  where
    later : (m a d : ℤ) → (m -ℤ a) +ℤ d ≡ (m +ℤ d) -ℤ a
    later m a d = omega (arith, ints)
