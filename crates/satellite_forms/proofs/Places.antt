-- What the form of a place holds, where there is one.
use Rattle.std.proofs.Common.{arith, subst, ◌≡◌, ℕ, ℤ, pos, ◌+ℤ◌, ◌-ℤ◌, ◌≤ℤ◌, Some}
use Rattle.std.proofs.lemmas.Int.{ints}
use Rattle.std.proofs.lemmas.Option.{same_Some}
use Rattle.raim_model.specs.declared.almanac.AlmRecord.{AlmRecord}
use Rattle.raim_model.specs.AlmanacRanges.{IsAlmRecord}
use Rattle.fix_interval.specs.Ends.{Ends}
use Rattle.fix_interval.specs.Sums.{add_of, sub_of}
use Rattle.fix_interval.specs.Products.{narrow76_of, scale_int_of}
use Rattle.fix_interval.specs.Pairs.{PairEnds}
use Rattle.trig_laws.specs.SinCos.{sin_cos_of}
use Rattle.orbit_laws.specs.Elements.{Elements, elements_of}
use Rattle.orbit_laws.specs.Positions.{mean_anomaly_over, node_over, perifocal_x_of, perifocal_y_of, in_plane_x_of, in_plane_y_of, place_of, orbit_place_of, place_over, position_of}
use Rattle.orbit_laws.proofs.Elements.{IsBounded, IsFine, elements_bounded, elements_fine}
use Rattle.time_forms.specs.Forms.{Form, IsTime, Holds}
use Rattle.time_forms.specs.Operations.{fixed_of, linear_of, sub_form, narrow_form, mul_form}
use Rattle.time_forms.specs.Programs.{short_of}
use Rattle.time_forms.proofs.Known.{fixed_holds, linear_holds}
use Rattle.time_forms.proofs.FormSums.{add_holds, sub_holds}
use Rattle.time_forms.proofs.Coarser.{narrow_holds, mul_holds}
use Rattle.orbit_forms.specs.Positions.{PairForm, VectorForm, PairHolds, VectorHolds, fixed_pair, perifocal_x_form, perifocal_y_form}
use Rattle.angle_forms.proofs.Steps.{then_some, short_holds}
use Rattle.angle_forms.proofs.Turned.{sin_cos_holds, fixed_pair_holds}
use Rattle.angle_forms.proofs.EccentricPairs.{ecc_sin_cos_holds}
use Rattle.satellite_forms.specs.Checked.{checked_moved, checked_moved_back, checked_in_plane_x, checked_in_plane_y, checked_place, checked_anomaly, checked_node, checked_orbit, checked_place_over, checked_position}

moved_holds : {h : ℕ} {d : ℤ} (e : Elements) (k : ℤ) (f : Form) → IsTime h d → IsBounded e → checked_moved e.mean_anomaly e.motion k h ≡ Some f → Holds h d f (mean_anomaly_over e (k +ℤ d) (k +ℤ d))
unfolding checked_moved mean_anomaly_over
moved_holds {h} {d} e k f t b q =
    then_some _ (short_of (narrow_form (linear_of e.motion k h))) f q (λ n en e1.
    subst (λ (g : Form). Holds h d g (add_of e.mean_anomaly (narrow76_of (scale_int_of e.motion (k +ℤ d) (k +ℤ d))))) (same_Some _ _ e1)
    (add_holds (fixed_of e.mean_anomaly) n _ _ (fixed_holds h d e.mean_anomaly b.mean_anomaly.ordered) (short_holds (narrow_form (linear_of e.motion k h)) n _ en (narrow_holds _ _ t (linear_holds e.motion k t b.motion.ordered)))))

moved_back_holds : {h : ℕ} {d : ℤ} (e : Elements) (k : ℤ) (f : Form) → IsTime h d → IsBounded e → checked_moved_back e.node e.drift e.turned k h ≡ Some f → Holds h d f (node_over e (k +ℤ d) (k +ℤ d))
unfolding checked_moved_back node_over
moved_back_holds {h} {d} e k f t b q =
    then_some _ (short_of (narrow_form (sub_form (linear_of e.drift k h) (fixed_of e.turned)))) f q (λ n en e1.
    subst (λ (g : Form). Holds h d g (add_of e.node (narrow76_of (sub_of (scale_int_of e.drift (k +ℤ d) (k +ℤ d)) e.turned)))) (same_Some _ _ e1)
    (add_holds (fixed_of e.node) n _ _ (fixed_holds h d e.node b.node.ordered) (short_holds (narrow_form (sub_form (linear_of e.drift k h) (fixed_of e.turned))) n _ en (narrow_holds _ _ t (sub_holds _ _ _ _ (linear_holds e.drift k t b.drift.ordered) (fixed_holds h d e.turned b.turned.ordered))))))

-- ---- the place
in_plane_x_holds : {h : ℕ} {d : ℤ} (x y : Form) (w : PairForm) (f : Form) (a b : Ends) (p : PairEnds) → IsTime h d → Holds h d x a → Holds h d y b → PairHolds h d w p → checked_in_plane_x x y w ≡ Some f → Holds h d f (in_plane_x_of a b p)
unfolding checked_in_plane_x in_plane_x_of
in_plane_x_holds {h} {d} x y w f a b p t i j k q =
    then_some _ (short_of (mul_form x w.cosine)) f q (λ u eu e1. then_some _ (short_of (mul_form y w.sine)) f e1 (λ v ev e2.
    subst (λ (g : Form). Holds h d g (in_plane_x_of a b p)) (same_Some _ _ e2) (sub_holds u v _ _ (short_holds (mul_form x w.cosine) u _ eu (mul_holds _ _ _ _ t i k.cosine)) (short_holds (mul_form y w.sine) v _ ev (mul_holds _ _ _ _ t j k.sine)))))

in_plane_y_holds : {h : ℕ} {d : ℤ} (x y : Form) (w : PairForm) (f : Form) (a b : Ends) (p : PairEnds) → IsTime h d → Holds h d x a → Holds h d y b → PairHolds h d w p → checked_in_plane_y x y w ≡ Some f → Holds h d f (in_plane_y_of a b p)
unfolding checked_in_plane_y in_plane_y_of
in_plane_y_holds {h} {d} x y w f a b p t i j k q =
    then_some _ (short_of (mul_form x w.sine)) f q (λ u eu e1. then_some _ (short_of (mul_form y w.cosine)) f e1 (λ v ev e2.
    subst (λ (g : Form). Holds h d g (in_plane_y_of a b p)) (same_Some _ _ e2) (add_holds u v _ _ (short_holds (mul_form x w.sine) u _ eu (mul_holds _ _ _ _ t i k.sine)) (short_holds (mul_form y w.cosine) v _ ev (mul_holds _ _ _ _ t j k.cosine)))))

place_holds : {h : ℕ} {d : ℤ} (x y : Form) (o i : PairForm) (f : VectorForm) (a b : Ends) (p q : PairEnds) → IsTime h d → Holds h d x a → Holds h d y b → PairHolds h d o p → PairHolds h d i q → checked_place x y o i ≡ Some f → VectorHolds h d f (place_of a b p q)
unfolding checked_place place_of in_plane_x_of in_plane_y_of
place_holds {h} {d} x y o i f a b p q t hx hy ho hi e =
    then_some _ (short_of (mul_form y i.cosine)) f e (λ s es e1. then_some _ (checked_in_plane_x x s o) f e1 (λ u eu e2. then_some _ (checked_in_plane_y x s o) f e2 (λ v ev e3. then_some _ (short_of (mul_form y i.sine)) f e3 (λ w ew e4.
    let hs = short_holds (mul_form y i.cosine) s _ es (mul_holds _ _ _ _ t hy hi.cosine) in
    subst (λ (g : VectorForm). VectorHolds h d g (place_of a b p q)) (same_Some _ _ e4) record {
      x = in_plane_x_holds x s o u _ _ p t hx hs ho eu;
      y = in_plane_y_holds x s o v _ _ p t hx hs ho ev;
      z = short_holds (mul_form y i.sine) w _ ew (mul_holds _ _ _ _ t hy hi.sine);
    }))))

orbit_holds : {h : ℕ} {d : ℤ} (e : Elements) (a o : PairForm) (f : VectorForm) (p q : PairEnds) → IsTime h d → IsBounded e → PairHolds h d a p → PairHolds h d o q → checked_orbit e a o ≡ Some f → VectorHolds h d f (orbit_place_of e p (sin_cos_of e.perigee) q (sin_cos_of e.inclination))
unfolding checked_orbit orbit_place_of perifocal_x_form perifocal_y_form perifocal_x_of perifocal_y_of
orbit_holds {h} {d} e a o f p q t b ha ho eq =
    then_some _ (short_of (mul_form (fixed_of e.semi_major_axis) (sub_form a.cosine (fixed_of e.eccentricity)))) f eq (λ x ex e1. then_some _ (short_of (mul_form (fixed_of e.semi_minor_axis) a.sine)) f e1 (λ y ey e2.
    then_some _ (checked_in_plane_x x y (fixed_pair (sin_cos_of e.perigee))) f e2 (λ u eu e3. then_some _ (checked_in_plane_y x y (fixed_pair (sin_cos_of e.perigee))) f e3 (λ v ev e4.
    let hx = short_holds _ x _ ex (mul_holds _ _ _ _ t (fixed_holds h d e.semi_major_axis b.semi_major_axis.ordered) (sub_holds _ _ _ _ ha.cosine (fixed_holds h d e.eccentricity b.eccentricity.ordered))) in
    let hy = short_holds _ y _ ey (mul_holds _ _ _ _ t (fixed_holds h d e.semi_minor_axis b.semi_minor_axis.ordered) ha.sine) in
    let hw = fixed_pair_holds e.perigee b.perigee.ordered in
    place_holds u v o (fixed_pair (sin_cos_of e.inclination)) f _ _ q (sin_cos_of e.inclination) t (in_plane_x_holds x y _ u _ _ _ t hx hy hw eu) (in_plane_y_holds x y _ v _ _ _ t hx hy hw ev) ho (fixed_pair_holds e.inclination b.inclination.ordered) e4))))

place_over_holds : {h : ℕ} {d : ℤ} (e : Elements) (k : ℤ) (f : VectorForm) → IsTime h d → IsBounded e → IsFine e → checked_place_over e k h ≡ Some f → VectorHolds h d f (place_over e (k +ℤ d) (k +ℤ d))
unfolding checked_place_over checked_anomaly checked_node place_over
place_over_holds {h} {d} e k f t b n q =
    then_some _ (checked_anomaly e.mean_anomaly e.motion e.in_turns k h) f q (λ a ga e2. then_some _ (checked_moved e.mean_anomaly e.motion k h) a ga (λ m em ea.
    then_some _ (checked_node e.node e.drift e.turned k h) f e2 (λ o go e4. then_some _ (checked_moved_back e.node e.drift e.turned k h) o go (λ r er eo.
    let w : (e.in_turns.hi -ℤ e.in_turns.lo) ≤ℤ pos 4 = more (e.in_turns.hi -ℤ e.in_turns.lo) n.in_turns.width in
    orbit_holds e a o f _ _ t b (ecc_sin_cos_holds m e.in_turns _ a b.in_turns w t (moved_holds e k m t b em) ea) (sin_cos_holds r _ o t (moved_back_holds e k r t b er) eo) e4))))
  where
    more : (w : ℤ) → w ≤ℤ pos 2 → w ≤ℤ pos 4
    more w h = omega (arith, ints)

pub position_holds : (h : ℕ) (d : ℤ) (rec : AlmRecord) (mid : ℤ) (f : VectorForm) → IsAlmRecord rec → IsTime h d → checked_position rec mid h ≡ Some f → VectorHolds h d f (position_of rec (mid +ℤ d) (mid +ℤ d))
unfolding checked_position position_of
position_holds h d rec mid f i t e = subst (λ z. VectorHolds h d f (place_over (elements_of rec) z z)) (later mid rec.toa_ms d)
    (place_over_holds (elements_of rec) (mid -ℤ rec.toa_ms) f t (elements_bounded rec i) (elements_fine rec i) e)
  where
    later : (m a d : ℤ) → (m -ℤ a) +ℤ d ≡ (m +ℤ d) -ℤ a
    later m a d = omega (arith, ints)
