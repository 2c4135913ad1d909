-- What the form of a frame holds, where there is one.
use Rattle.std.proofs.Common.{subst, ◌≡◌, ◌^◌, ℕ, ℤ, pos, ◌&&◌, Some}
use Rattle.std.proofs.lemmas.Option.{same_Some}
use lib.Signed.{le_z}
use Rattle.fix_interval.specs.Ends.{Ends}
use Rattle.fix_interval.specs.Ranges.{point, one_ends}
use Rattle.fix_interval.specs.Sums.{sub_of}
use Rattle.fix_interval.specs.Roots.{sqrt_of}
use Rattle.fix_interval.specs.Quotients.{div_of}
use Rattle.fix_interval.specs.Pairs.{PairEnds}
use Rattle.site_laws.specs.Places.{PlaceEnds}
use Rattle.site_laws.specs.Frames.{one_wide, eccentricity_ends, axis_ends, radicand_of, bulge_of, radius_of, axis_distance_of, position_of, east_of, north_of, up_of, frame_at, frame_of}
use Rattle.time_forms.specs.Forms.{Form, IsTime, Holds, least_of}
use Rattle.time_forms.specs.Operations.{mul_form}
use Rattle.time_forms.specs.RootForms.{root_reach, sqrt_form, has_root, checked_sqrt_form}
use Rattle.time_forms.specs.QuotientForms.{quotient_centre, quotient_turn, quotient_sway, has_quotient, div_form, checked_div_form}
use Rattle.time_forms.specs.Programs.{is_below, short_of}
use Rattle.time_forms.proofs.Shorts.{both_hold, from_one}
use Rattle.time_forms.proofs.Known.{fixed_holds}
use Rattle.time_forms.proofs.FormSums.{add_holds, sub_holds, neg_holds}
use Rattle.time_forms.proofs.FormProducts.{mul_wide_holds}
use Rattle.time_forms.proofs.Coarser.{mul_holds, sqr_holds}
use Rattle.time_forms.proofs.FormRoots.{sqrt_holds}
use Rattle.time_forms.proofs.FormQuotients.{div_holds}
use Rattle.orbit_forms.specs.Positions.{PairForm, VectorForm, PairHolds, VectorHolds}
use Rattle.angle_forms.specs.Checked.{checked_sin_cos}
use Rattle.angle_forms.proofs.Steps.{then_some, if_tested, short_holds}
use Rattle.angle_forms.proofs.Turned.{sin_cos_holds}
use Rattle.site_forms.proofs.Constants.{eccentricity_ordered, axis_ordered, rest_ordered}
use Rattle.site_forms.specs.Places.{PlaceForm, PlaceHolds}
use Rattle.look_forms.specs.Frames.{FrameForm, FrameHolds}
use Rattle.site_forms.specs.Frames.{checked_bulge, checked_radius, axis_distance_form, lesser_form, equator_distance_form, checked_position, east_form, checked_north, checked_up, checked_frame_at, checked_frame}

-- ---- roots and quotients where there are any
root_holds : {h : ℕ} {d : ℤ} (f g : Form) (a : Ends) → IsTime h d → Holds h d f a → checked_sqrt_form f ≡ Some g → Holds h d g (sqrt_of a)
unfolding checked_sqrt_form
root_holds {h} {d} f g a t p e =
    let b = if_tested (has_root f) (short_of (sqrt_form f)) g e in
    let l = both_hold (le_z (pos 1) (least_of f)) (le_z (pos 1) f.centre) (both_hold (le_z (pos 1) (least_of f) && le_z (pos 1) f.centre) (is_below (root_reach f) (2 ^ 62)) b.0).0 in
    short_holds (sqrt_form f) g (sqrt_of a) b.1 (sqrt_holds f a t (from_one l.0) p)

quotient_holds : {h : ℕ} {d : ℤ} (f g k : Form) (a b : Ends) → IsTime h d → Holds h d f a → Holds h d g b → checked_div_form f g ≡ Some k → Holds h d k (div_of a b)
unfolding checked_div_form
quotient_holds {h} {d} f g k a b t p q e =
    let s = if_tested (has_quotient f g) (short_of (div_form f g)) k e in
    let l = both_hold (le_z (pos 1) (least_of g)) (le_z (pos 1) g.centre)
    (both_hold (le_z (pos 1) (least_of g) && le_z (pos 1) g.centre) (is_below (quotient_centre f g) (2 ^ 58) && (is_below (quotient_turn f g) (2 ^ 58) && is_below (quotient_sway f g) (2 ^ 86))) s.0).0 in
    short_holds (div_form f g) k (div_of a b) s.1 (div_holds f g a b t (from_one l.0) p q)

-- ---- the ellipsoid
bulge_holds : {h : ℕ} {d : ℤ} (s f : Form) (a : Ends) → IsTime h d → Holds h d s a → checked_bulge s ≡ Some f → Holds h d f (bulge_of a)
unfolding checked_bulge bulge_of
bulge_holds {h} {d} s f a t p e = then_some _ (short_of (mul_form s s)) f e (λ q eq e1.
    root_holds _ f (radicand_of a) t (sub_holds _ _ _ _ (fixed_holds h d one_wide (record { le = tt })) (mul_wide_holds _ _ _ _ t (fixed_holds h d eccentricity_ends eccentricity_ordered) (short_holds (mul_form s s) q _ eq (sqr_holds s a t p)))) e1)

radius_holds : {h : ℕ} {d : ℤ} (s f : Form) (a : Ends) → IsTime h d → Holds h d s a → checked_radius s ≡ Some f → Holds h d f (radius_of a)
unfolding checked_radius radius_of
radius_holds {h} {d} s f a t p e = then_some _ (checked_bulge s) f e (λ b eb e1. quotient_holds _ b f axis_ends _ t (fixed_holds h d axis_ends axis_ordered) (bulge_holds s b a t p eb) e1)

-- ---- the position and the directions
position_holds : {h : ℕ} {d : ℤ} (height : Form) (lat lon : PairForm) (f : VectorForm) (a : Ends) (p q : PairEnds) → IsTime h d → Holds h d height a → PairHolds h d lat p → PairHolds h d lon q → checked_position height lat lon ≡ Some f → VectorHolds h d f (position_of a p q)
unfolding checked_position position_of axis_distance_of
position_holds {h} {d} height lat lon f a p q t ha hp hq e =
    then_some _ (checked_radius lat.sine) f e (λ r er e1. then_some _ (short_of (axis_distance_form r height lat)) f e1 (λ m em e2.
    then_some _ (short_of (mul_form m lon.cosine)) f e2 (λ x ex e3. then_some _ (short_of (mul_form m lon.sine)) f e3 (λ y ey e4.
    then_some _ (short_of (lesser_form r)) f e4 (λ l el e5. then_some _ (short_of (equator_distance_form l height lat)) f e5 (λ z ez e6.
    let hr = radius_holds lat.sine r p.sine t hp.sine er in
    let hm = short_holds _ m _ em (mul_holds _ _ _ _ t (add_holds _ _ _ _ hr ha) hp.cosine) in
    let hl = short_holds _ l _ el (mul_holds _ _ _ _ t hr (fixed_holds h d (sub_of one_ends eccentricity_ends) rest_ordered)) in
    subst (λ (g : VectorForm). VectorHolds h d g (position_of a p q)) (same_Some _ _ e6) record {
      x = short_holds _ x _ ex (mul_holds _ _ _ _ t hm hq.cosine);
      y = short_holds _ y _ ey (mul_holds _ _ _ _ t hm hq.sine);
      z = short_holds _ z _ ez (mul_holds _ _ _ _ t (add_holds _ _ _ _ hl ha) hp.sine);
    }))))))

east_holds : {h : ℕ} {d : ℤ} (lon : PairForm) (q : PairEnds) → PairHolds h d lon q → VectorHolds h d (east_form lon) (east_of q)
unfolding east_of
east_holds {h} {d} lon q k = record { x = neg_holds _ _ k.sine; y = k.cosine; z = fixed_holds h d (point (pos 0)) (record { le = tt }) }

north_holds : {h : ℕ} {d : ℤ} (lat lon : PairForm) (f : VectorForm) (p q : PairEnds) → IsTime h d → PairHolds h d lat p → PairHolds h d lon q → checked_north lat lon ≡ Some f → VectorHolds h d f (north_of p q)
unfolding checked_north north_of
north_holds {h} {d} lat lon f p q t hp hq e =
    then_some _ (short_of (mul_form lat.sine lon.cosine)) f e (λ x ex e1. then_some _ (short_of (mul_form lat.sine lon.sine)) f e1 (λ y ey e2.
    subst (λ (g : VectorForm). VectorHolds h d g (north_of p q)) (same_Some _ _ e2) record {
      x = neg_holds _ _ (short_holds _ x _ ex (mul_holds _ _ _ _ t hp.sine hq.cosine));
      y = neg_holds _ _ (short_holds _ y _ ey (mul_holds _ _ _ _ t hp.sine hq.sine));
      z = hp.cosine;
    }))

up_holds : {h : ℕ} {d : ℤ} (lat lon : PairForm) (f : VectorForm) (p q : PairEnds) → IsTime h d → PairHolds h d lat p → PairHolds h d lon q → checked_up lat lon ≡ Some f → VectorHolds h d f (up_of p q)
unfolding checked_up up_of
up_holds {h} {d} lat lon f p q t hp hq e =
    then_some _ (short_of (mul_form lat.cosine lon.cosine)) f e (λ x ex e1. then_some _ (short_of (mul_form lat.cosine lon.sine)) f e1 (λ y ey e2.
    subst (λ (g : VectorForm). VectorHolds h d g (up_of p q)) (same_Some _ _ e2) record {
      x = short_holds _ x _ ex (mul_holds _ _ _ _ t hp.cosine hq.cosine);
      y = short_holds _ y _ ey (mul_holds _ _ _ _ t hp.cosine hq.sine);
      z = hp.sine;
    }))

frame_at_holds : {h : ℕ} {d : ℤ} (height : Form) (lat lon : PairForm) (f : FrameForm) (a : Ends) (p q : PairEnds) → IsTime h d → Holds h d height a → PairHolds h d lat p → PairHolds h d lon q → checked_frame_at height lat lon ≡ Some f → FrameHolds h d f (frame_at a p q)
unfolding checked_frame_at frame_at
frame_at_holds {h} {d} height lat lon f a p q t ha hp hq e =
    then_some _ (checked_position height lat lon) f e (λ x ex e1. then_some _ (checked_north lat lon) f e1 (λ n en e2. then_some _ (checked_up lat lon) f e2 (λ u eu e3.
    subst (λ (g : FrameForm). FrameHolds h d g (frame_at a p q)) (same_Some _ _ e3) record {
      position = position_holds height lat lon x a p q t ha hp hq ex;
      east = east_holds lon q hq;
      north = north_holds lat lon n p q t hp hq en;
      up = up_holds lat lon u p q t hp hq eu;
    })))

pub frame_holds : {h : ℕ} {d : ℤ} (place : PlaceForm) (f : FrameForm) (p : PlaceEnds) → IsTime h d → PlaceHolds h d place p → checked_frame place ≡ Some f → FrameHolds h d f (frame_of p)
unfolding checked_frame frame_of
frame_holds {h} {d} place f p t k e =
    then_some _ (checked_sin_cos place.lat) f e (λ lat ea e1. then_some _ (checked_sin_cos place.lon) f e1 (λ lon eo e2.
    frame_at_holds place.height lat lon f p.height _ _ t k.height (sin_cos_holds place.lat p.lat lat t k.lat ea) (sin_cos_holds place.lon p.lon lon t k.lon eo) e2))
