-- The form of a frame, found step by step: where a step has none, there is none, and otherwise what follows is found from it.
use Rattle.std.proofs.Common.{sym, ◌≡◌, ◌∙◌, Option, Some, None}
use Rattle.std.specs.Prelude.{IfSome}
use Rattle.std.specs.Option.{option_map}
use Rattle.site_laws.specs.Frames.{one_wide, eccentricity_ends, axis_ends}
use Rattle.time_forms.specs.Forms.{Form}
use Rattle.time_forms.specs.Operations.{fixed_of, sub_form, neg_form, wide_form, mul_form}
use Rattle.time_forms.specs.RootForms.{checked_sqrt_form}
use Rattle.time_forms.specs.QuotientForms.{checked_div_form}
use Rattle.time_forms.specs.Programs.{short_of}
use Rattle.orbit_forms.specs.Positions.{PairForm, VectorForm}
use Rattle.angle_forms.specs.Checked.{◌>>=◌, checked_sin_cos}
use Rattle.angle_forms.proofs.Steps.{none_step, some_step}
use Rattle.look_forms.specs.Frames.{FrameForm}
use Rattle.site_forms.specs.declared.time_frame.TimeFrame.{TimeFrame}
use Rattle.site_forms.specs.Places.{PlaceForm}
use Rattle.site_forms.specs.Frames.{frame_form, checked_bulge, checked_radius, axis_distance_form, lesser_form, equator_distance_form, checked_position, east_form, checked_north, checked_up, checked_frame_at, checked_frame}

abbrev pub vector_of : (x y z : Form) → VectorForm
vector_of x y z = record { x = x; y = y; z = z }

pub same_vector : {a b c x y z : Form} → a ≡ x → b ≡ y → c ≡ z → vector_of a b c ≡ vector_of x y z
same_vector p q r = λ i. record { x = p i; y = q i; z = r i }

-- ---- the ellipsoid
abbrev pub radicand_form : Form → Form
radicand_form q = sub_form (fixed_of one_wide) (wide_form (fixed_of eccentricity_ends) q)

pub bulge_none : (s : Form) → None ≡ short_of (mul_form s s) → None ≡ checked_bulge s
unfolding checked_bulge
bulge_none s e = none_step (short_of (mul_form s s)) (λ q. checked_sqrt_form (radicand_form q)) e

pub bulge_some : (s q : Form) → Some q ≡ short_of (mul_form s s) → checked_sqrt_form (radicand_form q) ≡ checked_bulge s
unfolding checked_bulge
bulge_some s q e = some_step (short_of (mul_form s s)) q (λ t. checked_sqrt_form (radicand_form t)) e

pub radius_none : (s : Form) → None ≡ checked_bulge s → None ≡ checked_radius s
unfolding checked_radius
radius_none s e = none_step (checked_bulge s) (λ b. checked_div_form (fixed_of axis_ends) b) e

pub radius_some : (s b : Form) → Some b ≡ checked_bulge s → checked_div_form (fixed_of axis_ends) b ≡ checked_radius s
unfolding checked_radius
radius_some s b e = some_step (checked_bulge s) b (λ t. checked_div_form (fixed_of axis_ends) t) e

-- ---- the position, after the radius r, the distance t from the axis, two components and the lesser radius l
abbrev after_lesser : Form → PairForm → (x y l : Form) → Option VectorForm
after_lesser height lat x y l = short_of (equator_distance_form l height lat) >>= (λ z. Some (vector_of x y z))

abbrev after_second : Form → PairForm → (r x y : Form) → Option VectorForm
after_second height lat r x y = short_of (lesser_form r) >>= after_lesser height lat x y

abbrev after_first : Form → (lat lon : PairForm) → (r t x : Form) → Option VectorForm
after_first height lat lon r t x = short_of (mul_form t lon.sine) >>= after_second height lat r x

abbrev after_distance : Form → (lat lon : PairForm) → (r t : Form) → Option VectorForm
after_distance height lat lon r t = short_of (mul_form t lon.cosine) >>= after_first height lat lon r t

abbrev after_radius : Form → (lat lon : PairForm) → Form → Option VectorForm
after_radius height lat lon r = short_of (axis_distance_form r height lat) >>= after_distance height lat lon r

pub position_none : (height : Form) (lat lon : PairForm) → None ≡ checked_radius lat.sine → None ≡ checked_position height lat lon
unfolding checked_position
position_none height lat lon e = none_step (checked_radius lat.sine) (after_radius height lat lon) e

position_radius : (height : Form) (lat lon : PairForm) (r : Form) → Some r ≡ checked_radius lat.sine → after_radius height lat lon r ≡ checked_position height lat lon
unfolding checked_position
position_radius height lat lon r e = some_step (checked_radius lat.sine) r (after_radius height lat lon) e

pub position_no_distance : (height : Form) (lat lon : PairForm) (r : Form) → Some r ≡ checked_radius lat.sine → None ≡ short_of (axis_distance_form r height lat) → None ≡ checked_position height lat lon
position_no_distance height lat lon r e n = none_step (short_of (axis_distance_form r height lat)) (after_distance height lat lon r) n ∙ position_radius height lat lon r e

position_distance : (height : Form) (lat lon : PairForm) (r t : Form) → Some r ≡ checked_radius lat.sine → Some t ≡ short_of (axis_distance_form r height lat) → after_distance height lat lon r t ≡ checked_position height lat lon
position_distance height lat lon r t e f = some_step (short_of (axis_distance_form r height lat)) t (after_distance height lat lon r) f ∙ position_radius height lat lon r e

pub position_no_first : (height : Form) (lat lon : PairForm) (r t : Form) → Some r ≡ checked_radius lat.sine → Some t ≡ short_of (axis_distance_form r height lat) → None ≡ short_of (mul_form t lon.cosine) → None ≡ checked_position height lat lon
position_no_first height lat lon r t e f n = none_step (short_of (mul_form t lon.cosine)) (after_first height lat lon r t) n ∙ position_distance height lat lon r t e f

position_first : (height : Form) (lat lon : PairForm) (r t x : Form) → Some r ≡ checked_radius lat.sine → Some t ≡ short_of (axis_distance_form r height lat) → Some x ≡ short_of (mul_form t lon.cosine) → after_first height lat lon r t x ≡ checked_position height lat lon
position_first height lat lon r t x e f g = some_step (short_of (mul_form t lon.cosine)) x (after_first height lat lon r t) g ∙ position_distance height lat lon r t e f

pub position_no_second : (height : Form) (lat lon : PairForm) (r t x : Form) → Some r ≡ checked_radius lat.sine → Some t ≡ short_of (axis_distance_form r height lat) → Some x ≡ short_of (mul_form t lon.cosine) → None ≡ short_of (mul_form t lon.sine) → None ≡ checked_position height lat lon
position_no_second height lat lon r t x e f g n = none_step (short_of (mul_form t lon.sine)) (after_second height lat r x) n ∙ position_first height lat lon r t x e f g

position_second : (height : Form) (lat lon : PairForm) (r t x y : Form) → Some r ≡ checked_radius lat.sine → Some t ≡ short_of (axis_distance_form r height lat) → Some x ≡ short_of (mul_form t lon.cosine) → Some y ≡ short_of (mul_form t lon.sine)
    → after_second height lat r x y ≡ checked_position height lat lon
position_second height lat lon r t x y e f g i = some_step (short_of (mul_form t lon.sine)) y (after_second height lat r x) i ∙ position_first height lat lon r t x e f g

pub position_no_lesser : (height : Form) (lat lon : PairForm) (r t x y : Form) → Some r ≡ checked_radius lat.sine → Some t ≡ short_of (axis_distance_form r height lat) → Some x ≡ short_of (mul_form t lon.cosine) → Some y ≡ short_of (mul_form t lon.sine)
    → None ≡ short_of (lesser_form r) → None ≡ checked_position height lat lon
position_no_lesser height lat lon r t x y e f g i n = none_step (short_of (lesser_form r)) (after_lesser height lat x y) n ∙ position_second height lat lon r t x y e f g i

position_lesser : (height : Form) (lat lon : PairForm) (r t x y l : Form) → Some r ≡ checked_radius lat.sine → Some t ≡ short_of (axis_distance_form r height lat) → Some x ≡ short_of (mul_form t lon.cosine) → Some y ≡ short_of (mul_form t lon.sine)
    → Some l ≡ short_of (lesser_form r) → after_lesser height lat x y l ≡ checked_position height lat lon
position_lesser height lat lon r t x y l e f g i j = some_step (short_of (lesser_form r)) l (after_lesser height lat x y) j ∙ position_second height lat lon r t x y e f g i

pub position_no_third : (height : Form) (lat lon : PairForm) (r t x y l : Form) → Some r ≡ checked_radius lat.sine → Some t ≡ short_of (axis_distance_form r height lat) → Some x ≡ short_of (mul_form t lon.cosine) → Some y ≡ short_of (mul_form t lon.sine)
    → Some l ≡ short_of (lesser_form r) → None ≡ short_of (equator_distance_form l height lat) → None ≡ checked_position height lat lon
position_no_third height lat lon r t x y l e f g i j n = none_step (short_of (equator_distance_form l height lat)) (λ z. Some (vector_of x y z)) n ∙ position_lesser height lat lon r t x y l e f g i j

pub position_some : (height : Form) (lat lon : PairForm) (r t x y l z : Form) → Some r ≡ checked_radius lat.sine → Some t ≡ short_of (axis_distance_form r height lat) → Some x ≡ short_of (mul_form t lon.cosine) → Some y ≡ short_of (mul_form t lon.sine)
    → Some l ≡ short_of (lesser_form r) → Some z ≡ short_of (equator_distance_form l height lat) → Some (vector_of x y z) ≡ checked_position height lat lon
position_some height lat lon r t x y l z e f g i j k = some_step (short_of (equator_distance_form l height lat)) z (λ w. Some (vector_of x y w)) k ∙ position_lesser height lat lon r t x y l e f g i j

-- ---- the directions, after their first component
abbrev after_north : (lat lon : PairForm) → Form → Option VectorForm
after_north lat lon a = short_of (mul_form lat.sine lon.sine) >>= (λ b. Some (vector_of (neg_form a) (neg_form b) lat.cosine))

pub north_none : (lat lon : PairForm) → None ≡ short_of (mul_form lat.sine lon.cosine) → None ≡ checked_north lat lon
unfolding checked_north
north_none lat lon e = none_step (short_of (mul_form lat.sine lon.cosine)) (after_north lat lon) e

pub north_half : (lat lon : PairForm) (a : Form) → Some a ≡ short_of (mul_form lat.sine lon.cosine) → None ≡ short_of (mul_form lat.sine lon.sine) → None ≡ checked_north lat lon
unfolding checked_north
north_half lat lon a e n = none_step (short_of (mul_form lat.sine lon.sine)) (λ b. Some (vector_of (neg_form a) (neg_form b) lat.cosine)) n ∙ some_step (short_of (mul_form lat.sine lon.cosine)) a (after_north lat lon) e

pub north_some : (lat lon : PairForm) (a b : Form) → Some a ≡ short_of (mul_form lat.sine lon.cosine) → Some b ≡ short_of (mul_form lat.sine lon.sine) → Some (vector_of (neg_form a) (neg_form b) lat.cosine) ≡ checked_north lat lon
unfolding checked_north
north_some lat lon a b e f = some_step (short_of (mul_form lat.sine lon.sine)) b (λ t. Some (vector_of (neg_form a) (neg_form t) lat.cosine)) f ∙ some_step (short_of (mul_form lat.sine lon.cosine)) a (after_north lat lon) e

abbrev after_up : (lat lon : PairForm) → Form → Option VectorForm
after_up lat lon a = short_of (mul_form lat.cosine lon.sine) >>= (λ b. Some (vector_of a b lat.sine))

pub up_none : (lat lon : PairForm) → None ≡ short_of (mul_form lat.cosine lon.cosine) → None ≡ checked_up lat lon
unfolding checked_up
up_none lat lon e = none_step (short_of (mul_form lat.cosine lon.cosine)) (after_up lat lon) e

pub up_half : (lat lon : PairForm) (a : Form) → Some a ≡ short_of (mul_form lat.cosine lon.cosine) → None ≡ short_of (mul_form lat.cosine lon.sine) → None ≡ checked_up lat lon
unfolding checked_up
up_half lat lon a e n = none_step (short_of (mul_form lat.cosine lon.sine)) (λ b. Some (vector_of a b lat.sine)) n ∙ some_step (short_of (mul_form lat.cosine lon.cosine)) a (after_up lat lon) e

pub up_some : (lat lon : PairForm) (a b : Form) → Some a ≡ short_of (mul_form lat.cosine lon.cosine) → Some b ≡ short_of (mul_form lat.cosine lon.sine) → Some (vector_of a b lat.sine) ≡ checked_up lat lon
unfolding checked_up
up_some lat lon a b e f = some_step (short_of (mul_form lat.cosine lon.sine)) b (λ t. Some (vector_of a t lat.sine)) f ∙ some_step (short_of (mul_form lat.cosine lon.cosine)) a (after_up lat lon) e

-- ---- the frame, after the position, and after the direction to the north
abbrev pub frame_from : PairForm → (p n u : VectorForm) → FrameForm
frame_from lon p n u = record { position = p; east = east_form lon; north = n; up = u }

pub same_frame : {p e n u : VectorForm} (lon : PairForm) → e ≡ east_form lon → (let f : FrameForm = record { position = p; east = e; north = n; up = u } in f ≡ frame_from lon p n u)
same_frame {p} {e} {n} {u} lon q = λ i. record { position = p; east = q i; north = n; up = u }

abbrev with_north : (lat lon : PairForm) → (p n : VectorForm) → Option FrameForm
with_north lat lon p n = checked_up lat lon >>= (λ u. Some (frame_from lon p n u))

abbrev with_position : (lat lon : PairForm) → VectorForm → Option FrameForm
with_position lat lon p = checked_north lat lon >>= with_north lat lon p

pub frame_at_none : (height : Form) (lat lon : PairForm) → None ≡ checked_position height lat lon → None ≡ checked_frame_at height lat lon
unfolding checked_frame_at
frame_at_none height lat lon e = none_step (checked_position height lat lon) (with_position lat lon) e

frame_at_position : (height : Form) (lat lon : PairForm) (p : VectorForm) → Some p ≡ checked_position height lat lon → with_position lat lon p ≡ checked_frame_at height lat lon
unfolding checked_frame_at
frame_at_position height lat lon p e = some_step (checked_position height lat lon) p (with_position lat lon) e

pub frame_at_no_north : (height : Form) (lat lon : PairForm) (p : VectorForm) → Some p ≡ checked_position height lat lon → None ≡ checked_north lat lon → None ≡ checked_frame_at height lat lon
frame_at_no_north height lat lon p e i = none_step (checked_north lat lon) (with_north lat lon p) i ∙ frame_at_position height lat lon p e

frame_at_north : (height : Form) (lat lon : PairForm) (p n : VectorForm) → Some p ≡ checked_position height lat lon → Some n ≡ checked_north lat lon → with_north lat lon p n ≡ checked_frame_at height lat lon
frame_at_north height lat lon p n e f = some_step (checked_north lat lon) n (with_north lat lon p) f ∙ frame_at_position height lat lon p e

pub frame_at_no_up : (height : Form) (lat lon : PairForm) (p n : VectorForm) → Some p ≡ checked_position height lat lon → Some n ≡ checked_north lat lon → None ≡ checked_up lat lon → None ≡ checked_frame_at height lat lon
frame_at_no_up height lat lon p n e f i = none_step (checked_up lat lon) (λ u. Some (frame_from lon p n u)) i ∙ frame_at_north height lat lon p n e f

pub frame_at_some : (height : Form) (lat lon : PairForm) (p n u : VectorForm) → Some p ≡ checked_position height lat lon → Some n ≡ checked_north lat lon → Some u ≡ checked_up lat lon → Some (frame_from lon p n u) ≡ checked_frame_at height lat lon
frame_at_some height lat lon p n u e f g = some_step (checked_up lat lon) u (λ v. Some (frame_from lon p n v)) g ∙ frame_at_north height lat lon p n e f

-- ---- the frame at a place, after the latitude
abbrev with_latitude : PlaceForm → PairForm → Option FrameForm
with_latitude place lat = checked_sin_cos place.lon >>= checked_frame_at place.height lat

pub frame_none : (place : PlaceForm) → None ≡ checked_sin_cos place.lat → None ≡ checked_frame place
unfolding checked_frame
frame_none place e = none_step (checked_sin_cos place.lat) (with_latitude place) e

frame_latitude : (place : PlaceForm) (lat : PairForm) → Some lat ≡ checked_sin_cos place.lat → with_latitude place lat ≡ checked_frame place
unfolding checked_frame
frame_latitude place lat e = some_step (checked_sin_cos place.lat) lat (with_latitude place) e

pub frame_half : (place : PlaceForm) (lat : PairForm) → Some lat ≡ checked_sin_cos place.lat → None ≡ checked_sin_cos place.lon → None ≡ checked_frame place
frame_half place lat e n = none_step (checked_sin_cos place.lon) (checked_frame_at place.height lat) n ∙ frame_latitude place lat e

pub frame_some : (place : PlaceForm) (lat lon : PairForm) → Some lat ≡ checked_sin_cos place.lat → Some lon ≡ checked_sin_cos place.lon → checked_frame_at place.height lat lon ≡ checked_frame place
frame_some place lat lon e f = some_step (checked_sin_cos place.lon) lon (checked_frame_at place.height lat) f ∙ frame_latitude place lat e

-- what holds of the frame that is seen holds of the program's
pub if_frame : (r : Option TimeFrame) (o : Option FrameForm) → option_map frame_form r ≡ o → (P : FrameForm → Type 0) → ((f : FrameForm) → o ≡ Some f → P f) → IfSome r (λ t. P (frame_form t))
if_frame None o e P k = tt
if_frame (Some t) o e P k = k (frame_form t) (sym e)
