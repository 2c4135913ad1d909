-- The forms of a place, found step by step: where a step has none, there is none, and otherwise what follows is found from it.
use Rattle.std.proofs.Common.{◌≡◌, ◌∙◌, ap, ap₂, ℕ, ℤ, Option, Some, None}
use Rattle.raim_model.specs.declared.almanac.AlmRecord.{AlmRecord}
use Rattle.fix_interval.specs.Ends.{Ends}
use Rattle.fix_interval.specs.Intervals.{ends}
use Rattle.trig_laws.specs.SinCos.{sin_cos_of}
use Rattle.orbit_laws.specs.Elements.{Elements, elements_of}
use Rattle.time_forms.specs.Forms.{Form}
use Rattle.time_forms.specs.Operations.{fixed_of, linear_of, add_form, sub_form, narrow_form, mul_form}
use Rattle.time_forms.specs.Programs.{short_of}
use Rattle.orbit_forms.specs.Positions.{PairForm, VectorForm, fixed_pair, perifocal_x_form, perifocal_y_form}
use Rattle.angle_forms.specs.Checked.{◌>>=◌, checked_sin_cos, checked_ecc_sin_cos}
use Rattle.angle_forms.proofs.Steps.{none_step, some_step}
use Rattle.almanac_orbit.specs.declared.kept.Kept.{Kept}
use Rattle.almanac_orbit.specs.Kept.{IsKept}
use Rattle.almanac_orbit.proofs.KeptElements.{kept-is}
use Rattle.satellite_forms.specs.Checked.{checked_moved, checked_moved_back, checked_anomaly, checked_node, checked_in_plane_x, checked_in_plane_y, checked_place, checked_orbit, checked_place_over}

-- ---- an angle that moves
pub moved_none : (s r : Ends) (k : ℤ) (h : ℕ) → None ≡ short_of (narrow_form (linear_of r k h)) → None ≡ checked_moved s r k h
unfolding checked_moved
moved_none s r k h e = none_step (short_of (narrow_form (linear_of r k h))) (λ n. Some (add_form (fixed_of s) n)) e

pub moved_some : (s r : Ends) (k : ℤ) (h : ℕ) (n : Form) → Some n ≡ short_of (narrow_form (linear_of r k h)) → Some (add_form (fixed_of s) n) ≡ checked_moved s r k h
unfolding checked_moved
moved_some s r k h n e = some_step (short_of (narrow_form (linear_of r k h))) n (λ m. Some (add_form (fixed_of s) m)) e

pub moved_back_none : (s r t : Ends) (k : ℤ) (h : ℕ) → None ≡ short_of (narrow_form (sub_form (linear_of r k h) (fixed_of t))) → None ≡ checked_moved_back s r t k h
unfolding checked_moved_back
moved_back_none s r t k h e = none_step (short_of (narrow_form (sub_form (linear_of r k h) (fixed_of t)))) (λ n. Some (add_form (fixed_of s) n)) e

pub moved_back_some : (s r t : Ends) (k : ℤ) (h : ℕ) (n : Form) → Some n ≡ short_of (narrow_form (sub_form (linear_of r k h) (fixed_of t))) → Some (add_form (fixed_of s) n) ≡ checked_moved_back s r t k h
unfolding checked_moved_back
moved_back_some s r t k h n e = some_step (short_of (narrow_form (sub_form (linear_of r k h) (fixed_of t)))) n (λ m. Some (add_form (fixed_of s) m)) e

-- ---- the sine and the cosine of one
pub anomaly_none : (s r eps : Ends) (k : ℤ) (h : ℕ) → None ≡ checked_moved s r k h → None ≡ checked_anomaly s r eps k h
unfolding checked_anomaly
anomaly_none s r eps k h e = none_step (checked_moved s r k h) (λ m. checked_ecc_sin_cos m eps) e

pub anomaly_some : (s r eps : Ends) (k : ℤ) (h : ℕ) (m : Form) → Some m ≡ checked_moved s r k h → checked_ecc_sin_cos m eps ≡ checked_anomaly s r eps k h
unfolding checked_anomaly
anomaly_some s r eps k h m e = some_step (checked_moved s r k h) m (λ n. checked_ecc_sin_cos n eps) e

pub node_none : (s r t : Ends) (k : ℤ) (h : ℕ) → None ≡ checked_moved_back s r t k h → None ≡ checked_node s r t k h
unfolding checked_node
node_none s r t k h e = none_step (checked_moved_back s r t k h) checked_sin_cos e

pub node_some : (s r t : Ends) (k : ℤ) (h : ℕ) (m : Form) → Some m ≡ checked_moved_back s r t k h → checked_sin_cos m ≡ checked_node s r t k h
unfolding checked_node
node_some s r t k h m e = some_step (checked_moved_back s r t k h) m checked_sin_cos e

-- ---- turned in a plane
abbrev after_along : Form → PairForm → Form → Option Form
after_along y w a = short_of (mul_form y w.sine) >>= (λ b. Some (sub_form a b))

pub in_plane_x_none : (x y : Form) (w : PairForm) → None ≡ short_of (mul_form x w.cosine) → None ≡ checked_in_plane_x x y w
unfolding checked_in_plane_x
in_plane_x_none x y w e = none_step (short_of (mul_form x w.cosine)) (after_along y w) e

pub in_plane_x_half : (x y : Form) (w : PairForm) (a : Form) → Some a ≡ short_of (mul_form x w.cosine) → None ≡ short_of (mul_form y w.sine) → None ≡ checked_in_plane_x x y w
unfolding checked_in_plane_x
in_plane_x_half x y w a e n = none_step (short_of (mul_form y w.sine)) (λ b. Some (sub_form a b)) n ∙ some_step (short_of (mul_form x w.cosine)) a (after_along y w) e

pub in_plane_x_some : (x y : Form) (w : PairForm) (a b : Form) → Some a ≡ short_of (mul_form x w.cosine) → Some b ≡ short_of (mul_form y w.sine) → Some (sub_form a b) ≡ checked_in_plane_x x y w
unfolding checked_in_plane_x
in_plane_x_some x y w a b e s = some_step (short_of (mul_form y w.sine)) b (λ c. Some (sub_form a c)) s ∙ some_step (short_of (mul_form x w.cosine)) a (after_along y w) e

abbrev after_across : Form → PairForm → Form → Option Form
after_across y w a = short_of (mul_form y w.cosine) >>= (λ b. Some (add_form a b))

pub in_plane_y_none : (x y : Form) (w : PairForm) → None ≡ short_of (mul_form x w.sine) → None ≡ checked_in_plane_y x y w
unfolding checked_in_plane_y
in_plane_y_none x y w e = none_step (short_of (mul_form x w.sine)) (after_across y w) e

pub in_plane_y_half : (x y : Form) (w : PairForm) (a : Form) → Some a ≡ short_of (mul_form x w.sine) → None ≡ short_of (mul_form y w.cosine) → None ≡ checked_in_plane_y x y w
unfolding checked_in_plane_y
in_plane_y_half x y w a e n = none_step (short_of (mul_form y w.cosine)) (λ b. Some (add_form a b)) n ∙ some_step (short_of (mul_form x w.sine)) a (after_across y w) e

pub in_plane_y_some : (x y : Form) (w : PairForm) (a b : Form) → Some a ≡ short_of (mul_form x w.sine) → Some b ≡ short_of (mul_form y w.cosine) → Some (add_form a b) ≡ checked_in_plane_y x y w
unfolding checked_in_plane_y
in_plane_y_some x y w a b e s = some_step (short_of (mul_form y w.cosine)) b (λ c. Some (add_form a c)) s ∙ some_step (short_of (mul_form x w.sine)) a (after_across y w) e

-- ---- the place, after y is turned by the inclination, and after each component
abbrev pub after_second : Form → PairForm → (u v : Form) → Option VectorForm
after_second y i u v = short_of (mul_form y i.sine) >>= (λ w. Some (record { x = u; y = v; z = w }))

abbrev pub after_first : (x y : Form) → (o i : PairForm) → (a u : Form) → Option VectorForm
after_first x y o i a u = checked_in_plane_y x a o >>= after_second y i u

abbrev pub after_turned : (x y : Form) → (o i : PairForm) → Form → Option VectorForm
after_turned x y o i a = checked_in_plane_x x a o >>= after_first x y o i a

pub place_none : (x y : Form) (o i : PairForm) → None ≡ short_of (mul_form y i.cosine) → None ≡ checked_place x y o i
unfolding checked_place
place_none x y o i e = none_step (short_of (mul_form y i.cosine)) (after_turned x y o i) e

pub place_turned : (x y : Form) (o i : PairForm) (a : Form) → Some a ≡ short_of (mul_form y i.cosine) → after_turned x y o i a ≡ checked_place x y o i
unfolding checked_place
place_turned x y o i a e = some_step (short_of (mul_form y i.cosine)) a (after_turned x y o i) e

pub place_first : (x y : Form) (o i : PairForm) (a u : Form) → Some a ≡ short_of (mul_form y i.cosine) → Some u ≡ checked_in_plane_x x a o → after_first x y o i a u ≡ checked_place x y o i
place_first x y o i a u e f = some_step (checked_in_plane_x x a o) u (after_first x y o i a) f ∙ place_turned x y o i a e

pub place_second : (x y : Form) (o i : PairForm) (a u v : Form) → Some a ≡ short_of (mul_form y i.cosine) → Some u ≡ checked_in_plane_x x a o → Some v ≡ checked_in_plane_y x a o → after_second y i u v ≡ checked_place x y o i
place_second x y o i a u v e f g = some_step (checked_in_plane_y x a o) v (after_second y i u) g ∙ place_first x y o i a u e f

pub place_short : (x y : Form) (o i : PairForm) (a u v : Form) → Some a ≡ short_of (mul_form y i.cosine) → Some u ≡ checked_in_plane_x x a o → Some v ≡ checked_in_plane_y x a o → None ≡ short_of (mul_form y i.sine) → None ≡ checked_place x y o i
place_short x y o i a u v e f g n = none_step (short_of (mul_form y i.sine)) (λ w. Some (record { x = u; y = v; z = w })) n ∙ place_second x y o i a u v e f g

pub place_some : (x y : Form) (o i : PairForm) (a u v w : Form) → Some a ≡ short_of (mul_form y i.cosine) → Some u ≡ checked_in_plane_x x a o → Some v ≡ checked_in_plane_y x a o → Some w ≡ short_of (mul_form y i.sine) → Some (record { x = u; y = v; z = w }) ≡ checked_place x y o i
place_some x y o i a u v w e f g s = some_step (short_of (mul_form y i.sine)) w (λ z. Some (record { x = u; y = v; z = z })) s ∙ place_second x y o i a u v e f g

-- ---- the place in its orbit, after each of the two axes, and after each component in the plane
abbrev pub after_plane_y : Elements → PairForm → (u v : Form) → Option VectorForm
after_plane_y e o u v = checked_place u v o (fixed_pair (sin_cos_of e.inclination))

abbrev pub after_plane_x : Elements → PairForm → (x y u : Form) → Option VectorForm
after_plane_x e o x y u = checked_in_plane_y x y (fixed_pair (sin_cos_of e.perigee)) >>= after_plane_y e o u

abbrev pub after_minor : Elements → PairForm → (x y : Form) → Option VectorForm
after_minor e o x y = checked_in_plane_x x y (fixed_pair (sin_cos_of e.perigee)) >>= after_plane_x e o x y

abbrev pub after_major : Elements → (a o : PairForm) → Form → Option VectorForm
after_major e a o x = short_of (perifocal_y_form e a) >>= after_minor e o x

pub orbit_none : (e : Elements) (a o : PairForm) → None ≡ short_of (perifocal_x_form e a) → None ≡ checked_orbit e a o
unfolding checked_orbit
orbit_none e a o q = none_step (short_of (perifocal_x_form e a)) (after_major e a o) q

pub orbit_major : (e : Elements) (a o : PairForm) (x : Form) → Some x ≡ short_of (perifocal_x_form e a) → after_major e a o x ≡ checked_orbit e a o
unfolding checked_orbit
orbit_major e a o x q = some_step (short_of (perifocal_x_form e a)) x (after_major e a o) q

pub orbit_minor : (e : Elements) (a o : PairForm) (x y : Form) → Some x ≡ short_of (perifocal_x_form e a) → Some y ≡ short_of (perifocal_y_form e a) → after_minor e o x y ≡ checked_orbit e a o
orbit_minor e a o x y q r = some_step (short_of (perifocal_y_form e a)) y (after_minor e o x) r ∙ orbit_major e a o x q

pub orbit_plane_x : (e : Elements) (a o : PairForm) (x y u : Form) → Some x ≡ short_of (perifocal_x_form e a) → Some y ≡ short_of (perifocal_y_form e a) → Some u ≡ checked_in_plane_x x y (fixed_pair (sin_cos_of e.perigee)) → after_plane_x e o x y u ≡ checked_orbit e a o
orbit_plane_x e a o x y u q r s = some_step (checked_in_plane_x x y (fixed_pair (sin_cos_of e.perigee))) u (after_plane_x e o x y) s ∙ orbit_minor e a o x y q r

pub orbit_plane_y : (e : Elements) (a o : PairForm) (x y u v : Form) → Some x ≡ short_of (perifocal_x_form e a) → Some y ≡ short_of (perifocal_y_form e a) → Some u ≡ checked_in_plane_x x y (fixed_pair (sin_cos_of e.perigee)) → Some v ≡ checked_in_plane_y x y (fixed_pair (sin_cos_of e.perigee)) → after_plane_y e o u v ≡ checked_orbit e a o
orbit_plane_y e a o x y u v q r s t = some_step (checked_in_plane_y x y (fixed_pair (sin_cos_of e.perigee))) v (after_plane_y e o u) t ∙ orbit_plane_x e a o x y u q r s

-- the same axes, of the elements
pub major-is : (e : Elements) (a : PairForm) (s t : Form) → s ≡ fixed_of e.semi_major_axis → t ≡ fixed_of e.eccentricity → short_of (mul_form s (sub_form a.cosine t)) ≡ short_of (perifocal_x_form e a)
unfolding perifocal_x_form
major-is e a s t p q = ap₂ (λ (f g : Form). short_of (mul_form f (sub_form a.cosine g))) p q

pub minor-is : (e : Elements) (a : PairForm) (s : Form) → s ≡ fixed_of e.semi_minor_axis → short_of (mul_form s a.sine) ≡ short_of (perifocal_y_form e a)
unfolding perifocal_y_form
minor-is e a s p = ap (λ (f : Form). short_of (mul_form f a.sine)) p

-- ---- the place over the piece, after each of the two angles
abbrev pub after_anomaly : Elements → ℤ → ℕ → PairForm → Option VectorForm
after_anomaly e k h a = checked_node e.node e.drift e.turned k h >>= checked_orbit e a

pub over_none : (e : Elements) (k : ℤ) (h : ℕ) → None ≡ checked_anomaly e.mean_anomaly e.motion e.in_turns k h → None ≡ checked_place_over e k h
unfolding checked_place_over
over_none e k h q = none_step (checked_anomaly e.mean_anomaly e.motion e.in_turns k h) (after_anomaly e k h) q

pub over_anomaly : (e : Elements) (k : ℤ) (h : ℕ) (a : PairForm) → Some a ≡ checked_anomaly e.mean_anomaly e.motion e.in_turns k h → after_anomaly e k h a ≡ checked_place_over e k h
unfolding checked_place_over
over_anomaly e k h a q = some_step (checked_anomaly e.mean_anomaly e.motion e.in_turns k h) a (after_anomaly e k h) q

pub over_half : (e : Elements) (k : ℤ) (h : ℕ) (a : PairForm) → Some a ≡ checked_anomaly e.mean_anomaly e.motion e.in_turns k h → None ≡ checked_node e.node e.drift e.turned k h → None ≡ checked_place_over e k h
over_half e k h a q n = none_step (checked_node e.node e.drift e.turned k h) (checked_orbit e a) n ∙ over_anomaly e k h a q

pub over_some : (e : Elements) (k : ℤ) (h : ℕ) (a o : PairForm) → Some a ≡ checked_anomaly e.mean_anomaly e.motion e.in_turns k h → Some o ≡ checked_node e.node e.drift e.turned k h → checked_orbit e a o ≡ checked_place_over e k h
over_some e k h a o q r = some_step (checked_node e.node e.drift e.turned k h) o (checked_orbit e a) r ∙ over_anomaly e k h a q

-- ---- the same angles, of the elements that are kept
pub kept_anomaly-is : (rec : AlmRecord) (k : Kept) → IsKept rec k → (z : ℤ) (h : ℕ) → checked_anomaly (ends k.mean_anomaly) (ends k.motion) (ends k.in_turns) z h ≡ checked_anomaly (elements_of rec).mean_anomaly (elements_of rec).motion (elements_of rec).in_turns z h
kept_anomaly-is rec k i z h = ap (λ (e : Elements). checked_anomaly e.mean_anomaly e.motion e.in_turns z h) (kept-is rec k i)

pub kept_node-is : (rec : AlmRecord) (k : Kept) → IsKept rec k → (z : ℤ) (h : ℕ) → checked_node (ends k.node) (ends k.drift) (ends k.turned) z h ≡ checked_node (elements_of rec).node (elements_of rec).drift (elements_of rec).turned z h
kept_node-is rec k i z h = ap (λ (e : Elements). checked_node e.node e.drift e.turned z h) (kept-is rec k i)
