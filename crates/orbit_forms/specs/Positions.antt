-- The form of a satellite's place over a piece of time, of the elements e of its orbit: k milliseconds are from the time of
-- applicability to the middle of the piece, whose half length is h.
use Rattle.std.specs.Prelude.{ℕ, ℤ, pos, ◌^◌, ◌-ℤ◌, ◌≤ℤ◌}
use Rattle.raim_model.specs.declared.almanac.AlmRecord.{AlmRecord}
use Rattle.fix_interval.specs.Pairs.{PairEnds}
use Rattle.fix_interval.specs.Vectors.{VectorEnds}
use Rattle.time_forms.specs.Forms.{Form, Holds, size}
use Rattle.time_forms.specs.Operations.{fixed_of, linear_of, add_form, sub_form, narrow_form, mul_form}
use Rattle.trig_laws.specs.SinCos.{sin_cos_of}
use Rattle.orbit_laws.specs.Elements.{Elements, elements_of}
use Rattle.orbit_forms.specs.Lines.{sine_form, cosine_form}
use Rattle.orbit_forms.specs.Anomalies.{anomaly_form, ecc_sine_form, ecc_cosine_form}

-- the forms of a sine and of a cosine
pub record PairForm : Type 0 where
  pub sine : Form
  pub cosine : Form

-- the forms of three components
pub record VectorForm : Type 0 where
  pub x : Form
  pub y : Form
  pub z : Form

-- both parts of p lie in the forms
pub record PairHolds (h : ℕ) (d : ℤ) (f : PairForm) (p : PairEnds) : Type 0 where
  pub sine : Holds h d f.sine p.sine
  pub cosine : Holds h d f.cosine p.cosine

-- each component of p lies in its form
pub record VectorHolds (h : ℕ) (d : ℤ) (f : VectorForm) (p : VectorEnds) : Type 0 where
  pub x : Holds h d f.x p.x
  pub y : Holds h d f.y p.y
  pub z : Holds h d f.z p.z

-- a sine and a cosine that stay, and those of turns that change
abbrev pub fixed_pair : PairEnds → PairForm
fixed_pair p = record { sine = fixed_of p.sine; cosine = fixed_of p.cosine }

abbrev pub turned_pair : Form → PairForm
turned_pair u = record { sine = sine_form u; cosine = cosine_form u }

-- the mean anomaly and the node
unfoldable pub mean_anomaly_form : Elements → ℤ → ℕ → Form
mean_anomaly_form e k h = add_form (fixed_of e.mean_anomaly) (narrow_form (linear_of e.motion k h))

unfoldable pub node_form : Elements → ℤ → ℕ → Form
node_form e k h = add_form (fixed_of e.node) (narrow_form (sub_form (linear_of e.drift k h) (fixed_of e.turned)))

-- the sine and the cosine of the eccentric anomaly
abbrev pub anomaly_pair : Elements → ℤ → ℕ → PairForm
anomaly_pair e k h = record { sine = ecc_sine_form (mean_anomaly_form e k h) e.in_turns; cosine = ecc_cosine_form (mean_anomaly_form e k h) e.in_turns }

-- in the orbit's plane, x to the perigee
unfoldable pub perifocal_x_form : Elements → PairForm → Form
perifocal_x_form e p = mul_form (fixed_of e.semi_major_axis) (sub_form p.cosine (fixed_of e.eccentricity))

unfoldable pub perifocal_y_form : Elements → PairForm → Form
perifocal_y_form e p = mul_form (fixed_of e.semi_minor_axis) p.sine

-- the same, x to the ascending node
unfoldable pub in_plane_x_form : Form → Form → PairForm → Form
in_plane_x_form x y w = sub_form (mul_form x w.cosine) (mul_form y w.sine)

unfoldable pub in_plane_y_form : Form → Form → PairForm → Form
in_plane_y_form x y w = add_form (mul_form x w.sine) (mul_form y w.cosine)

-- the place of (x, y), which is turned by the inclination i and then by the node o
unfoldable pub place_form : Form → Form → (o i : PairForm) → VectorForm
place_form x y o i = record {
  x = sub_form (mul_form x o.cosine) (mul_form (mul_form y i.cosine) o.sine);
  y = add_form (mul_form x o.sine) (mul_form (mul_form y i.cosine) o.cosine);
  z = mul_form y i.sine;
}

unfoldable pub orbit_form : Elements → (a w o i : PairForm) → VectorForm
orbit_form e a w o i = place_form (in_plane_x_form (perifocal_x_form e a) (perifocal_y_form e a) w) (in_plane_y_form (perifocal_x_form e a) (perifocal_y_form e a) w) o i

unfoldable pub place_over_form : Elements → ℤ → ℕ → VectorForm
place_over_form e k h = orbit_form e (anomaly_pair e k h) (fixed_pair (sin_cos_of e.perigee)) (turned_pair (node_form e k h)) (fixed_pair (sin_cos_of e.inclination))

-- the satellite's place over the piece from mid - h to mid + h
unfoldable pub position_form : AlmRecord → ℤ → ℕ → VectorForm
position_form rec mid h = place_over_form (elements_of rec) (mid -ℤ rec.toa_ms) h

-- the eccentric anomaly and the node change by at most half a turn either way
pub record IsShort (e : Elements) (k : ℤ) (h : ℕ) : Type 0 where
  pub anomaly : size (anomaly_form (mean_anomaly_form e k h) e.in_turns).turning ≤ℤ pos (2 ^ 37)
  pub node : size (node_form e k h).turning ≤ℤ pos (2 ^ 37)
