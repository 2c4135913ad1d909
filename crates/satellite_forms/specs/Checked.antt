-- The form of a satellite's place over a piece of time, where each number on the way fits 64 bits, and otherwise none.
use Rattle.std.specs.Prelude.{ℕ, ℤ, ◌-ℤ◌, Option, Some}
use Rattle.raim_model.specs.declared.almanac.AlmRecord.{AlmRecord}
use Rattle.fix_interval.specs.Ends.{Ends}
use Rattle.trig_laws.specs.SinCos.{sin_cos_of}
use Rattle.orbit_laws.specs.Elements.{Elements, elements_of}
use Rattle.time_forms.specs.Forms.{Form}
use Rattle.time_forms.specs.Operations.{fixed_of, linear_of, add_form, sub_form, narrow_form, mul_form}
use Rattle.time_forms.specs.Programs.{short_of}
use Rattle.orbit_forms.specs.Positions.{PairForm, VectorForm, fixed_pair, perifocal_x_form, perifocal_y_form}
use Rattle.angle_forms.specs.Checked.{◌>>=◌, checked_sin_cos, checked_ecc_sin_cos}

-- an angle that is at s, and moves by r for k milliseconds up to the middle of the piece; and one that has turned back by t before
unfoldable pub checked_moved : (s r : Ends) → ℤ → ℕ → Option Form
checked_moved s r k h = do
  n ← short_of (narrow_form (linear_of r k h))
  Some (add_form (fixed_of s) n)

unfoldable pub checked_moved_back : (s r t : Ends) → ℤ → ℕ → Option Form
checked_moved_back s r t k h = do
  n ← short_of (narrow_form (sub_form (linear_of r k h) (fixed_of t)))
  Some (add_form (fixed_of s) n)

-- the sine and the cosine of the eccentric anomaly, of a mean anomaly that is at s and moves by r, and of the node's longitude
unfoldable pub checked_anomaly : (s r eps : Ends) → ℤ → ℕ → Option PairForm
checked_anomaly s r eps k h = do
  m ← checked_moved s r k h
  checked_ecc_sin_cos m eps

unfoldable pub checked_node : (s r t : Ends) → ℤ → ℕ → Option PairForm
checked_node s r t k h = do
  n ← checked_moved_back s r t k h
  checked_sin_cos n

-- (x, y), turned by w
unfoldable pub checked_in_plane_x : Form → Form → PairForm → Option Form
checked_in_plane_x x y w = do
  a ← short_of (mul_form x w.cosine)
  b ← short_of (mul_form y w.sine)
  Some (sub_form a b)

unfoldable pub checked_in_plane_y : Form → Form → PairForm → Option Form
checked_in_plane_y x y w = do
  a ← short_of (mul_form x w.sine)
  b ← short_of (mul_form y w.cosine)
  Some (add_form a b)

-- the place of (x, y), which is turned by the inclination i and then by the node o
unfoldable pub checked_place : Form → Form → (o i : PairForm) → Option VectorForm
checked_place x y o i = do
  a ← short_of (mul_form y i.cosine)
  u ← checked_in_plane_x x a o
  v ← checked_in_plane_y x a o
  w ← short_of (mul_form y i.sine)
  Some (record { x = u; y = v; z = w })

-- for the sines and cosines of the eccentric anomaly a and of the node o
unfoldable pub checked_orbit : Elements → (a o : PairForm) → Option VectorForm
checked_orbit e a o = do
  x ← short_of (perifocal_x_form e a)
  y ← short_of (perifocal_y_form e a)
  u ← checked_in_plane_x x y (fixed_pair (sin_cos_of e.perigee))
  v ← checked_in_plane_y x y (fixed_pair (sin_cos_of e.perigee))
  checked_place u v o (fixed_pair (sin_cos_of e.inclination))

-- k milliseconds from the time of applicability to the middle of the piece
unfoldable pub checked_place_over : Elements → ℤ → ℕ → Option VectorForm
checked_place_over e k h = do
  a ← checked_anomaly e.mean_anomaly e.motion e.in_turns k h
  o ← checked_node e.node e.drift e.turned k h
  checked_orbit e a o

-- the satellite's place over the piece from mid - h to mid + h
unfoldable pub checked_position : AlmRecord → ℤ → ℕ → Option VectorForm
checked_position rec mid h = checked_place_over (elements_of rec) (mid -ℤ rec.toa_ms) h
