-- Forms of the receiver's position and of its directions to the east, to the north and up.
use Rattle.std.specs.Prelude.{ℕ, pos, Option, Some}
use Rattle.fix_interval.specs.Ranges.{point, one_ends}
use Rattle.fix_interval.specs.Sums.{sub_of}
use Rattle.site_laws.specs.Frames.{one_wide, eccentricity_ends, axis_ends}
use Rattle.time_forms.specs.Forms.{Form}
use Rattle.time_forms.specs.Operations.{fixed_of, add_form, sub_form, neg_form, wide_form, mul_form}
use Rattle.time_forms.specs.RootForms.{checked_sqrt_form}
use Rattle.time_forms.specs.QuotientForms.{checked_div_form}
use Rattle.time_forms.specs.Programs.{short_of}
use Rattle.orbit_forms.specs.Positions.{PairForm, VectorForm}
use Rattle.angle_forms.specs.Checked.{◌>>=◌, checked_sin_cos}
use Rattle.angle_forms.specs.Vectors.{vector_form, IsVectorWithin}
use Rattle.site_forms.specs.Places.{PlaceForm}
use Rattle.look_forms.specs.Frames.{FrameForm}
use Rattle.site_forms.specs.declared.time_frame.TimeFrame.{TimeFrame}

-- how contracts see those of the program
abbrev pub frame_form : TimeFrame → FrameForm
frame_form f = record { position = vector_form f.position; east = vector_form f.east; north = vector_form f.north; up = vector_form f.up }

-- the numbers of each have a magnitude of at most m
pub record IsFrameWithin (f : FrameForm) (m : ℕ) : Type 0 where
  pub position : IsVectorWithin f.position m
  pub east : IsVectorWithin f.east m
  pub north : IsVectorWithin f.north m
  pub up : IsVectorWithin f.up m

-- ---- the ellipsoid, where each number on the way fits 64 bits, and otherwise none
-- sqrt(1 - e^2 sin^2 phi), for the sine of the latitude
unfoldable pub checked_bulge : Form → Option Form
checked_bulge s = do
  q ← short_of (mul_form s s)
  checked_sqrt_form (sub_form (fixed_of one_wide) (wide_form (fixed_of eccentricity_ends) q))

-- the radius of curvature across the meridian, in Mm
unfoldable pub checked_radius : Form → Option Form
checked_radius s = do
  b ← checked_bulge s
  checked_div_form (fixed_of axis_ends) b

-- ---- the position, for the radius of curvature r
-- from the Earth's axis
abbrev pub axis_distance_form : Form → Form → PairForm → Form
axis_distance_form r height lat = mul_form (add_form r height) lat.cosine

-- the radius of curvature in the plane of the equator, without the height
abbrev pub lesser_form : Form → Form
lesser_form r = mul_form r (fixed_of (sub_of one_ends eccentricity_ends))

-- from the plane of the equator
abbrev pub equator_distance_form : Form → Form → PairForm → Form
equator_distance_form l height lat = mul_form (add_form l height) lat.sine

unfoldable pub checked_position : Form → PairForm → PairForm → Option VectorForm
checked_position height lat lon = do
  r ← checked_radius lat.sine
  t ← short_of (axis_distance_form r height lat)
  x ← short_of (mul_form t lon.cosine)
  y ← short_of (mul_form t lon.sine)
  l ← short_of (lesser_form r)
  z ← short_of (equator_distance_form l height lat)
  Some (record { x = x; y = y; z = z })

-- ---- the directions
abbrev pub east_form : PairForm → VectorForm
east_form lon = record { x = neg_form lon.sine; y = lon.cosine; z = fixed_of (point (pos 0)) }

unfoldable pub checked_north : PairForm → PairForm → Option VectorForm
checked_north lat lon = do
  a ← short_of (mul_form lat.sine lon.cosine)
  b ← short_of (mul_form lat.sine lon.sine)
  Some (record { x = neg_form a; y = neg_form b; z = lat.cosine })

unfoldable pub checked_up : PairForm → PairForm → Option VectorForm
checked_up lat lon = do
  a ← short_of (mul_form lat.cosine lon.cosine)
  b ← short_of (mul_form lat.cosine lon.sine)
  Some (record { x = a; y = b; z = lat.sine })

-- ---- the frame
unfoldable pub checked_frame_at : Form → PairForm → PairForm → Option FrameForm
checked_frame_at height lat lon = do
  p ← checked_position height lat lon
  n ← checked_north lat lon
  u ← checked_up lat lon
  Some (record { position = p; east = east_form lon; north = n; up = u })

unfoldable pub checked_frame : PlaceForm → Option FrameForm
checked_frame place = do
  lat ← checked_sin_cos place.lat
  lon ← checked_sin_cos place.lon
  checked_frame_at place.height lat lon
