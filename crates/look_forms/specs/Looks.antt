-- How a satellite is seen, in time forms: surely above the mask, surely not, or not known; and the row of its direction.
use Rattle.std.specs.Prelude.{◌≡◌, ◌^◌, pos, Bool, if◌then◌else◌, ◌&&◌, ◌||◌}
use lib.Signed.{le_z, lt_z}
use Rattle.fix_interval.specs.Vectors.{VectorEnds}
use Rattle.site_laws.specs.Frames.{FrameEnds}
use Rattle.site_laws.specs.Sights.{DirectionEnds, SightEnds, visible, hidden, line_of, dot_of, range_of, direction_of}
use Rattle.time_forms.specs.Forms.{Form, least_of, greatest_of}
use Rattle.time_forms.specs.Operations.{add_form, sub_form, wide_form, narrow_form, mul_form}
use Rattle.time_forms.specs.RootForms.{sqrt_form}
use Rattle.time_forms.specs.QuotientForms.{div_form}
use Rattle.geometry_forms.specs.Rows.{RowForm}
use Rattle.orbit_forms.specs.Positions.{VectorForm}
use Rattle.look_forms.specs.Frames.{FrameForm, DirectionForm}

-- ---- the line of sight
unfoldable pub line_form : VectorForm → VectorForm → VectorForm
line_form position sat = record { x = sub_form sat.x position.x; y = sub_form sat.y position.y; z = sub_form sat.z position.z }

-- the sum of the three products
unfoldable pub dot_form : VectorForm → VectorForm → Form
dot_form v d = narrow_form (add_form (add_form (wide_form v.x d.x) (wide_form v.y d.y)) (wide_form v.z d.z))

-- the squared length, at scale 76, and the length
unfoldable pub squares_form : VectorForm → Form
squares_form d = add_form (add_form (wide_form d.x d.x) (wide_form d.y d.y)) (wide_form d.z d.z)

unfoldable pub range_form : VectorForm → Form
range_form d = sqrt_form (squares_form d)

-- ---- the decision
pub data LookTold : Type 0 where
  told_visible : LookTold
  told_hidden : LookTold
  not_told : LookTold

-- what is told is so of the written look, whose direction is a
abbrev pub TellsLook : LookTold → (a : DirectionEnds) → SightEnds → Type 0
TellsLook told_visible a sight = sight ≡ visible a
TellsLook told_hidden a sight = sight ≡ hidden
TellsLook not_told a sight = Unit {0}

-- by the range, and by what is over the up direction beyond the least that is not masked
abbrev pub sight_told : (range beyond : Form) → LookTold
sight_told range beyond =
    if lt_z (greatest_of range) (pos (2 ^ 38)) || lt_z (greatest_of beyond) (pos 0) then told_hidden
    else (if le_z (pos (2 ^ 38)) (least_of range) && le_z (pos 0) (least_of beyond) then told_visible else not_told)

-- of a line whose squared length is surely a unit at least, since else there is no root of forms
unfoldable pub line_told : FrameForm → (d : VectorForm) → (mask : Form) → LookTold
line_told frame d mask =
    if le_z (pos 1) (least_of (squares_form d)) then sight_told (range_form d) (sub_form (dot_form frame.up d) (mul_form mask (range_form d)))
    else not_told

unfoldable pub look_told : FrameForm → (sat : VectorForm) → (mask : Form) → LookTold
look_told frame sat mask = line_told frame (line_form frame.position sat) mask

-- ---- the direction
-- along the line from the receiver to a satellite
abbrev pub direction_to : FrameEnds → VectorEnds → DirectionEnds
direction_to frame sat = direction_of frame (line_of frame.position sat) (range_of (line_of frame.position sat)) (dot_of frame.up (line_of frame.position sat))

-- whether the line is surely a unit long at least, so that there is a range of forms, and that range 1 Mm at least
abbrev pub has_direction : VectorForm → Bool
has_direction d = le_z (pos 1) (least_of (squares_form d)) && le_z (pos (2 ^ 38)) (least_of (range_form d))

unfoldable pub direction_form : FrameForm → (d : VectorForm) → DirectionForm
direction_form frame d = record {
  east = div_form (dot_form frame.east d) (range_form d);
  north = div_form (dot_form frame.north d) (range_form d);
  up = div_form (dot_form frame.up d) (range_form d);
}

-- the row of a direction, times its weight
unfoldable pub weighed_form : DirectionForm → Form → RowForm
weighed_form a k = record { e = mul_form k a.east; n = mul_form k a.north; u = mul_form k a.up; k = k }
