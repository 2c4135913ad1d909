-- A look in the steps of the program.
use Rattle.std.specs.Prelude.{◌^◌, pos, Bool, ◌&&◌, ◌||◌}
use lib.Signed.{le_z, lt_z}
use Rattle.time_forms.specs.Forms.{Form, least_of, greatest_of}
use Rattle.time_forms.specs.Operations.{add_form, wide_form}
use Rattle.time_forms.specs.Programs.{is_below}
use Rattle.orbit_forms.specs.Positions.{VectorForm}
use Rattle.look_forms.specs.Frames.{FrameForm}
use Rattle.look_forms.specs.Looks.{line_told, has_direction, direction_form, weighed_form}
use Rattle.verdict_forms.specs.Sights.{SightTold, with_direction}

-- the sum of the three products, at scale 76
unfoldable pub products_form : VectorForm → VectorForm → Form
products_form v d = add_form (add_form (wide_form v.x d.x) (wide_form v.y d.y)) (wide_form v.z d.z)

-- whether the program takes a root of it
abbrev pub is_within_root : Form → Bool
is_within_root f = is_below f.centre (2 ^ 122) && (is_below f.turning (2 ^ 122) && is_below f.remainder (2 ^ 122))

-- by the range, and by what is beyond the mask
abbrev pub is_hidden : (range beyond : Form) → Bool
is_hidden range beyond = lt_z (greatest_of range) (pos (2 ^ 38)) || lt_z (greatest_of beyond) (pos 0)

abbrev pub is_visible : (range beyond : Form) → Bool
is_visible range beyond = le_z (pos (2 ^ 38)) (least_of range) && le_z (pos 0) (least_of beyond)

-- what is told along a line
abbrev pub sight_along : FrameForm → (d : VectorForm) → (mask k : Form) → SightTold
sight_along frame d mask k = with_direction (line_told frame d mask) (has_direction d) (weighed_form (direction_form frame d) k)
