-- The square root of a form at scale 76 whose least is above 0, as a form at scale 38.
use Rattle.std.specs.Prelude.{ℕ, ℤ, pos, ◌+◌, ◌*◌, ◌^◌, ◌+ℤ◌, ◌*ℤ◌, Bool, ◌&&◌, if◌then◌else◌, Option, None}
use lib.Signed.{le_z}
use Rattle.whole_numbers.specs.Rounding.{floor_of}
use Rattle.whole_numbers.specs.Root.{root_of}
use Rattle.time_forms.specs.Forms.{Form, size, least_of}
use Rattle.time_forms.specs.Programs.{is_below, short_of}

-- the root of the centre and that of the least together: what a difference of numbers is over, at most, to be one of roots
abbrev pub root_pair : Form → ℕ
root_pair f = root_of f.centre + root_of (least_of f)

-- by how much the roots differ, at most, by the remainder alone, and by the remainder and what turns
abbrev pub root_gap : Form → ℤ
root_gap f = floor_of f.remainder (root_pair f) +ℤ pos 1

abbrev pub root_reach : Form → ℤ
root_reach f = floor_of (size f.turning +ℤ f.remainder) (root_pair f) +ℤ pos 1

-- how far the root is from a line
abbrev pub root_bend : Form → ℤ
root_bend f = floor_of (root_reach f *ℤ root_reach f) (2 * root_of f.centre) +ℤ pos 1

unfoldable pub sqrt_form : Form → Form
sqrt_form f = record {
  centre = pos (root_of f.centre);
  turning = floor_of f.turning (2 * root_of f.centre);
  remainder = (root_gap f +ℤ root_bend f) +ℤ pos 6;
}

-- whether the root is taken: the form is surely above 0, and what the root is bent by fits 128 bits
abbrev pub has_root : Form → Bool
has_root f = (le_z (pos 1) (least_of f) && le_z (pos 1) f.centre) && is_below (root_reach f) (2 ^ 62)

-- the root where it is taken and fits 64 bits, and otherwise none
unfoldable pub checked_sqrt_form : Form → Option Form
checked_sqrt_form f = if has_root f then short_of (sqrt_form f) else None
