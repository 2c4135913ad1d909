-- The quotient of two forms of one scale, at scale 38, by one whose least is above 0.
use Rattle.std.specs.Prelude.{ℕ, ℤ, pos, ◌*◌, ◌^◌, ◌+ℤ◌, ◌-ℤ◌, ◌*ℤ◌, unsigned_abs, Bool, ◌&&◌, if◌then◌else◌, Option, None}
use lib.Signed.{le_z}
use Rattle.whole_numbers.specs.Rounding.{floor_of}
use Rattle.time_forms.specs.Forms.{Form, size, least_of}
use Rattle.time_forms.specs.Programs.{is_below, short_of}

-- units in one
abbrev pub one : ℕ
one = 2 ^ 38

-- the quotient of the centres
abbrev pub quotient_centre : Form → Form → ℤ
quotient_centre f g = floor_of (f.centre *ℤ pos one) (unsigned_abs g.centre)

-- what turns of the dividend less that of the divisor times the quotient of the centres
abbrev pub quotient_turn : Form → Form → ℤ
quotient_turn f g = floor_of (f.turning *ℤ pos one -ℤ quotient_centre f g *ℤ g.turning) one

-- and how far the dividend is from this
abbrev pub quotient_offset : Form → Form → ℤ
quotient_offset f g = (f.remainder +ℤ floor_of (size (quotient_centre f g) *ℤ g.remainder) one) +ℤ pos 2

-- that over the divisor
abbrev pub quotient_gap : Form → Form → ℤ
quotient_gap f g = floor_of (pos one *ℤ quotient_offset f g) (unsigned_abs (least_of g)) +ℤ pos 1

-- what the divisor's own turning does to what turns
abbrev pub quotient_bend : Form → Form → ℤ
quotient_bend f g = floor_of (pos one *ℤ (size (quotient_turn f g) *ℤ (size g.turning +ℤ g.remainder))) (unsigned_abs g.centre * unsigned_abs (least_of g)) +ℤ pos 1

-- how many times its least the divisor's centre is, at most: 2 where the divisor changes by less than half
abbrev pub quotient_times : Form → ℤ
quotient_times g = floor_of g.centre (unsigned_abs (least_of g)) +ℤ pos 1

unfoldable pub div_form : Form → Form → Form
div_form f g = record {
  centre = quotient_centre f g;
  turning = floor_of (quotient_turn f g *ℤ pos one) (unsigned_abs g.centre);
  remainder = ((quotient_gap f g +ℤ quotient_bend f g) +ℤ quotient_times g) +ℤ pos 2;
}

-- what the divisor's changes do to what turns, at most
abbrev pub quotient_sway : Form → Form → ℤ
quotient_sway f g = size (quotient_turn f g) *ℤ (size g.turning +ℤ g.remainder)

-- whether the quotient is taken: the divisor is surely above 0, and each step fits 128 bits
abbrev pub has_quotient : Form → Form → Bool
has_quotient f g =
    (le_z (pos 1) (least_of g) && le_z (pos 1) g.centre)
    && (is_below (quotient_centre f g) (2 ^ 58) && (is_below (quotient_turn f g) (2 ^ 58) && is_below (quotient_sway f g) (2 ^ 86)))

-- the quotient where it is taken and fits 64 bits, and otherwise none
unfoldable pub checked_div_form : Form → Form → Option Form
checked_div_form f g = if has_quotient f g then short_of (div_form f g) else None
