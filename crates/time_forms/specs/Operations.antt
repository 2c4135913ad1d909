-- The forms of what is known, and sums and products of forms. A unit is 2^-38, and in a wide form 2^-76.
use Rattle.std.specs.Prelude.{ℕ, ℤ, pos, neg_ℤ, ◌^◌, ◌+ℤ◌, ◌-ℤ◌, ◌*ℤ◌}
use Rattle.whole_numbers.specs.Rounding.{floor_of}
use Rattle.fix_interval.specs.Ends.{Ends}
use Rattle.time_forms.specs.Forms.{Form, size}

-- ---- forms of what is known
-- fixed ends
unfoldable pub fixed_of : Ends → Form
fixed_of e = record { centre = floor_of (e.lo +ℤ e.hi) 2; turning = pos 0; remainder = e.hi -ℤ floor_of (e.lo +ℤ e.hi) 2 }

-- k + d times a choice of fixed ends, as k milliseconds from the middle to an epoch
unfoldable pub linear_of : Ends → ℤ → ℕ → Form
linear_of e k h = record {
  centre = floor_of (e.lo +ℤ e.hi) 2 *ℤ k;
  turning = floor_of (e.lo +ℤ e.hi) 2 *ℤ pos h;
  remainder = (e.hi -ℤ floor_of (e.lo +ℤ e.hi) 2) *ℤ (size k +ℤ pos h);
}

-- what is e at the middle, and grows by g a millisecond, each end by its own
unfoldable pub moving_of : Ends → Ends → ℕ → Form
moving_of e g h = record {
  centre = floor_of (e.lo +ℤ e.hi) 2;
  turning = g.lo *ℤ pos h;
  remainder = (e.hi -ℤ floor_of (e.lo +ℤ e.hi) 2) +ℤ size (g.hi -ℤ g.lo) *ℤ pos h;
}

-- k units more to both sides
unfoldable pub wider_of : Form → ℕ → Form
wider_of f k = record { centre = f.centre; turning = f.turning; remainder = f.remainder +ℤ pos k }

-- anything within m
unfoldable pub bounded_of : ℕ → Form
bounded_of m = record { centre = pos 0; turning = pos 0; remainder = pos m }

-- ---- sums
unfoldable pub add_form : Form → Form → Form
add_form f g = record { centre = f.centre +ℤ g.centre; turning = f.turning +ℤ g.turning; remainder = f.remainder +ℤ g.remainder }

unfoldable pub sub_form : Form → Form → Form
sub_form f g = record { centre = f.centre -ℤ g.centre; turning = f.turning -ℤ g.turning; remainder = f.remainder +ℤ g.remainder }

unfoldable pub neg_form : Form → Form
neg_form f = record { centre = neg_ℤ f.centre; turning = neg_ℤ f.turning; remainder = f.remainder }

-- what is left of a sum without one of its parts
unfoldable pub less_form : Form → Form → Form
less_form f g = record { centre = f.centre -ℤ g.centre; turning = f.turning -ℤ g.turning; remainder = f.remainder -ℤ g.remainder }

-- k times
unfoldable pub scale_form : Form → ℤ → Form
scale_form f k = record { centre = f.centre *ℤ k; turning = f.turning *ℤ k; remainder = f.remainder *ℤ size k }

-- ---- products
-- the product at the sum of the two scales
unfoldable pub wide_form : Form → Form → Form
wide_form f g = record {
  centre = f.centre *ℤ g.centre +ℤ floor_of (f.turning *ℤ g.turning) 2;
  turning = f.centre *ℤ g.turning +ℤ f.turning *ℤ g.centre;
  remainder = ((size f.centre +ℤ size f.turning) *ℤ g.remainder +ℤ ((size g.centre +ℤ size g.turning) +ℤ g.remainder) *ℤ f.remainder) +ℤ (floor_of (size (f.turning *ℤ g.turning)) 2 +ℤ pos 1);
}

-- a unit that is k times as large: the centre, the turning and the remainder rounded down, and four units more
unfoldable pub coarser_form : Form → ℕ → Form
coarser_form f k = record { centre = floor_of f.centre k; turning = floor_of f.turning k; remainder = floor_of f.remainder k +ℤ pos 4 }

-- 38 binary places fewer
unfoldable pub narrow_form : Form → Form
narrow_form f = coarser_form f (2 ^ 38)

-- the product at scale 38
unfoldable pub mul_form : Form → Form → Form
mul_form f g = narrow_form (wide_form f g)
