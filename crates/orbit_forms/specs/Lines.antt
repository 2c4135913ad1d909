-- The form of a quantity that a line follows, as sines and cosines do: a unit is 2^-38.
use Rattle.std.specs.Prelude.{ℤ, pos, ◌^◌, ◌+ℤ◌, ◌*ℤ◌}
use Rattle.whole_numbers.specs.Rounding.{floor_of}
use Rattle.fix_interval.specs.Ranges.{point}
use Rattle.time_forms.specs.Forms.{Form, size}
use Rattle.time_forms.specs.Operations.{fixed_of, neg_form}
use Rattle.trig_laws.specs.SinCos.{sin_cos_of}

-- the radians of a turn, in units
abbrev pub turn_units : ℤ
turn_units = pos 1727108826179

-- v turns in radians, rounded down
abbrev pub radians_of : ℤ → ℤ
radians_of v = floor_of (turn_units *ℤ v) (2 ^ 38)

-- 20 m^2, rounded down, and two units
abbrev pub bend_of : ℤ → ℤ
bend_of m = floor_of ((pos 20 *ℤ m) *ℤ m) (2 ^ 38) +ℤ pos 2

-- x and y are the value at the centre of the turns u, and how it changes with the radians there, each a middle and a remainder; the answer
-- is that of the line there, which is left by its bend, by what u's own remainder makes of it, and by k units
unfoldable pub line_form : (x y u : Form) → (k : ℤ) → Form
line_form x y u k = record {
  centre = x.centre;
  turning = floor_of (y.centre *ℤ radians_of u.turning) (2 ^ 38);
  remainder = ((((x.remainder +ℤ floor_of (y.remainder *ℤ size (radians_of u.turning)) (2 ^ 38)) +ℤ pos 7 *ℤ u.remainder) +ℤ bend_of (size u.turning +ℤ u.remainder)) +ℤ k) +ℤ pos 3;
}

-- how wide the interval answer is at one millisecond, where the turns are at most twice the remainder wide
abbrev pub sine_slack : Form → ℤ
sine_slack u = pos 32 *ℤ u.remainder +ℤ pos 256

-- the sine and the cosine of the turns u, about those of its centre
unfoldable pub sine_form : Form → Form
sine_form u = line_form (fixed_of (sin_cos_of (point u.centre)).sine) (fixed_of (sin_cos_of (point u.centre)).cosine) u (sine_slack u)

unfoldable pub cosine_form : Form → Form
cosine_form u = line_form (fixed_of (sin_cos_of (point u.centre)).cosine) (neg_form (fixed_of (sin_cos_of (point u.centre)).sine)) u (sine_slack u)
