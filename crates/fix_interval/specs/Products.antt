-- Products and squares of intervals. A unit is 2^-38, and in a wide interval 2^-76.
use Rattle.std.specs.Prelude.{ℤ, pos, neg_ℤ, ◌^◌, ◌*ℤ◌, Bool, if◌then◌else◌, ◌&&◌, Option, Some, None}
use Rattle.std.specs.Int.{int_min, int_max}
use lib.Signed.{le_z, lt_z}
use Rattle.whole_numbers.specs.Corners.{least_corner, greatest_corner}
use Rattle.whole_numbers.specs.Rounding.{floor_of, ceil_of}
use Rattle.fix_interval.specs.Ends.{Ends}

-- the least and the greatest of the four products of ends, at the sum of the two scales
unfoldable pub mul_wide_of : Ends → Ends → Ends
mul_wide_of a b = record { lo = least_corner a.lo a.hi b.lo b.hi; hi = greatest_corner a.lo a.hi b.lo b.hi }

-- 38 binary places fewer, rounded outward
unfoldable pub narrow76_of : Ends → Ends
narrow76_of a = record { lo = floor_of a.lo (2 ^ 38); hi = ceil_of a.hi (2 ^ 38) }

-- the product at scale 38
unfoldable pub mul_of : Ends → Ends → Ends
mul_of a b = narrow76_of (mul_wide_of a b)

-- the square, at twice the scale: its least is 0 where a holds 0, and else the smaller square of an end
unfoldable pub sqr_wide_of : Ends → Ends
sqr_wide_of a = record {
  lo = if le_z a.lo (pos 0) && le_z (pos 0) a.hi then pos 0 else int_min (a.lo *ℤ a.lo) (a.hi *ℤ a.hi);
  hi = int_max (a.lo *ℤ a.lo) (a.hi *ℤ a.hi);
}

-- the square at scale 38
unfoldable pub sqr_of : Ends → Ends
sqr_of a = narrow76_of (sqr_wide_of a)

-- the least and the greatest of the four products of an end of a with first or last, at the scale of a
unfoldable pub scale_int_of : Ends → ℤ → ℤ → Ends
scale_int_of a first last = mul_wide_of a record { lo = first; hi = last }

-- whether z is an i128
abbrev pub is_i128 : ℤ → Bool
is_i128 z = le_z (neg_ℤ (pos (2 ^ 127))) z && lt_z z (pos (2 ^ 127))

-- the product as `mul_wide_of` has it, where each of the four products of ends is an i128
unfoldable pub checked_mul_of : Ends → Ends → Option Ends
checked_mul_of a b =
    if (is_i128 (a.lo *ℤ b.lo) && is_i128 (a.lo *ℤ b.hi)) && (is_i128 (a.hi *ℤ b.lo) && is_i128 (a.hi *ℤ b.hi))
    then Some (mul_wide_of a b) else None
