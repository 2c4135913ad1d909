-- Quotients of intervals, rounded outward.
use Rattle.std.specs.Prelude.{ℕ, ℤ, pos, ◌^◌, ◌*ℤ◌, unsigned_abs}
use Rattle.std.specs.Int.{int_min, int_max}
use Rattle.whole_numbers.specs.Rounding.{floor_of, ceil_of}
use Rattle.fix_interval.specs.Ends.{Ends}

-- a / k
unfoldable pub div_int_of : Ends → ℕ → Ends
div_int_of a k = record { lo = floor_of a.lo k; hi = ceil_of a.hi k }

-- num / den, rounded outward to units of 2^-s
unfoldable pub outward_of : ℤ → ℕ → ℕ → Ends
outward_of num den s = record { lo = floor_of (num *ℤ pos (2 ^ s)) den; hi = ceil_of (num *ℤ pos (2 ^ s)) den }

-- num / den at scale 38
unfoldable pub from_ratio_of : ℤ → ℕ → Ends
from_ratio_of num den = outward_of num den 38

-- a / b, where b is above 0: the lower end of a over each end of b, and the upper end over each
unfoldable pub div_of : Ends → Ends → Ends
div_of a b = record {
  lo = int_min (floor_of (a.lo *ℤ pos (2 ^ 38)) (unsigned_abs b.lo)) (floor_of (a.lo *ℤ pos (2 ^ 38)) (unsigned_abs b.hi));
  hi = int_max (ceil_of (a.hi *ℤ pos (2 ^ 38)) (unsigned_abs b.lo)) (ceil_of (a.hi *ℤ pos (2 ^ 38)) (unsigned_abs b.hi));
}

-- a times p / q, rounded outward
unfoldable pub scale_of : Ends → ℕ → ℕ → Ends
scale_of a p q = record { lo = floor_of (a.lo *ℤ pos p) q; hi = ceil_of (a.hi *ℤ pos p) q }
