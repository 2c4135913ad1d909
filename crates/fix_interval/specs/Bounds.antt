-- The least interval around two intervals, the part of an interval within a bound, and what lies a unit further out.
use Rattle.std.specs.Prelude.{ℤ, pos, neg_ℤ, ◌+ℤ◌, ◌-ℤ◌}
use Rattle.std.specs.Int.{int_min, int_max}
use Rattle.fix_interval.specs.Ends.{Ends}

-- from the smaller lo to the greater hi
unfoldable pub hull_of : Ends → Ends → Ends
hull_of a b = record { lo = int_min a.lo b.lo; hi = int_max a.hi b.hi }

-- the part from -m to m
unfoldable pub clamp_of : Ends → ℤ → Ends
clamp_of a m = record { lo = int_max a.lo (neg_ℤ m); hi = int_min a.hi m }

-- a unit outward at both ends
unfoldable pub widen_of : Ends → Ends
widen_of a = record { lo = a.lo -ℤ pos 1; hi = a.hi +ℤ pos 1 }
