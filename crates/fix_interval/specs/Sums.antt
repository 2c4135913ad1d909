-- Sums and differences of intervals.
use Rattle.std.specs.Prelude.{pos, ◌+ℤ◌, ◌-ℤ◌}
use Rattle.fix_interval.specs.Ends.{Ends}
use Rattle.fix_interval.specs.Ranges.{point}

-- the sums, end by end
unfoldable pub add_of : Ends → Ends → Ends
add_of a b = record { lo = a.lo +ℤ b.lo; hi = a.hi +ℤ b.hi }

-- the differences, each end less the other end
unfoldable pub sub_of : Ends → Ends → Ends
sub_of a b = record { lo = a.lo -ℤ b.hi; hi = a.hi -ℤ b.lo }

-- the negatives
unfoldable pub neg_of : Ends → Ends
neg_of a = sub_of (point (pos 0)) a
