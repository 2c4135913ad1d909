-- The square root of an interval.
use Rattle.std.specs.Prelude.{pos, ◌+◌, ◌-◌}
use Rattle.whole_numbers.specs.Root.{root_of}
use Rattle.fix_interval.specs.Ends.{Ends}

-- from scale 76 to scale 38, one unit outward below and two above; `-` stops at 0
unfoldable pub sqrt_of : Ends → Ends
sqrt_of a = record { lo = pos (root_of a.lo - 1); hi = pos (root_of a.hi + 2) }
