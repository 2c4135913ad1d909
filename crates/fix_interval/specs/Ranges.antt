-- Intervals that are written down: one number of units, and ranges by which others are bounded.
use Rattle.std.specs.Prelude.{ℕ, ℤ, pos, neg_ℤ, ◌^◌}
use Rattle.fix_interval.specs.Ends.{Ends}

-- both ends one number
abbrev pub point : ℤ → Ends
point k = record { lo = k; hi = k }

-- 0
abbrev pub zero_ends : Ends
zero_ends = point (pos 0)

-- 1
abbrev pub one_ends : Ends
one_ends = point (pos (2 ^ 38))

-- from m to n
abbrev pub from_to : ℕ → ℕ → Ends
from_to m n = record { lo = pos m; hi = pos n }

-- from -n to n
abbrev pub around : ℕ → Ends
around n = record { lo = neg_ℤ (pos n); hi = pos n }

-- from 0 to 1
abbrev pub unit_ends : Ends
unit_ends = from_to 0 (2 ^ 38)

-- from -1 to 1
abbrev pub full_ends : Ends
full_ends = around (2 ^ 38)
