-- The square root of a whole number, rounded down.
use Rattle.std.specs.Prelude.{ℕ, zero, suc, nat_le, ◌*◌, ℤ, pos, negsuc, if◌then◌else◌}

-- the greatest r from 0 to k whose square is at most n
abbrev pub root_below : ℕ → ℕ → ℕ
root_below zero n = 0
root_below (suc k) n = if nat_le (suc k * suc k) n then suc k else root_below k n

-- the root of z, rounded down, and 0 below 0
unfoldable pub root_of : ℤ → ℕ
root_of (pos n) = root_below n n
root_of (negsuc n) = 0
