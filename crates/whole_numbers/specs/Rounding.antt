-- Quotients of a whole number by a positive one, rounded down and up.
use Rattle.std.specs.Prelude.{ℕ, ℤ, pos, neg_ℤ}
use Rattle.std.specs.Int.{int_div_euclid}

-- z / k, rounded down
abbrev pub floor_of : ℤ → ℕ → ℤ
floor_of z k = int_div_euclid z (pos k)

-- z / k, rounded up
abbrev pub ceil_of : ℤ → ℕ → ℤ
ceil_of z k = neg_ℤ (floor_of (neg_ℤ z) k)
