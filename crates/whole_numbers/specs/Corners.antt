-- The four products of an end of one interval with an end of another.
use Rattle.std.specs.Prelude.{ℤ, ◌*ℤ◌}
use Rattle.std.specs.Int.{int_min, int_max}

-- the least product of an end of [a, b] and an end of [c, d]
abbrev pub least_corner : ℤ → ℤ → ℤ → ℤ → ℤ
least_corner a b c d = int_min (int_min (a *ℤ c) (a *ℤ d)) (int_min (b *ℤ c) (b *ℤ d))

-- the greatest product of an end of [a, b] and an end of [c, d]
abbrev pub greatest_corner : ℤ → ℤ → ℤ → ℤ → ℤ
greatest_corner a b c d = int_max (int_max (a *ℤ c) (a *ℤ d)) (int_max (b *ℤ c) (b *ℤ d))
