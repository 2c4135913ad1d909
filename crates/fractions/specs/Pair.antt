-- A fraction as it is written: a whole number over a positive one. Many pairs are one fraction.
use Rattle.std.specs.Prelude.{◌≡◌, ℕ, zero, suc, ℤ, pos, ◌+◌, ◌-◌, ◌*◌, ◌<◌, ◌≤◌, ◌-ℤ◌, Bool}
use Rattle.std.proofs.Common.{arith}
use Rattle.std.proofs.Math.Nat.{mul-pos}
use borrow.Author.Differences.{up, down}
use lib.Dec.{leb}
use Rattle.whole_numbers.specs.Rounding.{floor_of}

-- (up - down) / den: a whole number over a positive one, the whole number as a difference of naturals
pub record Pair : Type 0 where
  pub up : ℕ
  pub down : ℕ
  pub den : ℕ
  pub positive : 0 < den

-- equality by cross-multiplication
abbrev pub Same : Pair → Pair → Type 0
Same x y = x.up * y.den + y.down * x.den ≡ y.up * x.den + x.down * y.den

-- order by cross-multiplication
abbrev pub Below : Pair → Pair → Type 0
Below x y = x.up * y.den + y.down * x.den ≤ y.up * x.den + x.down * y.den

-- the sum, over the product of the denominators
abbrev pub pair_add : Pair → Pair → Pair
pair_add x y = record { up = x.up * y.den + y.up * x.den; down = x.down * y.den + y.down * x.den; den = x.den * y.den; positive = mul-pos x.positive y.positive }

-- the product
abbrev pub pair_mul : Pair → Pair → Pair
pair_mul x y = record { up = x.up * y.up + x.down * y.down; down = x.up * y.down + x.down * y.up; den = x.den * y.den; positive = mul-pos x.positive y.positive }

-- the negation
abbrev pub pair_neg : Pair → Pair
pair_neg x = record { up = x.down; down = x.up; den = x.den; positive = x.positive }

-- whether a pair is at most another
unfoldable pub pair_is_at_most : Pair → Pair → Bool
pair_is_at_most x y = leb (x.up * y.den + y.down * x.den) (y.up * x.den + x.down * y.den)

-- m / k as a pair, and m / 1 at k = 0
unfoldable pub pair_ratio : ℤ → ℕ → Pair
pair_ratio m k = record { up = up m; down = down m; den = k + (1 - k); positive = some k }
  where
    some : (k : ℕ) → 0 < k + (1 - k)
    some k = omega arith

-- the floor of a pair
unfoldable pub pair_floor : Pair → ℤ
pair_floor x = floor_of (pos x.up -ℤ pos x.down) x.den

-- the denominator of an inverse is positive
pub inverse_den_positive : (g : ℕ) → 0 < g * g + (1 - g)
inverse_den_positive zero = omega arith
inverse_den_positive (suc g) = omega arith

-- n / (p - m), where p or m is 0, and 0 where both are
abbrev pub pair_over : ℕ → ℕ → ℕ → Pair
pair_over n p m = record { up = n * p; down = n * m; den = (p + m) * (p + m) + (1 - (p + m)); positive = inverse_den_positive (p + m) }

-- the inverse of a pair
unfoldable pub pair_inverse : Pair → Pair
pair_inverse x = pair_over x.den (x.up - x.down) (x.down - x.up)
