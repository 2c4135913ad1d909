-- Magnitudes of intervals inside ends.
use Rattle.std.specs.Prelude.{ℕ, pos, neg_ℤ, ◌*◌, ◌≤◌, ◌≤ℤ◌}
use Rattle.std.proofs.Common.{arith}
use Rattle.std.proofs.lemmas.Int.{ints}
use Rattle.std.proofs.Math.Nat.{mul-le-mul, mul-le-mul_left}
use Rattle.fix_interval.specs.declared.Iv.{Iv}
use Rattle.fix_interval.specs.Ends.{Ends, IsInside}
use Rattle.fix_interval.specs.Intervals.{ends, mag_of, IsWithin}
use Rattle.site_laws.specs.Frames.{within}

-- ends around 0 bound the magnitude
pub mag_within : (a : Iv) (m : ℕ) → IsInside (ends a) (within (pos m)) → mag_of a ≤ m
mag_within a m i = let l = i.low in let h = i.high in let o = a.ordered in omega (arith, ints)

-- and the product of two magnitudes
pub product_within : (a b : Iv) (m n k : ℕ) → IsInside (ends a) (within (pos m)) → IsInside (ends b) (within (pos n)) → m * n ≤ k → mag_of a * mag_of b ≤ k
product_within a b m n k p q h = omega (arith, mul-le-mul (mag_within a m p) (mag_within b n q))

-- a number times a magnitude
pub times_within : (a : Iv) (n m k : ℕ) → IsInside (ends a) (within (pos m)) → n * m ≤ k → n * mag_of a ≤ k
times_within a n m k p h = omega (arith, mul-le-mul_left n (mag_within a m p))

-- an interval inside such ends is within
pub inside_within : (a : Iv) (m : ℕ) {c : Ends} → IsInside (ends a) c → neg_ℤ (pos m) ≤ℤ c.lo → c.hi ≤ℤ pos m → IsWithin a m
inside_within a m {c} i l h = let x = i.low in let y = i.high in record { low = omega (arith, ints); high = omega (arith, ints) }
