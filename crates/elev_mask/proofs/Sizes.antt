-- Magnitudes of intervals inside ends.
use Rattle.std.specs.Prelude.{ℕ, pos, neg_ℤ, ◌*◌, ◌≤◌, ◌≤ℤ◌}
use Rattle.std.proofs.Common.{arith}
use Rattle.std.proofs.lemmas.Int.{ints}
use Rattle.std.proofs.Math.Nat.{mul-le-mul}
use Rattle.fix_interval.specs.declared.Iv.{Iv}
use Rattle.fix_interval.specs.Ends.{Ends, IsInside}
use Rattle.fix_interval.specs.Intervals.{ends, mag_of, IsWithin}

-- ends around 0 bound the magnitude
mag_inside : (a : Iv) (m : ℕ) {c : Ends} → IsInside (ends a) c → neg_ℤ (pos m) ≤ℤ c.lo → c.hi ≤ℤ pos m → mag_of a ≤ m
mag_inside a m {c} i l h = let x = i.low in let y = i.high in let o = a.ordered in omega (arith, ints)

-- and the product of two magnitudes
pub product_inside : (a b : Iv) (m n k : ℕ) {c d : Ends} → IsInside (ends a) c → IsInside (ends b) d → neg_ℤ (pos m) ≤ℤ c.lo → c.hi ≤ℤ pos m → neg_ℤ (pos n) ≤ℤ d.lo → d.hi ≤ℤ pos n → m * n ≤ k → mag_of a * mag_of b ≤ k
product_inside a b m n k p q cl ch dl dh h = omega (arith, mul-le-mul (mag_inside a m p cl ch) (mag_inside b n q dl dh))

-- an interval inside such ends is within
pub inside_within : (a : Iv) (m : ℕ) {c : Ends} → IsInside (ends a) c → neg_ℤ (pos m) ≤ℤ c.lo → c.hi ≤ℤ pos m → IsWithin a m
inside_within a m {c} i l h = let x = i.low in let y = i.high in record { low = omega (arith, ints); high = omega (arith, ints) }

pub wider : {a : Iv} (m n : ℕ) → IsWithin a m → m ≤ n → IsWithin a n
wider {a} m n w h = let x = w.low in let y = w.high in record { low = omega (arith, ints); high = omega (arith, ints) }
