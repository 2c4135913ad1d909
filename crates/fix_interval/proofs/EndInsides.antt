-- Ends inside ends: that what is inside what is inside is inside, that it holds no more, and how great its ends are.
use Rattle.std.specs.Prelude.{◌≡◌, ℕ, ◌*◌, ◌≤◌, ◌≤ℤ◌}
use Rattle.std.proofs.Common.{arith, sym, subst}
use Rattle.std.proofs.lemmas.Int.{ints}
use Rattle.std.proofs.Math.Nat.{mul-le-mul}
use Rattle.whole_numbers.proofs.Integers.{≤ℤ_refl, ≤ℤ_trans}
use Rattle.fractions.specs.Fraction.{Fraction}
use Rattle.fix_interval.specs.declared.interval.Iv.{Iv}
use Rattle.fix_interval.specs.Ends.{Ends, IsInside}
use Rattle.fix_interval.specs.Ranges.{from_to, around}
use Rattle.fix_interval.specs.Lies.{Lies}
use Rattle.fix_interval.specs.Intervals.{ends, mag_of, IsWithin}
use Rattle.fix_interval.proofs.EndBounds.{wider}

-- an interval is inside itself
pub inside_self : (a : Ends) → a.lo ≤ℤ a.hi → IsInside a a
inside_self a o = record { low = ≤ℤ_refl a.lo; ordered = o; high = ≤ℤ_refl a.hi }

-- what is inside what is inside is inside
pub inside_trans : {a b c : Ends} → IsInside a b → IsInside b c → IsInside a c
inside_trans {a} {b} {c} p q = record { low = ≤ℤ_trans c.lo b.lo a.lo q.low p.low; ordered = p.ordered; high = ≤ℤ_trans a.hi b.hi c.hi p.high q.high }

-- what is equal to ends inside others is inside them
pub is_inside : {e f : Ends} (a : Iv) → ends a ≡ e → IsInside e f → IsInside (ends a) f
is_inside {e} {f} a q i = subst (λ t. IsInside t f) (sym q) i

-- what lies in ends lies in those that they are inside of
pub lies_inside : {a b : Ends} {s : ℕ} {x : Fraction} → Lies a s x → IsInside a b → Lies b s x
lies_inside {a} {b} {s} {x} l p = wider s x p.low p.high l

-- ---- ranges
-- a range around 0 is inside a greater one
pub wider_range : (m n : ℕ) → m ≤ n → IsInside (around m) (around n)
wider_range m n h = record { low = omega (arith, ints); ordered = omega (arith, ints); high = omega (arith, ints) }

-- and what is inside it is inside the greater one
pub wider_around : {a : Ends} (m n : ℕ) → m ≤ n → IsInside a (around m) → IsInside a (around n)
wider_around {a} m n h i = inside_trans i (wider_range m n h)

-- ---- magnitudes
-- a range around 0 bounds the magnitude of what is inside
pub mag_around : (a : Iv) (m : ℕ) → IsInside (ends a) (around m) → mag_of a ≤ m
mag_around a m i = let l = i.low in let h = i.high in let o = a.ordered in omega (arith, ints)

-- and so does a range of what is not negative
pub mag_from_to : (a : Iv) (l m : ℕ) → IsInside (ends a) (from_to l m) → mag_of a ≤ m
mag_from_to a l m i = let lo = i.low in let h = i.high in let o = a.ordered in omega (arith, ints)

-- the product of two magnitudes is at most that of their bounds
pub product_most : {p q : ℕ} (m n k : ℕ) → p ≤ m → q ≤ n → m * n ≤ k → p * q ≤ k
product_most {p} {q} m n k h j i = omega (arith, mul-le-mul h j)

-- what is inside a range around 0 is within its bound
pub around_within : (a : Iv) (m n : ℕ) → m ≤ n → IsInside (ends a) (around m) → IsWithin a n
around_within a m n h i = let l = i.low in let u = i.high in record { low = omega (arith, ints); high = omega (arith, ints) }

pub from_to_within : (a : Iv) (l m n : ℕ) → m ≤ n → IsInside (ends a) (from_to l m) → IsWithin a n
from_to_within a l m n h i = let lo = i.low in let u = i.high in let o = a.ordered in record { low = omega (arith, ints); high = omega (arith, ints) }
