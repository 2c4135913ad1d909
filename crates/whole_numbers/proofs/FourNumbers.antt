-- The least and the greatest of four numbers, as of the four products of ends.
use Rattle.std.specs.Prelude.{◌≡◌, ℤ, ◌≤ℤ◌}
use Rattle.std.proofs.Common.{arith}
use Rattle.std.proofs.lemmas.Int.{ints, clamps}
use Rattle.std.specs.Int.{int_min, int_max}

-- ---- the least is at most each
pub least_least : (p q r s : ℤ) → (int_min (int_min p q) (int_min r s) ≤ℤ p) × (int_min (int_min p q) (int_min r s) ≤ℤ q) × (int_min (int_min p q) (int_min r s) ≤ℤ r) × (int_min (int_min p q) (int_min r s) ≤ℤ s)
least_least p q r s = (omega (arith, ints, clamps), omega (arith, ints, clamps), omega (arith, ints, clamps), omega (arith, ints, clamps))

-- and the greatest at least each
pub greatest_greatest : (p q r s : ℤ) → (p ≤ℤ int_max (int_max p q) (int_max r s)) × (q ≤ℤ int_max (int_max p q) (int_max r s)) × (r ≤ℤ int_max (int_max p q) (int_max r s)) × (s ≤ℤ int_max (int_max p q) (int_max r s))
greatest_greatest p q r s = (omega (arith, ints, clamps), omega (arith, ints, clamps), omega (arith, ints, clamps), omega (arith, ints, clamps))

-- ---- one that is at most the others is the least
pub first_least : (p q r s : ℤ) → p ≤ℤ q → p ≤ℤ r → p ≤ℤ s → int_min (int_min p q) (int_min r s) ≡ p
first_least p q r s a b c = omega (arith, ints, clamps)

pub second_least : (p q r s : ℤ) → q ≤ℤ p → q ≤ℤ r → q ≤ℤ s → int_min (int_min p q) (int_min r s) ≡ q
second_least p q r s a b c = omega (arith, ints, clamps)

pub third_least : (p q r s : ℤ) → r ≤ℤ p → r ≤ℤ q → r ≤ℤ s → int_min (int_min p q) (int_min r s) ≡ r
third_least p q r s a b c = omega (arith, ints, clamps)

pub fourth_least : (p q r s : ℤ) → s ≤ℤ p → s ≤ℤ q → s ≤ℤ r → int_min (int_min p q) (int_min r s) ≡ s
fourth_least p q r s a b c = omega (arith, ints, clamps)

-- ---- one that is at least the others is the greatest
pub first_greatest : (p q r s : ℤ) → q ≤ℤ p → r ≤ℤ p → s ≤ℤ p → int_max (int_max p q) (int_max r s) ≡ p
first_greatest p q r s a b c = omega (arith, ints, clamps)

pub second_greatest : (p q r s : ℤ) → p ≤ℤ q → r ≤ℤ q → s ≤ℤ q → int_max (int_max p q) (int_max r s) ≡ q
second_greatest p q r s a b c = omega (arith, ints, clamps)

pub third_greatest : (p q r s : ℤ) → p ≤ℤ r → q ≤ℤ r → s ≤ℤ r → int_max (int_max p q) (int_max r s) ≡ r
third_greatest p q r s a b c = omega (arith, ints, clamps)

pub fourth_greatest : (p q r s : ℤ) → p ≤ℤ s → q ≤ℤ s → r ≤ℤ s → int_max (int_max p q) (int_max r s) ≡ s
fourth_greatest p q r s a b c = omega (arith, ints, clamps)
