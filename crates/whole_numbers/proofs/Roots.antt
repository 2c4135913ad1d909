-- What characterizes `root_of`: its square is at most the number, the next square above it, and only one whole number is so.
use Rattle.std.specs.Prelude.{◌≡◌, ℕ, zero, suc, nat_le, ℤ, pos, negsuc, ◌+◌, ◌*◌, ◌^◌, ◌<◌, ◌≤◌, refl, ◌≤ℤ◌, ◌<ℤ◌, Bool, true, false, cond}
use Rattle.std.proofs.Common.{arith, sym, subst}
use Rattle.std.proofs.lemmas.Int.{ints}
use Rattle.std.proofs.Math.Nat.{mul-le-mul}
use lib.Dec.{T, leb→le, nleb→lt}
use mathlib.Core.Bool.{not}
use native.Mathlib.Decide.{dec_le}
use Rattle.whole_numbers.specs.Root.{root_of, root_below}

-- the square at each choice is at most n
low_choice : (t : Bool) (k n : ℕ) → nat_le (suc k * suc k) n ≡ t → root_below k n * root_below k n ≤ n → cond t (suc k) (root_below k n) * cond t (suc k) (root_below k n) ≤ n
low_choice true k n e h = leb→le (suc k * suc k) n (subst T (sym e) tt)
low_choice false k n e h = h

-- the square of what is found is at most n
pub root_below_low : (k n : ℕ) → root_below k n * root_below k n ≤ n
root_below_low zero n = omega arith
root_below_low (suc k) n = low_choice (nat_le (suc k * suc k) n) k n refl (root_below_low k n)

-- n is below the next square at each choice
high_choice : (t : Bool) (k n : ℕ) → nat_le (suc k * suc k) n ≡ t → n < (suc k + 1) * (suc k + 1) → (n < (k + 1) * (k + 1) → n < (root_below k n + 1) * (root_below k n + 1)) → n < (cond t (suc k) (root_below k n) + 1) * (cond t (suc k) (root_below k n) + 1)
high_choice true k n e h f = h
high_choice false k n e h f = f (omega (arith, nleb→lt (suc k * suc k) n (subst (λ (t : Bool). T (not t)) (sym e) tt)))

-- n is below the next square
pub root_below_high : (k n : ℕ) → n < (k + 1) * (k + 1) → n < (root_below k n + 1) * (root_below k n + 1)
root_below_high zero n h = h
root_below_high (suc k) n h = high_choice (nat_le (suc k * suc k) n) k n refl h (root_below_high k n)

-- the square of the root is at most z
pub root_of_low : (z : ℤ) → pos 0 ≤ℤ z → pos (root_of z * root_of z) ≤ℤ z
unfolding root_of
root_of_low (pos n) h = omega (arith, ints, root_below_low n n)
root_of_low (negsuc n) h = omega (arith, ints)

-- z is below the next square
pub root_of_high : (z : ℤ) → z <ℤ pos ((root_of z + 1) * (root_of z + 1))
unfolding root_of
root_of_high (pos n) = omega (arith, ints, root_below_high n n (omega arith))
root_of_high (negsuc n) = omega (arith, ints)

-- what has a smaller square than the next is at most this one
below_root : (m n : ℕ) → m * m < (n + 1) * (n + 1) → m ≤ n
below_root m n h = elim (dec_le m n) [ yes k ↦ k | no k ↦ absurd (clash m n h (omega arith)) ]
  where
    clash : (m n : ℕ) → m * m < (n + 1) * (n + 1) → n + 1 ≤ m → ⊥
    clash m n h k = omega (arith, mul-le-mul k k)

-- only the root is so
pub root_of-unique : (z : ℤ) (n : ℕ) → pos (n * n) ≤ℤ z → z <ℤ pos ((n + 1) * (n + 1)) → root_of z ≡ n
root_of-unique z n h k =
    let p : root_of z ≤ n = below_root (root_of z) n (omega (arith, ints, root_of_low z (omega (arith, ints)))) in
    let q : n ≤ root_of z = below_root n (root_of z) (omega (arith, ints, root_of_high z)) in
    omega arith

-- the root grows with z
pub root_of_mono : (y z : ℤ) → pos 0 ≤ℤ y → y ≤ℤ z → root_of y ≤ root_of z
root_of_mono y z n h = below_root (root_of y) (root_of z) (omega (arith, ints, root_of_low y n, root_of_high z))

-- the root of what has 126 bits has 63
pub root_of_small : (z : ℤ) → pos 0 ≤ℤ z → z ≤ℤ pos (2 ^ 126) → root_of z ≤ 2 ^ 63
root_of_small z n h = below_root (root_of z) (2 ^ 63) (omega (arith, ints, root_of_low z n))
