-- Numbers of 128 bits within bounds.
use Rattle.std.proofs.Common.{arith, ℕ, ℤ, pos, neg_ℤ, ◌-ℤ◌, ◌≤ℤ◌, ◌+◌, ◌*◌, ◌^◌, ◌≤◌, ◌+ℤ◌, ◌*ℤ◌, ◌≡◌, to_z, of_z, FitsSigned}
use Rattle.std.proofs.lemmas.Int.{ints}
use Rattle.std.proofs.lemmas.Nat.{pow_pos}
use mir.Syntax.{w64, w128}
use mir.Val.{SFits}
use Rattle.whole_numbers.specs.Rounding.{floor_of}
use Rattle.whole_numbers.proofs.Casts.{plain}
use Rattle.whole_numbers.proofs.Divisions.{floor_of_low, floor_of_high}
use Rattle.fix_interval.specs.Ends.{Ends}
use Rattle.time_forms.specs.Operations.{fixed_of}
use Rattle.time_forms.specs.Programs.{IsNumberWithin, IsFormWithin}
use Rattle.time_forms.proofs.Bits.{read_128, lower_within, upper_within, middle_within, form_within}
use Rattle.time_forms.proofs.Bounds.{product_high, product_low}

pub product_bound : (x y : ℤ) (m n : ℕ) → IsNumberWithin x m → IsNumberWithin y n → IsNumberWithin (x *ℤ y) (m * n)
product_bound x y m n p q = record {
  low = let a = product_low x y (pos m) (pos n) p.low p.high q.low q.high in omega (arith, ints);
  high = let a = product_high x y (pos m) (pos n) p.low p.high q.low q.high in omega (arith, ints);
}

-- a quotient by 2^38, rounded down
pub quotient_within : (z : ℤ) (n : ℕ) → IsNumberWithin z (n * 2 ^ 38) → IsNumberWithin (floor_of z (2 ^ 38)) n
quotient_within z n p =
    let a = floor_of_low z (2 ^ 38) (pow_pos 38) in
    let b = floor_of_high z (2 ^ 38) (pow_pos 38) in
    let l = p.low in
    let h = p.high in
    record { low = omega (arith, ints); high = omega (arith, ints) }

-- a product that fits, as the program takes it
pub product-plain : (x y : ℤ) → SFits w128 x → SFits w128 y → IsNumberWithin (x *ℤ y) (2 ^ 126) → to_z w128 (of_z w128 (to_z w128 (of_z w128 x) *ℤ to_z w128 (of_z w128 y))) ≡ x *ℤ y
product-plain x y f g p = rw (plain f, plain g) (read_128 (x *ℤ y) p)

pub product_fits : (x y : ℤ) → SFits w128 x → SFits w128 y → IsNumberWithin (x *ℤ y) (2 ^ 126) → FitsSigned w128 (to_z w128 (of_z w128 x) *ℤ to_z w128 (of_z w128 y))
product_fits x y f g p = rw (plain f, plain g) (fits (x *ℤ y) p)
  where
    fits : (z : ℤ) → IsNumberWithin z (2 ^ 126) → FitsSigned w128 z
    fits z q = let l = q.low in let h = q.high in omega (arith, ints)

pub plus-plain : (z : ℤ) (k : ℕ) → k ≤ 2048 → IsNumberWithin z (2 ^ 120) → to_z w128 (of_z w128 (to_z w128 (of_z w128 z) +ℤ pos k)) ≡ z +ℤ pos k
plus-plain z k h p = let l = p.low in let u = p.high in omega (arith, ints)

pub twenty-plain : (z : ℤ) → IsNumberWithin z (2 ^ 61) → to_z w128 (of_z w128 (pos 20 *ℤ to_z w128 (of_z w128 z))) ≡ pos 20 *ℤ z
twenty-plain z p = let l = p.low in let u = p.high in omega (arith, ints)

pub twenty_five-plain : (z : ℤ) → IsNumberWithin z (2 ^ 61) → to_z w128 (of_z w128 (pos 25 *ℤ to_z w128 (of_z w128 z))) ≡ pos 25 *ℤ z
twenty_five-plain z p = let l = p.low in let u = p.high in omega (arith, ints)

pub times_within : (k : ℕ) (z : ℤ) (n : ℕ) → IsNumberWithin z n → IsNumberWithin (pos k *ℤ z) (k * n)
times_within k z n p = product_bound (pos k) z k n record { low = omega (arith, ints); high = omega (arith, ints) } p

pub plus_within : (z : ℤ) (k n : ℕ) → IsNumberWithin z n → IsNumberWithin (z +ℤ pos k) (n + k)
plus_within z k n p = let l = p.low in let u = p.high in record { low = omega (arith, ints); high = omega (arith, ints) }

pub plus_fits : (z : ℤ) (k : ℕ) → k ≤ 2048 → IsNumberWithin z (2 ^ 120) → FitsSigned w128 (to_z w128 (of_z w128 z) +ℤ pos k)
plus_fits z k h p = let l = p.low in let u = p.high in omega (arith, ints)

-- a number of 64 bits, in 128
pub long-plain : (z : ℤ) → IsNumberWithin z (2 ^ 60) → to_z w128 (of_z w128 (to_z w64 (of_z w64 z))) ≡ z
long-plain z p = let l = p.low in let h = p.high in omega (arith, ints)

pub short-plain : (z : ℤ) → IsNumberWithin z (2 ^ 60) → to_z w64 (of_z w64 z) ≡ z
short-plain z p = let l = p.low in let h = p.high in omega (arith, ints)

-- the form of fixed ends
pub difference_within : (y z : ℤ) (m n : ℕ) → IsNumberWithin y m → IsNumberWithin z n → IsNumberWithin (y -ℤ z) (m + n)
difference_within y z m n p q = let pl = p.low in let ph = p.high in let ql = q.low in let qh = q.high in record { low = omega (arith, ints); high = omega (arith, ints) }

pub fixed_within : (e : Ends) (m : ℕ) → neg_ℤ (pos m) ≤ℤ e.lo → e.lo ≤ℤ e.hi → e.hi ≤ℤ pos m → IsFormWithin (fixed_of e) (2 * m)
unfolding fixed_of
fixed_within e m l o h =
    let a = lower_within e.lo e.hi m l o h in
    let b = upper_within e.lo e.hi m l o h in
    let c = middle_within e.lo e.hi m a b in
    form_within (fixed_of e) (2 * m) (twice c) record { low = omega (arith, ints); high = omega (arith, ints) } (both (difference_within e.hi (floor_of (e.lo +ℤ e.hi) 2) m m b c))
  where
    twice : {z : ℤ} → IsNumberWithin z m → IsNumberWithin z (2 * m)
    twice p = let pl = p.low in let ph = p.high in record { low = omega (arith, ints); high = omega (arith, ints) }

    both : {z : ℤ} → IsNumberWithin z (m + m) → IsNumberWithin z (2 * m)
    both p = let pl = p.low in let ph = p.high in record { low = omega (arith, ints); high = omega (arith, ints) }
