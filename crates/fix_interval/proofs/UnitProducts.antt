-- Products with a number from 0 to 1, rounded down.
use Rattle.std.specs.Prelude.{ℕ, ℤ, pos, neg_ℤ, ◌^◌, ◌≤◌, ◌*ℤ◌, ◌≤ℤ◌}
use Rattle.std.proofs.Common.{arith}
use Rattle.std.proofs.lemmas.Int.{ints}
use Rattle.std.proofs.lemmas.Nat.{pow_pos}
use Rattle.whole_numbers.specs.Rounding.{floor_of}
use Rattle.whole_numbers.proofs.Divisions.{floor_of_low, floor_of_high}
use Rattle.whole_numbers.proofs.Integers.{not_negative_natural}
use Rattle.whole_numbers.proofs.Products.{*ℤ_mono_left}

-- a product with a number from 0 to 1 is no greater
pub product_small : (x : ℤ) (h : ℕ) → neg_ℤ (pos (2 ^ 38)) ≤ℤ x → x ≤ℤ pos (2 ^ 38) → h ≤ 2 ^ 38
    → (neg_ℤ (pos (2 ^ 38)) ≤ℤ floor_of (x *ℤ pos h) (2 ^ 38)) × (floor_of (x *ℤ pos h) (2 ^ 38) ≤ℤ pos (2 ^ 38))
product_small x h l k s =
    let a = *ℤ_mono_left x (pos (2 ^ 38)) (pos h) (not_negative_natural h) k in
    let b = *ℤ_mono_left (neg_ℤ (pos (2 ^ 38))) x (pos h) (not_negative_natural h) l in
    bounds (x *ℤ pos h) h a b s
  where
    bounds : (z : ℤ) (h : ℕ) → z ≤ℤ (pos (2 ^ 38) *ℤ pos h) → (neg_ℤ (pos (2 ^ 38)) *ℤ pos h) ≤ℤ z → h ≤ 2 ^ 38 → (neg_ℤ (pos (2 ^ 38)) ≤ℤ floor_of z (2 ^ 38)) × (floor_of z (2 ^ 38) ≤ℤ pos (2 ^ 38))
    bounds z h a b s = (omega (arith, ints, floor_of_high z (2 ^ 38) (pow_pos 38)), omega (arith, ints, floor_of_low z (2 ^ 38) (pow_pos 38)))
