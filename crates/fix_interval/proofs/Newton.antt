-- One of Newton's steps toward a square root is at least the root.
use Rattle.std.specs.Prelude.{◌≡◌, ℕ, ◌+◌, ◌-◌, ◌*◌, ◌/◌, ◌<◌, ◌≤◌}
use Rattle.std.proofs.Common.{arith}
use Rattle.std.proofs.Math.Nat.{mul-le-mul, lt-div-mul-add}
use native.Mathlib.Decide.{dec_le}

-- four times a product is at most the square of the sum
four_product : (x q : ℕ) → 4 * (x * q) ≤ (x + q) * (x + q)
four_product x q = elim (dec_le x q) [ yes h ↦ from_gap x q (q - x) (omega arith) | no h ↦ omega (arith, from_gap q x (x - q) (omega arith)) ]
  where
    from_gap : (x q g : ℕ) → q ≡ x + g → 4 * (x * q) ≤ (x + q) * (x + q)
    from_gap x q g e = rw e (omega arith)

-- the step from x is at least the root of n
pub step_above : (n x : ℕ) → 0 < x → n < ((x + n / x) / 2 + 1) * ((x + n / x) / 2 + 1)
step_above n x h =
    let below : n < n / x * x + x = lt-div-mul-add {a = n} h in
    let product = four_product x (n / x + 1) in
    let half : x + (n / x + 1) ≤ 2 * ((x + n / x) / 2 + 1) = omega arith in
    let square = mul-le-mul half half in
    conclude n x (n / x) ((x + n / x) / 2) below product square
  where
    conclude : (n x q y : ℕ) → n < q * x + x → 4 * (x * (q + 1)) ≤ (x + (q + 1)) * (x + (q + 1)) → (x + (q + 1)) * (x + (q + 1)) ≤ 2 * (y + 1) * (2 * (y + 1)) → n < (y + 1) * (y + 1)
    conclude n x q y a b c = omega arith
