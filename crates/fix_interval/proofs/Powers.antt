-- Powers of ten within 128 bits.
use Rattle.std.specs.Prelude.{ℕ, ◌*◌, ◌^◌, ◌≤◌, ◌<◌}
use Rattle.std.proofs.Common.{arith}
use Rattle.std.proofs.Math.Nat.{pow-le-pow_right, one-le-pow, mul-le-mul}
use lib.Dec.{lit≤}

-- a power of ten is above 0
pub ten_positive : (places : ℕ) → 0 < 10 ^ places
ten_positive places = one-le-pow places 10 (omega arith)

-- and with up to thirty places at most 10^30
pub ten_small : (places : ℕ) → places ≤ 30 → 10 ^ places ≤ 10 ^ 30
ten_small places h = pow-le-pow_right (lit≤ tt) h

-- times a natural of at most n, at most 10^30 n
pub ten_times : (places k n : ℕ) → places ≤ 30 → k ≤ n → 10 ^ places * k ≤ 10 ^ 30 * n
ten_times places k n h l = mul-le-mul (ten_small places h) l
