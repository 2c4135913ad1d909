-- What the casts between signed and unsigned numbers give at days and milliseconds, which fit both.
use Rattle.std.proofs.Common.{◌≡◌, ℕ, ◌+◌, ◌<◌, refl, arith, ℤ, pos, negsuc, ◌+ℤ◌, ◌-ℤ◌, ◌≤ℤ◌, ◌<ℤ◌, neg_ℤ, FitsSigned, to_z, of_z, w32, w64, unsigned_abs}
use Rattle.std.proofs.lemmas.Int.{to_z-of_z, to_z_pos}
use Rattle.jiff_core.specs.Calendar.{IsEpochDay}
use Rattle.jiff_core.proofs.SignedLemmas.{signed_arith}
use Rattle.gps_week.specs.GpsTime.{IsInstant}

-- a day number, moved to the epoch of GPS time
pub day_from_epoch : (n : ℤ) → IsEpochDay n → to_z w64 (of_z w64 (to_z w64 (of_z w64 (to_z w32 (of_z w32 n))) -ℤ pos 3657)) ≡ n -ℤ pos 3657
day_from_epoch n h =
    let narrow : FitsSigned w32 n = omega (arith, signed_arith) in
    let wide : FitsSigned w64 n = omega (arith, signed_arith) in
    let moved : FitsSigned w64 (n -ℤ pos 3657) = omega (arith, signed_arith) in
    simp to_z-of_z refl

-- and moved back
pub day_to_unix : (n : ℕ) → n < 2929240 → to_z w64 (of_z w64 (to_z w64 n +ℤ pos 3657)) ≡ pos (n + 3657)
day_to_unix n h =
    let moved : FitsSigned w64 (pos n +ℤ pos 3657) = omega (arith, signed_arith) in
    let plain : to_z w64 n ≡ pos n = to_z_pos w64 n (omega arith) in
    rw plain (rw (to_z-of_z w64 (pos n +ℤ pos 3657) moved) (omega (arith, signed_arith)))

-- a number that is not negative is its size
pub unsigned_abs-not_negative : (z : ℤ) → pos 0 ≤ℤ z → pos (unsigned_abs z) ≡ z
unsigned_abs-not_negative (pos n) late = refl
unsigned_abs-not_negative (negsuc n) late = absurd (omega (arith, signed_arith, late))

-- an instant is kept in 64 bits
pub instant_kept : (leap : ℕ) (ms : ℤ) → leap < 256 → IsInstant leap ms → to_z w64 (of_z w64 ms) ≡ ms
instant_kept leap ms few instant =
    let fits : FitsSigned w64 ms = omega (arith, signed_arith, few, instant.0, instant.1) in
    to_z-of_z w64 ms fits

-- a number of milliseconds or of days, as it is kept in 64 bits
pub kept_small : (z : ℤ) → neg_ℤ (pos 400000000000000) ≤ℤ z → z <ℤ pos 400000000000000 → to_z w64 (of_z w64 z) ≡ z
kept_small z low high =
    let fits : FitsSigned w64 z = omega (arith, signed_arith, low, high) in
    to_z-of_z w64 z fits
