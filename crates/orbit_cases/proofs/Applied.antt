-- A time of at most 90 days before or after a time of applicability.
use Rattle.std.specs.Prelude.{ℤ, pos, ◌+ℤ◌, ◌-ℤ◌, ◌≤ℤ◌}
use Rattle.std.proofs.Common.{arith}
use Rattle.std.proofs.lemmas.Int.{ints}

pub applies : (toa t : ℤ) → (toa -ℤ pos 7776000000) ≤ℤ t → t ≤ℤ (toa +ℤ pos 7776000000) → (toa ≤ℤ (t +ℤ pos 7776000000)) × (t ≤ℤ (toa +ℤ pos 7776000000))
applies toa t h k = (omega (arith, ints), k)
