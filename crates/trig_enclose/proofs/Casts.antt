-- A number of 64 bits that went to bits and is read again.
use Rattle.std.proofs.Common.{◌≡◌, ℤ, to_z, of_z}
use mir.Val.{SFits}
use mir.Syntax.{w64}
use Rattle.std.proofs.lemmas.Int.{to_z-of_z}

-- a number that fits is read as it was
pub plain : {z : ℤ} → SFits w64 z → to_z w64 (of_z w64 z) ≡ z
plain {z} f = to_z-of_z w64 z f
