-- A time that a cut may have fits the program's type.
use Rattle.std.specs.Prelude.{◌≡◌, ℕ, ◌<◌, ℤ, pos, List, All, length, slice_index_or}
use Rattle.std.proofs.Common.{arith, w64, FitsSigned, to_z, of_z}
use Rattle.std.proofs.lemmas.Int.{ints, to_z-of_z}
use Rattle.raim_model.specs.Cuts.{IsCutTime}

-- cast and back
cast_back : (t : ℤ) → IsCutTime t → to_z w64 (of_z w64 t) ≡ t
cast_back t h = let l = h.0 in let u = h.1 in let fits : FitsSigned w64 t = omega (arith, ints) in to_z-of_z w64 t fits

-- a time of a list, as the code reads it
pub read_at : (times : List ℤ) → All IsCutTime times → (i : ℕ) → i < length times → to_z w64 (of_z w64 (slice_index_or times i (pos 0))) ≡ slice_index_or times i (pos 0)
read_at times h i p = cast_back (slice_index_or times i (pos 0)) (h i (pos 0) p)
