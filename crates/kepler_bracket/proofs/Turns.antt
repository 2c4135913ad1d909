-- A whole turn of mean anomalies, and less.
use Rattle.std.specs.Prelude.{◌≡◌, pos, ◌^◌, ◌-ℤ◌, ◌≤ℤ◌, ◌<ℤ◌, unsigned_abs, Bool, true, false, cond, refl}
use Rattle.std.proofs.Common.{arith}
use Rattle.std.proofs.lemmas.Int.{ints}
use lib.Signed.{le_z}
use Rattle.fix_interval.specs.Ends.{Ends}
use Rattle.fix_interval.specs.Pairs.{full_pair, hull_from}
use Rattle.kepler_laws.specs.EccentricSine.{nearest_turn_of, wrap_pair, ecc_sin_cos_of}

pub whole_turn : (m eps : Ends) → pos (2 ^ 38) ≤ℤ (m.hi -ℤ m.lo) → full_pair ≡ ecc_sin_cos_of m eps
unfolding ecc_sin_cos_of
whole_turn m eps h = by_test (le_z (pos (2 ^ 38)) (m.hi -ℤ m.lo)) refl
  where
    by_test : (t : Bool) → le_z (pos (2 ^ 38)) (m.hi -ℤ m.lo) ≡ t
        → full_pair ≡ cond t full_pair (hull_from (wrap_pair m eps) (nearest_turn_of m.lo) (unsigned_abs (nearest_turn_of m.hi -ℤ nearest_turn_of m.lo)))
    by_test true e = refl
    by_test false e = absurd (omega (arith, ints))

pub part_turn : (m eps : Ends) → (m.hi -ℤ m.lo) <ℤ pos (2 ^ 38) → hull_from (wrap_pair m eps) (nearest_turn_of m.lo) (unsigned_abs (nearest_turn_of m.hi -ℤ nearest_turn_of m.lo)) ≡ ecc_sin_cos_of m eps
unfolding ecc_sin_cos_of
part_turn m eps h = by_test (le_z (pos (2 ^ 38)) (m.hi -ℤ m.lo)) refl
  where
    by_test : (t : Bool) → le_z (pos (2 ^ 38)) (m.hi -ℤ m.lo) ≡ t
        → hull_from (wrap_pair m eps) (nearest_turn_of m.lo) (unsigned_abs (nearest_turn_of m.hi -ℤ nearest_turn_of m.lo)) ≡ cond t full_pair (hull_from (wrap_pair m eps) (nearest_turn_of m.lo) (unsigned_abs (nearest_turn_of m.hi -ℤ nearest_turn_of m.lo)))
    by_test true e = absurd (omega (arith, ints))
    by_test false e = refl
