-- A whole turn of turns, and less.
use Rattle.std.specs.Prelude.{◌≡◌, pos, ◌^◌, ◌-ℤ◌, ◌≤ℤ◌, ◌<ℤ◌, unsigned_abs, Bool, true, false, cond, refl}
use Rattle.std.proofs.Common.{arith}
use Rattle.std.proofs.lemmas.Int.{ints}
use lib.Signed.{le_z}
use Rattle.fix_interval.specs.Ends.{Ends}
use Rattle.fix_interval.specs.Pairs.{full_pair, hull_from}
use Rattle.trig_laws.specs.SinCos.{pair_at, nearest_quarter_of, sin_cos_of}

pub whole_turn : (a : Ends) → pos (2 ^ 38) ≤ℤ (a.hi -ℤ a.lo) → full_pair ≡ sin_cos_of a
unfolding sin_cos_of
whole_turn a h = by_test (le_z (pos (2 ^ 38)) (a.hi -ℤ a.lo)) refl
  where
    by_test : (t : Bool) → le_z (pos (2 ^ 38)) (a.hi -ℤ a.lo) ≡ t → full_pair ≡ cond t full_pair (hull_from (pair_at a) (nearest_quarter_of a.lo) (unsigned_abs (nearest_quarter_of a.hi -ℤ nearest_quarter_of a.lo)))
    by_test true e = refl
    by_test false e = absurd (omega (arith, ints))

pub part_turn : (a : Ends) → (a.hi -ℤ a.lo) <ℤ pos (2 ^ 38) → hull_from (pair_at a) (nearest_quarter_of a.lo) (unsigned_abs (nearest_quarter_of a.hi -ℤ nearest_quarter_of a.lo)) ≡ sin_cos_of a
unfolding sin_cos_of
part_turn a h = by_test (le_z (pos (2 ^ 38)) (a.hi -ℤ a.lo)) refl
  where
    by_test : (t : Bool) → le_z (pos (2 ^ 38)) (a.hi -ℤ a.lo) ≡ t
        → hull_from (pair_at a) (nearest_quarter_of a.lo) (unsigned_abs (nearest_quarter_of a.hi -ℤ nearest_quarter_of a.lo)) ≡ cond t full_pair (hull_from (pair_at a) (nearest_quarter_of a.lo) (unsigned_abs (nearest_quarter_of a.hi -ℤ nearest_quarter_of a.lo)))
    by_test true e = absurd (omega (arith, ints))
    by_test false e = refl
