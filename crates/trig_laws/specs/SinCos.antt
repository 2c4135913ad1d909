-- The sine and the cosine of any turns, as intervals: the least intervals round those of each quarter turn that the
-- turns meet.
use Rattle.std.specs.Prelude.{zero, suc, ℤ, pos, ◌^◌, ◌+ℤ◌, ◌-ℤ◌, cond, unsigned_abs}
use lib.Signed.{le_z}
use Rattle.std.specs.Int.{int_rem_euclid}
use Rattle.whole_numbers.specs.Rounding.{floor_of}
use Rattle.fix_interval.specs.Ends.{Ends}
use Rattle.fix_interval.specs.Sums.{neg_of}
use Rattle.fix_interval.specs.Pairs.{PairEnds, full_pair, hull_from}
use Rattle.trig_laws.specs.Quarter.{sine_of, cosine_of, left_of}

-- a sine and a cosine, k quarters of a turn on; k is from 0 to 3
abbrev pub turn_of : ℤ → Ends → Ends → PairEnds
turn_of (pos zero) a b = record { sine = a; cosine = b }
turn_of (pos (suc zero)) a b = record { sine = b; cosine = neg_of a }
turn_of (pos (suc (suc zero))) a b = record { sine = neg_of a; cosine = neg_of b }
turn_of k a b = record { sine = neg_of b; cosine = a }

-- the sine and the cosine of what of a is nearest to the quarter turn q
unfoldable pub pair_at : Ends → ℤ → PairEnds
pair_at a q = turn_of (int_rem_euclid q (pos 4)) (sine_of (left_of a q)) (cosine_of (left_of a q))

-- the quarter turn that is nearest to z units
abbrev pub nearest_quarter_of : ℤ → ℤ
nearest_quarter_of z = floor_of (z +ℤ pos (2 ^ 35)) (2 ^ 36)

-- the sine and the cosine of the turns a
unfoldable pub sin_cos_of : Ends → PairEnds
sin_cos_of a = cond (le_z (pos (2 ^ 38)) (a.hi -ℤ a.lo)) full_pair (hull_from (pair_at a) (nearest_quarter_of a.lo) (unsigned_abs (nearest_quarter_of a.hi -ℤ nearest_quarter_of a.lo)))
