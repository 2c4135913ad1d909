-- Pairs of intervals, as a sine and a cosine are: what they hold, when one is inside another, and the least pair round a
-- range of them.
use Rattle.std.specs.Prelude.{ℕ, zero, suc, ℤ, pos, ◌+ℤ◌}
use Rattle.fractions.specs.Fraction.{Fraction}
use Rattle.fix_interval.specs.declared.interval.Iv.{Iv}
use Rattle.fix_interval.specs.Ends.{Ends, IsInside}
use Rattle.fix_interval.specs.Ranges.{full_ends}
use Rattle.fix_interval.specs.Lies.{Lies}
use Rattle.fix_interval.specs.Bounds.{hull_of}
use Rattle.fix_interval.specs.Intervals.{ends}

-- the ends of a sine and of a cosine
pub record PairEnds : Type 0 where
  pub sine : Ends
  pub cosine : Ends

-- the ends of a sine and of a cosine of the program
abbrev pub pair_ends : Iv → Iv → PairEnds
pair_ends sine cosine = record { sine = ends sine; cosine = ends cosine }

-- s and c lie in the two parts
pub record PairLies (p : PairEnds) (s c : Fraction) : Type 0 where
  pub sine : Lies p.sine 38 s
  pub cosine : Lies p.cosine 38 c

-- both parts of p are intervals, and inside those of q
pub record PairInside (p q : PairEnds) : Type 0 where
  pub sine : IsInside p.sine q.sine
  pub cosine : IsInside p.cosine q.cosine

-- both from -1 to 1
abbrev pub full_pair : PairEnds
full_pair = record { sine = full_ends; cosine = full_ends }

-- the least intervals round both sines and both cosines
unfoldable pub pair_hull : PairEnds → PairEnds → PairEnds
pair_hull p q = record { sine = hull_of p.sine q.sine; cosine = hull_of p.cosine q.cosine }

-- the hull of f over n + 1 whole numbers from k on
unfoldable pub hull_from : (ℤ → PairEnds) → ℤ → ℕ → PairEnds
hull_from f k zero = f k
hull_from f k (suc n) = pair_hull (hull_from f k n) (f (k +ℤ pos (suc n)))
