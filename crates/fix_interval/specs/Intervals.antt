-- How contracts see the intervals of the program.
use Rattle.std.specs.Prelude.{ℕ, pos, neg_ℤ, ◌≤ℤ◌, max, unsigned_abs}
use Rattle.fix_interval.specs.declared.interval.Iv.{Iv}
use Rattle.fix_interval.specs.declared.interval_64.Iv64.{Iv64}
use Rattle.fix_interval.specs.Ends.{Ends}

-- the ends of an interval of the program
abbrev pub ends : Iv → Ends
ends a = record { lo = a.lo; hi = a.hi }

-- and those of one whose ends fit 64 bits
abbrev pub ends_64 : Iv64 → Ends
ends_64 a = record { lo = a.lo; hi = a.hi }

-- both ends have a magnitude of at most m
pub record IsWithin (a : Iv) (m : ℕ) : Type 0 where
  pub low : neg_ℤ (pos m) ≤ℤ a.lo
  pub high : a.hi ≤ℤ pos m

pub record IsWithin64 (a : Iv64) (m : ℕ) : Type 0 where
  pub low : neg_ℤ (pos m) ≤ℤ a.lo
  pub high : a.hi ≤ℤ pos m

-- the greater magnitude of the two ends
abbrev pub mag_of : Iv → ℕ
mag_of a = max (unsigned_abs a.lo) (unsigned_abs a.hi)
