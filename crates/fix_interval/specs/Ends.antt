-- The two ends of an interval, as whole numbers of units: how wide it is, and when one interval is inside another.
use Rattle.std.specs.Prelude.{ℕ, ℤ, pos, neg_ℤ, ◌-ℤ◌, ◌≤ℤ◌, ◌<ℤ◌}

-- the two ends of an interval, lo first
pub record Ends : Type 0 where
  pub lo : ℤ
  pub hi : ℤ

-- a is an interval, and inside b
pub record IsInside (a b : Ends) : Type 0 where
  pub low : b.lo ≤ℤ a.lo
  pub ordered : a.lo ≤ℤ a.hi
  pub high : a.hi ≤ℤ b.hi

-- the width
abbrev pub width_of : Ends → ℤ
width_of a = a.hi -ℤ a.lo

-- a is at most w units wide
pub record IsNarrow (a : Ends) (w : ℕ) : Type 0 where
  pub width : width_of a ≤ℤ pos w

-- both ends have a magnitude below m
pub record IsBelow (a : Ends) (m : ℕ) : Type 0 where
  pub low : neg_ℤ (pos m) <ℤ a.lo
  pub high : a.hi <ℤ pos m
