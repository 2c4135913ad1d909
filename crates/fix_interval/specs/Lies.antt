-- What an interval holds: fractions, at a scale.
use Rattle.std.specs.Prelude.{ℕ, ◌^◌}
use Rattle.fractions.specs.Fraction.{Fraction, ratio, ◌≤ᶠ◌}
use Rattle.fix_interval.specs.Ends.{Ends}

-- the fraction x is one of those that a holds at scale s: from lo 2^-s to hi 2^-s
pub record Lies (a : Ends) (s : ℕ) (x : Fraction) : Type 0 where
  pub low : ratio a.lo (2 ^ s) ≤ᶠ x
  pub high : x ≤ᶠ ratio a.hi (2 ^ s)
