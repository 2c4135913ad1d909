-- Which quarter turns an interval of turns meets.
use Rattle.std.specs.Prelude.{ℤ, ◌≤ℤ◌}
use Rattle.fix_interval.specs.Ends.{Ends}
use Rattle.trig_laws.specs.SinCos.{nearest_quarter_of}

-- q is a quarter turn from the one nearest to the lower end to the one nearest to the upper end
pub record MeetsQuarter (u : Ends) (q : ℤ) : Type 0 where
  pub first : nearest_quarter_of u.lo ≤ℤ q
  pub last : q ≤ℤ nearest_quarter_of u.hi
