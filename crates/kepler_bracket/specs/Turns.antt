-- Which whole turns an interval of turns meets.
use Rattle.std.specs.Prelude.{ℤ, ◌≤ℤ◌}
use Rattle.fix_interval.specs.Ends.{Ends}
use Rattle.kepler_laws.specs.EccentricSine.{nearest_turn_of}

-- w is a whole turn from the one nearest to the lower end to the one nearest to the upper end
pub record MeetsTurn (u : Ends) (w : ℤ) : Type 0 where
  pub first : nearest_turn_of u.lo ≤ℤ w
  pub last : w ≤ℤ nearest_turn_of u.hi
