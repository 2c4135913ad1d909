-- What there has to be to choose from, at every level, for a solution to exist.
use Rattle.std.specs.Prelude.{ℤ}
use Rattle.fractions.specs.Fraction.{Fraction, zeroᶠ, ◌≤ᶠ◌}
use Rattle.raim_model.specs.declared.almanac.AlmRecord.{AlmRecord}
use Rattle.raim_model.specs.Level.{Level}
use Rattle.raim_model.specs.Root.{IsRoot}
use Rattle.raim_model.specs.Sine.{IsSine}
use Rattle.raim_model.specs.Orbit.{OrbitSolution}
use Rattle.raim_model.specs.Receiver.{OnLeg, place_on, ReceiverSolution}
use Rattle.raim_model.specs.Solution.{Case, InFlight}
use Rattle.raim_model.specs.CaseRanges.{IsListed}

-- an orbit of each record, a receiver on each leg, a sine of each angle and a root of what is not negative
pub record HasChoices (c : Case) : Type 0 where
  pub orbit : (N : Level) (t : ℤ) → InFlight c t → (rec : AlmRecord) → IsListed c rec → OrbitSolution N rec t
  pub receiver : (N : Level) (t : ℤ) (leg : OnLeg c.route t) → ReceiverSolution N (place_on leg)
  pub sine : (N : Level) (u : Fraction) → (s : Fraction) × IsSine N u s
  pub root : (N : Level) (x : Fraction) → zeroᶠ ≤ᶠ x → (w : Fraction) × IsRoot N x w
