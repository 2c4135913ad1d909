-- The intervals of a flight, and what they say.
use Rattle.std.specs.Prelude.{◌≡◌, ◌↔◌, ℕ, ℤ, ◌≤ℤ◌, ◌<ℤ◌, true, List, All, Contains}
use Rattle.raim_model.specs.declared.verdict.Cmp.{Cmp}
use Rattle.raim_model.specs.declared.verdict.Cmp.TheVariants.{Mask}
use Rattle.raim_model.specs.declared.verdict.Run.{Run}
use Rattle.raim_model.specs.declared.verdict.Verdict.{Verdict}
use Rattle.raim_model.specs.declared.verdict.Verdict.TheVariants.{Undecided}
use Rattle.raim_model.specs.Geometry.{SquaredShift, horizontal, vertical}
use Rattle.raim_model.specs.Judgements.{is_certain}
use Rattle.raim_model.specs.Route.{flight_of}
use Rattle.raim_model.specs.Runs.{AreRuns}
use Rattle.raim_model.specs.Solution.{Case, InFlight, HasVerdictFor}
use Rattle.slope_laws.specs.declared.shift.Shift.TheVariants.{Horizontal, Vertical}
use Rattle.slope_laws.specs.Slopes.{SlopeTest}
use Rattle.slope_laws.specs.ShiftSlopes.{slopes_for}
use Rattle.verdict_laws.specs.NearMask.{IsNearMaskAlways}
use Rattle.case_laws.specs.PieceVerdict.{verdict_by_test}

-- t is a millisecond of the run
pub record InRun (run : Run) (t : ℤ) : Type 0 where
  pub started : run.first ≤ℤ t
  pub not_over : t <ℤ run.end

-- what a run says is so
pub record IsRight (shift : SquaredShift) (alert_mm : ℕ) (c : Case) (run : Run) : Type 0 where
  -- Available or Unavailable: every solution of the model, at every level, of each of its milliseconds has that verdict
  pub certain : is_certain run.verdict ≡ true → (t : ℤ) → InRun run t → HasVerdictFor shift alert_mm c t run.verdict
  -- undecided by the mask: every solution of each of its milliseconds has the satellite at 1 Mm or at the mask, to 2^-15 Mm
  pub near : (prn : ℕ) → run.verdict ≡ Undecided (Mask prn) → (t : ℤ) → InRun run t → IsNearMaskAlways c t prn

-- t lies in a run of the verdict v
pub record LiesInRun (runs : List Run) (t : ℤ) (v : Verdict) : Type 0 where
  pub run : Run
  pub listed : Contains runs run
  pub inside : InRun run t
  pub verdict : run.verdict ≡ v

-- the intervals of the flight, for a squared shift, its test of slopes and its alert limit in millimetres
pub record IsForecastBy (shift : SquaredShift) (test : SlopeTest) (alert_mm : ℕ) (c : Case) (runs : List Run) : Type 0 where
  -- they part the flight in order, neighbours differ, and each has the written verdict of each of its milliseconds
  pub parts : AreRuns (verdict_by_test test alert_mm c) (flight_of c.route).first (flight_of c.route).end runs
  pub right : All (IsRight shift alert_mm c) runs
  -- undecided exactly where the written verdict of the single millisecond is, by the same comparison
  pub undecided : (t : ℤ) (comparison : Cmp) → InFlight c t → (LiesInRun runs t (Undecided comparison) ↔ (verdict_by_test test alert_mm c t t ≡ Undecided comparison))

-- the horizontal forecast
abbrev pub IsForecast : Case → List Run → Type 0
IsForecast c runs = IsForecastBy horizontal (slopes_for Horizontal) c.limits.alert_mm c runs

-- the vertical forecast
abbrev pub IsVerticalForecast : (alert_mm : ℕ) → Case → List Run → Type 0
IsVerticalForecast alert_mm c runs = IsForecastBy vertical (slopes_for Vertical) alert_mm c runs
