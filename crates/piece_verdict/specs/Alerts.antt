-- What a verdict is held against: the horizontal shift, under the alert limit of the limits, or the vertical shift, under one of its own.
use Rattle.std.specs.Prelude.{ℕ, ℤ, Bool, List}
use Rattle.raim_model.specs.declared.limits.Limits.{Limits}
use Rattle.raim_model.specs.declared.verdict.Run.{Run}
use Rattle.raim_model.specs.declared.verdict.Verdict.{Verdict}
use Rattle.raim_model.specs.CaseCuts.{MayBeJudged}
use Rattle.raim_model.specs.Ranges.{IsLength}
use Rattle.raim_model.specs.Solution.{Case, HasVerdictFor}
use Rattle.slope_laws.specs.declared.shift.Shift.{Shift}
use Rattle.slope_laws.specs.declared.shift.Shift.TheVariants as shift
use Rattle.slope_laws.specs.ShiftSlopes.{squared_shift, slopes_for}
use Rattle.case_laws.specs.Forecast.{IsForecastBy}
use Rattle.case_laws.specs.PieceVerdict.{verdict_by_test}
use Rattle.verdict_laws.specs.PieceVerdict.{piece_verdict_by}
use Rattle.piece_verdict.specs.declared.alert.Alert.{Alert}
use Rattle.piece_verdict.specs.declared.alert.Alert.TheVariants.{Horizontal, Vertical}
use Rattle.piece_verdict.specs.Hidden.{sight_knowing}

-- a limit of its own is from one millimetre to a million metres
abbrev pub IsAlert : Alert → Type 0
IsAlert Horizontal = Unit {0}
IsAlert (Vertical limit_mm) = IsLength limit_mm

abbrev pub shift_of : Alert → Shift
shift_of Horizontal = shift.Horizontal
shift_of (Vertical limit_mm) = shift.Vertical

-- the limit in millimetres
abbrev pub limit_for : Alert → Limits → ℕ
limit_for Horizontal limits = limits.alert_mm
limit_for (Vertical limit_mm) limits = limit_mm

abbrev pub limit_of : Alert → Case → ℕ
limit_of alert c = limit_for alert c.limits

-- the written verdict of a piece
abbrev pub verdict_against : Alert → Case → (first last : ℤ) → Verdict
verdict_against alert c first last = verdict_by_test (slopes_for (shift_of alert)) (limit_of alert c) c first last

-- that by what is seen where these satellites are known to be hidden
abbrev pub verdict_knowing : Alert → Case → (hidden : List Bool) → (first last : ℤ) → Verdict
verdict_knowing alert c hidden first last = piece_verdict_by (slopes_for (shift_of alert)) (limit_of alert c) (sight_knowing c hidden) c first last

-- every solution at every level has the verdict v at t
abbrev pub HasVerdictAgainst : Alert → Case → ℤ → Verdict → Type 0
HasVerdictAgainst alert c t v = HasVerdictFor (squared_shift (shift_of alert)) (limit_of alert c) c t v

-- the intervals of the flight
abbrev pub IsForecastAgainst : Alert → Case → List Run → Type 0
IsForecastAgainst alert c runs = IsForecastBy (squared_shift (shift_of alert)) (slopes_for (shift_of alert)) (limit_of alert c) c runs

-- a piece that may be judged, held against this
pub record MayBeJudgedAgainst (alert : Alert) (c : Case) (first last : ℤ) : Type 0 where
  pub judged : MayBeJudged c first last
  pub held : IsAlert alert
