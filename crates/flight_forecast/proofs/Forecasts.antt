-- What the runs of a case's flight say.
use Rattle.std.specs.Prelude.{◌≡◌, ℕ, ◌≤◌, ℤ, true, List, [], ◌∷◌, Contains}
use Rattle.std.proofs.lemmas.List.Elements.{All-contains}
use Rattle.raim_model.specs.declared.almanac.AlmRecord.{AlmRecord}
use Rattle.raim_model.specs.declared.limits.Limits.{Limits}
use Rattle.raim_model.specs.declared.outage.Outage.{Outage}
use Rattle.raim_model.specs.declared.waypoint.Waypoint.{Waypoint}
use Rattle.raim_model.specs.declared.verdict.Cmp.TheVariants.{Mask}
use Rattle.raim_model.specs.declared.verdict.Run.{Run}
use Rattle.raim_model.specs.declared.verdict.Verdict.TheVariants.{Undecided}
use Rattle.raim_model.specs.AlmanacRanges.{AreAlmanacs}
use Rattle.raim_model.specs.CaseRanges.{IsCase}
use Rattle.raim_model.specs.Cuts.{AreCuts}
use Rattle.raim_model.specs.Judgements.{is_certain}
use Rattle.raim_model.specs.Level.{Level}
use Rattle.raim_model.specs.Ranges.{IsLimits, AreOutages, IsRoute}
use Rattle.raim_model.specs.Route.{flight_of}
use Rattle.raim_model.specs.Runs.{HasRuns, HasTooManyRuns, OverflowsFirst}
use Rattle.raim_model.specs.Solution.{Case, InFlight, Solution}
use Rattle.slope_laws.specs.ShiftSlopes.{squared_shift, slopes_for}
use Rattle.slope_laws.proofs.ShiftSlopes.{shift_holds}
use Rattle.verdict_laws.specs.NearMask.{IsNearMaskAlways}
use Rattle.verdict_laws.proofs.Existence.{solution}
use Rattle.case_laws.specs.Forecast.{InRun, IsRight}
use Rattle.case_laws.proofs.Choices.{has_choices}
use Rattle.case_laws.proofs.Forecasts.{forecast}
use Rattle.piece_verdict.specs.Cases.{case_of}
use Rattle.piece_verdict.specs.declared.Alert.{Alert}
use Rattle.piece_verdict.specs.Alerts.{MayBeJudgedAgainst}
use Rattle.piece_verdict.specs.AlertLaws.{some_limit}
use Rattle.flight_forecast.specs.Alerts.{IsAlert, shift_of, limit_of, verdict_against, HasVerdictAgainst, IsForecastAgainst}

-- what splitting the flight of a case says
abbrev pub RunsOf : Alert → List Run → Case → Type 0
RunsOf alert runs c = HasRuns (verdict_against alert c) (flight_of c.route).first (flight_of c.route).end runs

abbrev pub ManyRunsOf : Alert → Case → Type 0
ManyRunsOf alert c = HasTooManyRuns (verdict_against alert c) (flight_of c.route).first (flight_of c.route).end

abbrev pub OverflowOf : Alert → ℤ → ℕ → Case → Type 0
OverflowOf alert at prn c = OverflowsFirst (verdict_against alert c) (flight_of c.route).first (flight_of c.route).end at prn

-- what accepted files give is in the ranges of a case
pub is_case : (limits : Limits) (almanacs : List (List AlmRecord)) (outages : List Outage) (route : List Waypoint) → IsLimits limits → AreAlmanacs (flight_of route) almanacs → AreOutages outages → IsRoute route → IsCase (case_of limits almanacs outages route)
is_case limits almanacs outages route l a o r = record { limits = l; almanacs = a; outages = o; route = r }

-- a case whose root pieces may be judged is in its ranges
pub judged_case : (alert : Alert) (c : Case) (cuts : List ℤ) → AreCuts (MayBeJudgedAgainst alert c) cuts → IsCase c
judged_case alert c [] h = absurd h
judged_case alert c (only ∷ []) h = absurd h
judged_case alert c (first ∷ next ∷ cuts) h = h.2.judged.case

pub are_a_forecast : (alert : Alert) → IsAlert alert → (c : Case) → IsCase c → (runs : List Run) → RunsOf alert runs c → IsForecastAgainst alert c runs
are_a_forecast alert a c i runs h =
    forecast (squared_shift (shift_of alert)) (slopes_for (shift_of alert)) (shift_holds (shift_of alert)) (limit_of alert c) (some_limit alert a c i) c i runs h.cut

-- a certain run is right at each of its milliseconds
pub certain_right : (alert : Alert) (c : Case) (runs : List Run) → IsForecastAgainst alert c runs → (run : Run) (t : ℤ) → Contains runs run → is_certain run.verdict ≡ true → InRun run t → HasVerdictAgainst alert c t run.verdict
certain_right alert c runs f run t m certain inside = (All-contains (IsRight (squared_shift (shift_of alert)) (limit_of alert c) c) runs run f.right m).certain certain t inside

-- a run undecided by the mask is near equality at each of its milliseconds
pub mask_near : (alert : Alert) (c : Case) (runs : List Run) → IsForecastAgainst alert c runs → (run : Run) (prn : ℕ) (t : ℤ) → Contains runs run → run.verdict ≡ Undecided (Mask prn) → InRun run t → IsNearMaskAlways c t prn
mask_near alert c runs f run prn t m e inside = (All-contains (IsRight (squared_shift (shift_of alert)) (limit_of alert c) c) runs run f.right m).near prn e t inside

pub has_solution : (c : Case) → IsCase c → (N : Level) (t : ℤ) → InFlight c t → Solution N c t
has_solution c i N t f = solution c (has_choices c i) N t f
