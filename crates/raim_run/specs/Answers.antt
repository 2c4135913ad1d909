-- The text that a run writes, and what it says of the flight.
use Rattle.std.specs.Prelude.{◌≡◌, ◌↔◌, ℕ, ℤ, true, List, Contains}
use Rattle.std.specs.declared.option.Option.{Option}
use Rattle.raim_model.specs.declared.Cmp.{Cmp}
use Rattle.raim_model.specs.declared.Cmp.TheVariants.{Mask}
use Rattle.raim_model.specs.declared.Run.{Run}
use Rattle.raim_model.specs.declared.Verdict.TheVariants.{Undecided}
use Rattle.raim_model.specs.Judgements.{is_certain}
use Rattle.raim_model.specs.Level.{Level}
use Rattle.raim_model.specs.Route.{flight_of}
use Rattle.raim_model.specs.Runs.{HasRuns}
use Rattle.raim_model.specs.Solution.{Case, InFlight, Solution}
use Rattle.text_lines.specs.Lines.{Text}
use Rattle.report_text.specs.Report.{IsReport}
use Rattle.demo_texts.specs.Summary.{summary_text}
use Rattle.flight_forecast.specs.InOrder.{CoverInOrder}
use Rattle.flight_forecast.specs.Words.{InRun, LiesInRun, IsNearMaskAlways, verdict_against, HasVerdictAgainst}
use Rattle.command_words.specs.Asked.{Asked}
use Rattle.command_words.specs.Asked.Asked.{Prediction, Demonstration, PredictionUp}
use Rattle.raim_run.specs.Alerts.{alert_of}
use Rattle.raim_run.specs.Cases.{IsCaseOf}

-- how the runs of a flight are written: as a report of a prediction, with times of UTC, and as the line of a demonstration
abbrev pub AreWritten : Asked → (leap : ℕ) → List Run → Text → Type 0
AreWritten (Prediction paths) leap runs text = IsReport leap runs text
AreWritten (Demonstration number) leap runs text = text ≡ summary_text number runs
AreWritten (PredictionUp paths vertical_mm) leap runs text = IsReport leap runs text

-- The runs of the flight, and what they say is so. Verdicts are held against the alert limit that is asked for.
pub record AreFound (asked : Asked) (holds : Text → Option Text) (c : Case) (runs : List Run) : Type 0 where
  -- the four files are accepted, and say this case
  pub accepted : IsCaseOf asked holds c
  -- the runs are those of the written verdict of each millisecond: the first starts with the flight, each starts where the one
  -- before it ends and has another verdict, and the last ends with the flight
  pub runs_are : HasRuns (verdict_against (alert_of asked) c) (flight_of c.route).first (flight_of c.route).end runs
  pub in_order : CoverInOrder (flight_of c.route) runs
  -- Available, or Unavailable for a reason: at each millisecond of the run, every solution at every level has that verdict
  pub right : (run : Run) (t : ℤ) → Contains runs run → is_certain run.verdict ≡ true → InRun run t → HasVerdictAgainst (alert_of asked) c t run.verdict
  -- a millisecond is in a run Undecided exactly where its written verdict is, by the same comparison
  pub undecided : (t : ℤ) (comparison : Cmp) → InFlight c t → (LiesInRun runs t (Undecided comparison) ↔ (verdict_against (alert_of asked) c t t ≡ Undecided comparison))
  -- undecided by the mask of a satellite: every solution at every level has it at 1 Mm or at the mask, to 2^-15 Mm
  pub near : (run : Run) (prn : ℕ) (t : ℤ) → Contains runs run → run.verdict ≡ Undecided (Mask prn) → InRun run t → IsNearMaskAlways c t prn
  -- at every level and millisecond of the flight there is a solution
  pub exists : (level : Level) (t : ℤ) → InFlight c t → Solution level c t

-- the text answers what is asked: it says the runs of the flight of the case that the four files are
pub record IsAnswer (asked : Asked) (holds : Text → Option Text) (text : Text) : Type 0 where
  pub case : Case
  pub runs : List Run
  pub found : AreFound asked holds case runs
  -- under the leap seconds of the limits
  pub written : AreWritten asked case.limits.leap runs text
