-- What the answer to the words of `raim_vert` says.
use Rattle.std.specs.Prelude.{◌≡◌, ◌↔◌, ℕ, ℤ, true, List, Contains}
use Rattle.std.specs.declared.option.Option.{Option}
use Rattle.raim_model.specs.declared.Cmp.{Cmp}
use Rattle.raim_model.specs.declared.Run.{Run}
use Rattle.raim_model.specs.declared.Verdict.TheVariants.{Undecided}
use Rattle.raim_model.specs.Judgements.{is_certain}
use Rattle.raim_model.specs.Route.{flight_of}
use Rattle.raim_model.specs.Runs.{HasRuns, HasTooManyRuns, OverflowsFirst}
use Rattle.raim_model.specs.Solution.{Case, InFlight, HasVerticalVerdict}
use Rattle.raim_base.specs.MemDeskState.{Each}
use Rattle.text_lines.specs.Lines.{Text}
use Rattle.report_text.specs.Report.{IsReport}
use Rattle.case_laws.specs.Forecast.{InRun, LiesInRun}
use Rattle.case_laws.specs.PieceVerdict.{vertical_piece_verdict_of}
use Rattle.flight_files.specs.Files.{AreAcceptedFiles}
use Rattle.command_words.specs.Asked.Asked.{PredictionUp}
use Rattle.raim_run.specs.Answers.{IsAnswer}
use Rattle.raim_run.specs.Causes.{IsOverflowing, IsManifold}

-- The text is the report of runs of the case that the files under these paths are; `holds` is what each path holds, where it is told.
pub record IsVerticalAnswer (paths : Each Text) (vertical_mm : ℕ) (holds : Text → Option Text) (text : Text) : Type 0 where
  pub case : Case
  pub runs : List Run
  pub accepted : AreAcceptedFiles holds paths case.limits case.route case.outages case.almanacs
  pub written : IsReport case.limits.leap runs text
  -- the runs are those of the written vertical verdict of each millisecond
  pub runs_are : HasRuns (vertical_piece_verdict_of vertical_mm case) (flight_of case.route).first (flight_of case.route).end runs
  -- Available, or Unavailable for a reason: at each millisecond of the run, every solution at every level has that vertical verdict
  pub right : (run : Run) (t : ℤ) → Contains runs run → is_certain run.verdict ≡ true → InRun run t → HasVerticalVerdict case vertical_mm t run.verdict
  -- a millisecond is in a run Undecided exactly where its written vertical verdict is, by the same comparison
  pub undecided : (t : ℤ) (comparison : Cmp) → InFlight case t → (LiesInRun runs t (Undecided comparison) ↔ (vertical_piece_verdict_of vertical_mm case t t ≡ Undecided comparison))

abbrev pub TellsVertical : Type 0
TellsVertical = (paths : Each Text) (vertical_mm : ℕ) (holds : Text → Option Text) (text : Text)
    → IsAnswer (PredictionUp paths vertical_mm) holds text → IsVerticalAnswer paths vertical_mm holds text

-- a first millisecond whose written vertical verdict overflows
abbrev pub OverflowsVertically : Type 0
OverflowsVertically = (paths : Each Text) (vertical_mm : ℕ) (holds : Text → Option Text) (at : ℤ) (prn : ℕ) → IsOverflowing (PredictionUp paths vertical_mm) holds at prn
    → (c : Case) × AreAcceptedFiles holds paths c.limits c.route c.outages c.almanacs × OverflowsFirst (vertical_piece_verdict_of vertical_mm c) (flight_of c.route).first (flight_of c.route).end at prn

-- more runs of written vertical verdicts than a flight may have
abbrev pub HasTooManyVertically : Type 0
HasTooManyVertically = (paths : Each Text) (vertical_mm : ℕ) (holds : Text → Option Text) → IsManifold (PredictionUp paths vertical_mm) holds
    → (c : Case) × AreAcceptedFiles holds paths c.limits c.route c.outages c.almanacs × HasTooManyRuns (vertical_piece_verdict_of vertical_mm c) (flight_of c.route).first (flight_of c.route).end
