-- The report of a flight, and the first of its lines that is refused. Times are milliseconds of UTC.
use Rattle.std.specs.Prelude.{◌≡◌, ◌≢◌, ◌⊎◌, ◌+ℤ◌, ◌<ℤ◌, ℕ, ℤ, pos, List, ◌∷◌, ◌++◌, length, All}
use Rattle.raim_model.specs.Constants.{day_ms}
use Rattle.raim_model.specs.declared.Run.{Run}
use Rattle.raim_model.specs.declared.TextWhy.{TextWhy}
use Rattle.raim_model.specs.declared.TextWhy.TheVariants.{NotRising, TooLong}
use Rattle.text_lines.specs.Lines.{Text}
use Rattle.text_lines.specs.Reading.{Refuses, number_after}
use Rattle.report_text.specs.Report.{IsReport, IsReadable}
use Rattle.report_text.specs.ReportLines.{report_lines, pieces_of}
use Rattle.report_chart.specs.Chart.{IsFlight, end_after}

-- why a run cannot follow runs that end there, in a flight from that start: it starts elsewhere, or ends more than a day
-- after the start
abbrev pub CannotFollow : (start end : ℤ) → Run → TextWhy → Type 0
CannotFollow start end run why =
    ((why ≡ NotRising) × (run.first ≢ end)) ⊎ ((why ≡ TooLong) × (run.first ≡ end) × ((start +ℤ pos day_ms) <ℤ run.end))

-- the first run that is no part of a flight with those before it, by its number from 1
pub record BreaksFlight (runs : List Run) (number : ℕ) (why : TextWhy) : Type 0 where
  pub first : Run
  pub later : List Run
  pub starts : runs ≡ first ∷ later
  pub done : List Run
  pub run : Run
  pub rest : List Run
  pub split : runs ≡ done ++ run ∷ rest
  pub before : IsFlight done
  pub here : CannotFollow first.first (end_after first.first done) run why
  pub numbered : number ≡ number_after (length done)

-- The text is no report of a flight, first at this line for this cause: it is refused as a report, or it is the report of
-- runs that are no flight.
abbrev pub RefusesFlight : Text → ℕ → TextWhy → Type 0
RefusesFlight text line why =
    Refuses (report_lines 0) (pieces_of text) line why ⊎ ((runs : List Run) × IsReport 0 runs text × All IsReadable runs × BreaksFlight runs line why)
