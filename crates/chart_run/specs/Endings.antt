-- How a run of the program ends: its exit code, and what its two streams gained.
use Rattle.std.specs.Prelude.{◌≡◌, ◌≢◌, ◌↔◌, ℕ, IsSomeAnd}
use Rattle.std.specs.declared.option.Option.{Option}
use Rattle.std.specs.declared.option.Option.TheVariants.{None}
use Rattle.raim_base.specs.Causes.{GrowsByFront}
use Rattle.text_lines.specs.Lines.{Text}
use Rattle.chart_run.specs.declared.status.ChartStatus.{ChartStatus}
use Rattle.chart_run.specs.declared.status.ChartStatus.TheVariants.{Done, Usage, WriteFault}
use Rattle.chart_run.specs.Causes.{OfReport, IsWholeWritten}
use Rattle.chart_run.specs.Notes.{note_of}
use Rattle.chart_run.specs.Statuses.{number_of}

-- the output and the error held the first of their texts, and hold the second; `holds` is what each path holds, where it is told
pub record ChartEnds (path : Option Text) (holds : Text → Option Text) (output output' error error' : Option Text) (code : ℕ) : Type 0 where
  pub status : ChartStatus
  -- the exit code is the number of the status
  pub code_is : code ≡ number_of status
  pub usage : (status ≡ Usage) ↔ (path ≡ None)
  -- the page of what the file says stands on the output where the run is done
  pub done : status ≡ Done → IsSomeAnd path (λ p. OfReport (holds p) (λ page. IsWholeWritten page output output'))
  pub unchanged : status ≢ Done → status ≢ WriteFault → output' ≡ output
  -- the note stands on the error, or a front of it where a write failed
  pub note : GrowsByFront error error' (note_of status)
