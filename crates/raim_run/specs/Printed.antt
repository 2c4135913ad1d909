-- Runs that can be written.
use Rattle.std.specs.Prelude.{◌≡◌, ℕ, ℤ, List, All}
use Rattle.std.specs.declared.option.Option.{Option}
use Rattle.std.specs.declared.option.Option.TheVariants.{Some, None}
use Rattle.raim_model.specs.declared.Run.{Run}
use Rattle.raim_model.specs.Solution.{Case}
use Rattle.text_lines.specs.Lines.{Text}
use Rattle.report_text.specs.Report.{IsPrintable}
use Rattle.demo_texts.specs.Summary.{AreCountable}
use Rattle.gps_week.specs.GpsTime.{IsInstant}
use Rattle.command_words.specs.Asked.{Asked}
use Rattle.raim_run.specs.declared.status.Status.{Status}
use Rattle.raim_run.specs.declared.status.Status.TheVariants.{Overflow}
use Rattle.raim_run.specs.Answers.{AreFound}
use Rattle.raim_run.specs.Cases.{IsCaseOf}

-- the runs of the flight, under the leap seconds of the limits; each has a line, and their milliseconds can be counted
pub record ArePrintable (asked : Asked) (holds : Text → Option Text) (leap : ℕ) (runs : List Run) : Type 0 where
  pub case : Case
  pub leap_is : leap ≡ case.limits.leap
  pub found : AreFound asked holds case runs
  pub lines : All (IsPrintable leap) runs
  pub countable : AreCountable runs

-- an overflow of the case that the four files are, whose time has a text under the leap seconds of the limits
pub record IsTimed (asked : Asked) (holds : Text → Option Text) (leap : ℕ) (at : ℤ) : Type 0 where
  pub case : Case
  pub accepted : IsCaseOf asked holds case
  pub leap_is : leap ≡ case.limits.leap
  pub instant : IsInstant leap at

-- a status that has a note
abbrev pub HasNote : Asked → (Text → Option Text) → (leap : ℕ) → Status → Type 0
HasNote asked holds leap (Overflow at prn) = IsTimed asked holds leap at
HasNote asked holds leap status = Unit {0}

-- and whose note can be printed
abbrev pub IsNotable : (leap : ℕ) → Status → Type 0
IsNotable leap (Overflow at prn) = IsInstant leap at
IsNotable leap status = Unit {0}

-- where nothing is asked, nothing has a time
abbrev pub HasNoteOf : Option Asked → (Text → Option Text) → (leap : ℕ) → Status → Type 0
HasNoteOf None holds leap (Overflow at prn) = ⊥
HasNoteOf None holds leap status = Unit {0}
HasNoteOf (Some asked) holds leap status = HasNote asked holds leap status
