-- The cause of each status but Usage.
use Rattle.std.specs.Prelude.{◌≡◌, ◌⊎◌, ℕ, ℤ}
use Rattle.std.specs.declared.option.Option.{Option}
use Rattle.std.specs.Io.KnownBytes.{Appends}
use Rattle.raim_model.specs.declared.FileNo.{FileNo}
use Rattle.raim_model.specs.Route.{flight_of}
use Rattle.raim_model.specs.Runs.{HasTooManyRuns, OverflowsFirst}
use Rattle.raim_model.specs.Solution.{Case}
use Rattle.raim_base.specs.Causes.{Rose, GrowsByFront}
use Rattle.text_lines.specs.Lines.{Text}
use Rattle.flight_forecast.specs.Words.{verdict_against}
use Rattle.command_words.specs.Asked.{Asked}
use Rattle.raim_run.specs.declared.status.Status.{Status}
use Rattle.raim_run.specs.declared.status.Status.TheVariants.{Done, Usage, Refused, ReadFault, WriteFault, Overflow, TooManyRuns, Memory}
use Rattle.raim_run.specs.Answers.{IsAnswer}
use Rattle.raim_run.specs.Alerts.{alert_of}
use Rattle.raim_run.specs.Cases.{IsCaseOf}
use Rattle.raim_run.specs.Stopped.{IsRefused, IsFaulty, IsFromFiles}

module _ (asked : Asked) (holds : Text → Option Text) where
  -- the files are a case in which this millisecond of the flight is the first that overflows, for this satellite
  pub record IsOverflowing (at : ℤ) (prn : ℕ) : Type 0 where
    pub case : Case
    pub accepted : IsCaseOf asked holds case
    pub first : OverflowsFirst (verdict_against (alert_of asked) case) (flight_of case.route).first (flight_of case.route).end at prn

  -- the files are a case whose flight has more runs than a flight may have
  pub record IsManifold : Type 0 where
    pub case : Case
    pub accepted : IsCaseOf asked holds case
    pub many : HasTooManyRuns (verdict_against (alert_of asked) case) (flight_of case.route).first (flight_of case.route).end

  -- the whole answer was written
  pub record IsWritten (old new : Option Text) : Type 0 where
    pub text : Text
    pub answer : IsAnswer asked holds text
    pub gained : Appends old new text

  -- a front of the answer was written, and then a write failed
  pub record IsCutOff (old new : Option Text) (failed fails : ℕ) : Type 0 where
    pub text : Text
    pub answer : IsAnswer asked holds text
    pub gained : GrowsByFront old new text
    pub rose : Rose failed fails

-- of what is asked, what each path holds, where it is told, and the counts of the desk's faults before and now
module _ (asked : Asked) (holds : Text → Option Text) (before now : FileNo → ℕ) where
  -- the cause of a status that comes before anything is written
  abbrev pub NoRunsCause : Status → Type 0
  NoRunsCause Done = ⊥
  NoRunsCause Usage = ⊥
  NoRunsCause (Refused file line why) = IsRefused asked holds file line why
  NoRunsCause (ReadFault file) = IsFromFiles asked × IsFaulty asked holds before now file
  NoRunsCause WriteFault = ⊥
  NoRunsCause (Overflow at prn) = IsOverflowing asked holds at prn
  NoRunsCause TooManyRuns = IsManifold asked holds
  NoRunsCause Memory = Unit {0}

-- Of what is asked: what each path holds, where it is told, the counts of the desk's faults before and now, and what the
-- output held and had failed before and now.
module _ (asked : Asked) (holds : Text → Option Text) (before now : FileNo → ℕ) (old new : Option Text) (failed fails : ℕ) where
  abbrev pub StatusCause : Status → Type 0
  StatusCause Done = IsWritten asked holds old new
  StatusCause Usage = ⊥
  StatusCause (Refused file line why) = IsRefused asked holds file line why
  StatusCause (ReadFault file) = IsFromFiles asked × IsFaulty asked holds before now file
  StatusCause WriteFault = IsCutOff asked holds old new failed fails
  StatusCause (Overflow at prn) = IsOverflowing asked holds at prn
  StatusCause TooManyRuns = IsManifold asked holds
  StatusCause Memory = Unit {0}

-- where nothing is asked the status is Usage, but for want of memory
abbrev pub NothingAsked : Status → Type 0
NothingAsked status = (status ≡ Usage) ⊎ (status ≡ Memory)
