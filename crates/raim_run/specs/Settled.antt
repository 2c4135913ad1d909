-- What the status is where the bytes of the four files are told.
use Rattle.std.specs.Prelude.{◌≡◌, ◌≢◌, ◌≤◌, ◌⊎◌, ℕ, ℤ, List}
use Rattle.std.specs.declared.option.Option.{Option}
use Rattle.raim_model.specs.declared.FileNo.{FileNo}
use Rattle.raim_model.specs.declared.FileNo.TheVariants.{Almanac}
use Rattle.raim_model.specs.declared.Run.{Run}
use Rattle.raim_model.specs.declared.TextWhy.{TextWhy}
use Rattle.raim_model.specs.Route.{flight_of}
use Rattle.raim_model.specs.Runs.{HasRuns, HasTooManyRuns, OverflowsFirst}
use Rattle.raim_model.specs.Solution.{Case}
use Rattle.raim_base.specs.Causes.{Rose}
use Rattle.text_lines.specs.Lines.{Text}
use Rattle.flight_files.specs.Order.{place_of}
use Rattle.flight_files.specs.Settled.{AreTold}
use Rattle.flight_forecast.specs.Words.{verdict_against}
use Rattle.command_words.specs.Asked.{Asked}
use Rattle.raim_run.specs.declared.status.Status.{Status}
use Rattle.raim_run.specs.declared.status.Status.TheVariants.{Done, Refused, ReadFault, WriteFault, Overflow, TooManyRuns, Memory}
use Rattle.raim_run.specs.Alerts.{alert_of}
use Rattle.raim_run.specs.Cases.{IsCaseOf}
use Rattle.raim_run.specs.Sources.{paths_of, told_of}
use Rattle.raim_run.specs.Stopped.{IsRefused}

-- the status is no fault of this file, or of one that is read before it
abbrev pub IsFaultlessUpTo : FileNo → Status → Type 0
IsFaultlessUpTo last status = (file : FileNo) → place_of file ≤ place_of last → status ≢ ReadFault file

-- what is asked, and what each path holds, where it is told
module _ (asked : Asked) (holds : Text → Option Text) where
  -- the bytes settle the status, up to faults of reading and of writing
  pub record IsSettled (status : Status) : Type 0 where
    pub refused : (file : FileNo) (line : ℕ) (why : TextWhy) → IsRefused asked holds file line why → IsFaultlessUpTo file status → status ≡ Refused file line why
    pub answered : (c : Case) (runs : List Run) → IsCaseOf asked holds c → HasRuns (verdict_against (alert_of asked) c) (flight_of c.route).first (flight_of c.route).end runs
        → IsFaultlessUpTo Almanac status → (status ≡ Done) ⊎ (status ≡ WriteFault)
    pub overflow : (c : Case) (at : ℤ) (prn : ℕ) → IsCaseOf asked holds c → OverflowsFirst (verdict_against (alert_of asked) c) (flight_of c.route).first (flight_of c.route).end at prn
        → IsFaultlessUpTo Almanac status → status ≡ Overflow at prn
    pub too_many : (c : Case) → IsCaseOf asked holds c → HasTooManyRuns (verdict_against (alert_of asked) c) (flight_of c.route).first (flight_of c.route).end
        → IsFaultlessUpTo Almanac status → status ≡ TooManyRuns

  -- where the bytes are told, and the status is not want of memory
  abbrev pub Settles : Status → Type 0
  Settles status = AreTold (told_of asked holds) (paths_of asked) → status ≢ Memory → IsSettled status

  -- What is accepted and has runs, no more than a flight may have and none that overflows, is done where no count of faults rose,
  -- before and now, but for want of memory: those of the files, and that of the output.
  abbrev pub Completes : (before now : FileNo → ℕ) (failed fails : ℕ) → Status → Type 0
  Completes before now failed fails status = AreTold (told_of asked holds) (paths_of asked)
      → (c : Case) (runs : List Run) → IsCaseOf asked holds c → HasRuns (verdict_against (alert_of asked) c) (flight_of c.route).first (flight_of c.route).end runs
      → ((file : FileNo) → Rose (before file) (now file) → ⊥) → (Rose failed fails → ⊥) → (status ≡ Done) ⊎ (status ≡ Memory)
