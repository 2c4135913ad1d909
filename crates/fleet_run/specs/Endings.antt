-- How a run of the program over a fleet ends: its exit code, and what its two streams gained.
use Rattle.std.specs.Prelude.{◌≡◌, ◌≢◌, ◌↔◌, ℕ, IsSomeAnd}
use Rattle.std.specs.declared.option.Option.{Option}
use Rattle.std.specs.declared.option.Option.TheVariants.{None}
use Rattle.raim_base.specs.Causes.{GrowsByFront}
use Rattle.raim_base.specs.MemDeskState.{Each}
use Rattle.text_lines.specs.Lines.{Text}
use Rattle.raim_run.specs.declared.Status.{Status}
use Rattle.raim_run.specs.declared.Status.TheVariants.{Done, Usage, WriteFault, Memory}
use Rattle.raim_run.specs.Statuses.{number_of}
use Rattle.fleet_run.specs.Causes.{OfFleet, IsWholeWritten}
use Rattle.fleet_run.specs.Notes.{fleet_note}

-- the output and the error held the first of their texts, and hold the second; `holds` is what each path holds, where it is told
pub record FleetEnds (paths : Option (Each Text)) (holds : Text → Option Text) (output output' error error' : Option Text) (code : ℕ) : Type 0 where
  pub status : Status
  -- the exit code is the number of the status
  pub code_is : code ≡ number_of status
  pub usage : (status ≡ Usage) ↔ (paths ≡ None)
  -- the text of the fleet stands on the output where the run is done
  pub done : status ≡ Done → IsSomeAnd paths (λ ps. OfFleet holds ps (λ texts. IsWholeWritten texts output output'))
  pub unchanged : status ≢ Done → status ≢ WriteFault → status ≢ Memory → output' ≡ output
  -- the note stands on the error, or a front of it where a write failed
  pub note : GrowsByFront error error' (fleet_note status)
