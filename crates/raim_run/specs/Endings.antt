-- How a run of a program ends: its exit code, and what its two streams gained.
use Rattle.std.specs.Prelude.{◌≡◌, ◌≢◌, ◌⊎◌, ℕ, Option, None, IsSomeAnd}
use Rattle.text_lines.specs.Lines.{Text}
use Rattle.command_words.specs.declared.Program.{Program}
use Rattle.command_words.specs.Asked.{Asked}
use Rattle.raim_run.specs.declared.status.Status.{Status}
use Rattle.raim_run.specs.declared.status.Status.TheVariants.{Done, Usage, WriteFault, Memory}
use Rattle.raim_run.specs.Causes.{IsWritten}
use Rattle.raim_run.specs.Notes.{IsNoted}
use Rattle.raim_run.specs.Statuses.{number_of}

-- the output and the error held the first of their texts, and hold the second; `holds` is what each path holds, where it is told
pub record EndsWith (program : Program) (asked : Option Asked) (holds : Text → Option Text) (output output' error error' : Option Text) (code : ℕ) : Type 0 where
  pub status : Status
  -- the exit code is the number of the status
  pub code_is : code ≡ number_of status
  pub usage : status ≡ Usage → asked ≡ None
  pub nothing_asked : asked ≡ None → (status ≡ Usage) ⊎ (status ≡ Memory)
  -- the answer stands on the output where the run is done, and a front of it at most where a write failed
  pub done : status ≡ Done → IsSomeAnd asked (λ asked. IsWritten asked holds output output')
  pub unchanged : status ≢ Done → status ≢ WriteFault → output' ≡ output
  -- the note stands on the error, or a front of it where a write failed
  pub note : IsNoted program asked holds status error error'
