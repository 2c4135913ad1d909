-- Why files were not read.
use Rattle.std.specs.Prelude.{◌≡◌, ℕ, List}
use Rattle.std.specs.declared.option.Option.{Option}
use Rattle.raim_model.specs.declared.FileNo.{FileNo}
use Rattle.raim_model.specs.declared.Span.{Span}
use Rattle.raim_model.specs.declared.TextWhy.{TextWhy}
use Rattle.raim_base.specs.Causes.{Rose}
use Rattle.raim_base.specs.MemDeskState.{Each}
use Rattle.text_lines.specs.Lines.{Text}
use Rattle.flight_files.specs.declared.stop.Stop.{Stop}
use Rattle.flight_files.specs.declared.stop.Stop.TheVariants.{Memory, Fault, TooLong, Refused}
use Rattle.flight_files.specs.Files.{HasLines, IsTooLong, AreAcceptedBefore, IsRefusedFirst, IsTooLongFirst}

-- no lines are refused
abbrev pub RefusesNothing : List Text → ℕ → TextWhy → Type 0
RefusesNothing lines line why = ⊥

-- why one file was not read: what its path holds where it is told, the count of its faults before and now, and what
-- refuses its lines
module _ (file : FileNo) (told : Option Text) (before now : ℕ) (RefusesLines : List Text → ℕ → TextWhy → Type 0) where
  abbrev pub FileCause : Stop → Type 0
  FileCause Memory = Unit {0}
  FileCause (Fault named) = (named ≡ file) × Rose before now
  FileCause (TooLong named) = (named ≡ file) × IsTooLong told
  FileCause (Refused named line why) = (named ≡ file) × HasLines told (λ lines. RefusesLines lines line why)

-- why the four files were not read: what each path holds where it is told, and the counts of faults before and now
module _ (holds : Text → Option Text) (paths : Each Text) (before now : FileNo → ℕ) where
  -- a call on this file failed, and the files that are read before it are accepted
  pub record IsFaultyFirst (faulty : FileNo) : Type 0 where
    pub leap : ℕ
    pub flight : Span
    pub accepted : AreAcceptedBefore holds paths faulty leap flight
    pub rose : Rose (before faulty) (now faulty)

  abbrev pub StopCause : Stop → Type 0
  StopCause Memory = Unit {0}
  StopCause (Fault file) = IsFaultyFirst file
  StopCause (TooLong file) = IsTooLongFirst holds paths file
  StopCause (Refused file line why) = IsRefusedFirst holds paths file line why
