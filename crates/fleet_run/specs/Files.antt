-- The four files of a fleet, read whole in the order limits, routes, outages, almanac.
use Rattle.std.specs.Prelude.{◌≡◌, ◌≤◌, ◌<◌, ℕ, length, IfSome}
use Rattle.std.specs.declared.option.Option.{Option}
use Rattle.raim_model.specs.declared.FileNo.{FileNo}
use Rattle.raim_model.specs.declared.TextWhy.TheVariants.{FileTooLong}
use Rattle.raim_base.specs.Causes.{Rose}
use Rattle.raim_base.specs.MemDeskState.{Each, of_file}
use Rattle.raim_base.specs.Sizes.{longest_file}
use Rattle.text_lines.specs.Lines.{Text}
use Rattle.flight_files.specs.Files.{IsTooLong}
use Rattle.flight_files.specs.Order.{place_of}
use Rattle.raim_run.specs.declared.Status.{Status}
use Rattle.raim_run.specs.declared.Status.TheVariants.{Refused, ReadFault, Memory}

-- a file has no more bytes than a file may have; of bytes that are not told nothing is said
abbrev pub IsShort : Option Text → Type 0
IsShort told = IfSome told (λ bytes. length bytes ≤ longest_file)

-- what each path holds, where it is told, and the four paths
module _ (holds : Text → Option Text) (paths : Each Text) where
  -- the files that are read before this one are short enough
  abbrev pub AreShortBefore : FileNo → Type 0
  AreShortBefore file = (other : FileNo) → place_of other < place_of file → IsShort (holds (of_file paths other))

  -- the four files were read, and have these texts
  pub record AreRead (texts : Each Text) : Type 0 where
    pub told : (file : FileNo) → IfSome (holds (of_file paths file)) (λ bytes. bytes ≡ of_file texts file)
    pub short : (file : FileNo) → length (of_file texts file) ≤ longest_file

  -- this file is the first that has too many bytes
  pub record IsLongFirst (file : FileNo) : Type 0 where
    pub long : IsTooLong (holds (of_file paths file))
    pub before : AreShortBefore file

  -- a call on this file failed, since its count of faults, past and now, rose; those that are read before it are short enough
  pub record IsFaulty (past now : FileNo → ℕ) (file : FileNo) : Type 0 where
    pub rose : Rose (past file) (now file)
    pub before : AreShortBefore file

-- why one file was not read: what its path holds where it is told, and the count of its faults before and now
abbrev pub FileStops : FileNo → Option Text → (before now : ℕ) → Status → Type 0
FileStops file told before now (Refused named line why) = (named ≡ file) × (line ≡ 0) × (why ≡ FileTooLong) × IsTooLong told
FileStops file told before now (ReadFault named) = (named ≡ file) × Rose before now
FileStops file told before now Memory = Unit {0}
FileStops file told before now status = ⊥
