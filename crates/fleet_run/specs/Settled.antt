-- What the status is where the bytes of the four files are told.
use Rattle.std.specs.Prelude.{◌≡◌, ◌≢◌, ◌≤◌, ◌⊎◌, ℕ, length}
use Rattle.std.specs.declared.option.Option.{Option}
use Rattle.std.specs.declared.option.Option.TheVariants.{Some, None}
use Rattle.raim_model.specs.declared.FileNo.{FileNo}
use Rattle.raim_model.specs.declared.FileNo.TheVariants.{Almanac, Route}
use Rattle.raim_model.specs.declared.TextWhy.TheVariants.{FileTooLong, TooMany}
use Rattle.raim_base.specs.Causes.{Rose}
use Rattle.raim_base.specs.MemDeskState.{Each, of_file}
use Rattle.raim_base.specs.Sizes.{longest_file}
use Rattle.text_lines.specs.Lines.{Text}
use Rattle.flight_files.specs.Order.{place_of}
use Rattle.fleet_text.specs.Routes.{excess_line}
use Rattle.raim_run.specs.declared.Status.{Status}
use Rattle.raim_run.specs.declared.Status.TheVariants.{Done, Refused, ReadFault, WriteFault, Memory}
use Rattle.fleet_run.specs.Files.{IsLongFirst}

-- the four paths hold these texts
abbrev pub AreTold : (Text → Option Text) → (paths texts : Each Text) → Type 0
AreTold holds paths texts = (file : FileNo) → holds (of_file paths file) ≡ Some (of_file texts file)

-- no text is longer than a file may be
abbrev pub AreShort : Each Text → Type 0
AreShort texts = (file : FileNo) → length (of_file texts file) ≤ longest_file

-- the status is no fault of this file, or of one that is read before it
abbrev pub IsFaultlessUpTo : FileNo → Status → Type 0
IsFaultlessUpTo last status = (file : FileNo) → place_of file ≤ place_of last → status ≢ ReadFault file

-- what each path holds, and the four paths, of the texts that they hold
module _ (holds : Text → Option Text) (paths texts : Each Text) where
  -- the texts settle the status, up to faults of reading and of writing
  pub record IsSettled (status : Status) : Type 0 where
    pub too_long : (file : FileNo) → IsLongFirst holds paths file → IsFaultlessUpTo file status → status ≡ Refused file 0 FileTooLong
    pub too_many : (line : ℕ) → AreShort texts → excess_line texts.route ≡ Some line → IsFaultlessUpTo Almanac status → status ≡ Refused Route line TooMany
    pub answered : AreShort texts → excess_line texts.route ≡ None → IsFaultlessUpTo Almanac status → (status ≡ Done) ⊎ (status ≡ WriteFault)

-- Where the four paths hold texts, and the status is not want of memory, the texts settle it.
abbrev pub Settles : (Text → Option Text) → (paths : Each Text) → Status → Type 0
Settles holds paths status = (texts : Each Text) → AreTold holds paths texts → status ≢ Memory → IsSettled holds paths texts status

-- Four files within the size with no route too many are done where no count of faults rose, before and now, but for want of
-- memory: those of the files, and that of the output.
abbrev pub Completes : (Text → Option Text) → (paths : Each Text) → (before now : FileNo → ℕ) (failed fails : ℕ) → Status → Type 0
Completes holds paths before now failed fails status = (texts : Each Text) → AreTold holds paths texts → AreShort texts → excess_line texts.route ≡ None
    → ((file : FileNo) → Rose (before file) (now file) → ⊥) → (Rose failed fails → ⊥) → (status ≡ Done) ⊎ (status ≡ Memory)
