-- Why the files were not all read.
use Rattle.std.specs.Prelude.{◌≡◌, ◌⊎◌, ℕ}
use Rattle.std.specs.declared.option.Option.{Option}
use Rattle.raim_model.specs.declared.FileNo.{FileNo}
use Rattle.raim_model.specs.declared.TextWhy.{TextWhy}
use Rattle.raim_model.specs.declared.TextWhy.TheVariants.{FileTooLong}
use Rattle.text_lines.specs.Lines.{Text}
use Rattle.flight_files.specs.Files.{IsRefusedFirst, IsTooLongFirst}
use Rattle.flight_files.specs.Stops.{IsFaultyFirst}
use Rattle.flight_files.specs.declared.Stop.{Stop}
use Rattle.flight_files.specs.declared.Stop.TheVariants.{Memory, Fault, TooLong, Refused}
use Rattle.command_words.specs.Asked.{Asked}
use Rattle.command_words.specs.Asked.Asked.{Prediction, Demonstration, PredictionUp}
use Rattle.raim_run.specs.Sources.{paths_of, told_of}

-- the files of a prediction were asked for
abbrev pub IsFromFiles : Asked → Type 0
IsFromFiles (Prediction paths) = Unit {0}
IsFromFiles (Demonstration number) = ⊥
IsFromFiles (PredictionUp paths vertical_mm) = Unit {0}

-- what was asked, and what each path holds, where it is told
module _ (asked : Asked) (holds : Text → Option Text) where
  -- the file is the first that is refused: its format refuses this line for this cause, or the file has too many bytes, and
  -- then the line is 0
  abbrev pub IsRefused : FileNo → ℕ → TextWhy → Type 0
  IsRefused file line why = IsRefusedFirst (told_of asked holds) (paths_of asked) file line why
      ⊎ ((line ≡ 0) × (why ≡ FileTooLong) × IsTooLongFirst (told_of asked holds) (paths_of asked) file)

  -- a call on the file failed, since its count of faults, before and now, rose; the files that are read before it are accepted
  abbrev pub IsFaulty : (before now : FileNo → ℕ) → FileNo → Type 0
  IsFaulty before now file = IsFaultyFirst (told_of asked holds) (paths_of asked) before now file

  -- what stopped the reading; the counts of the desk's faults are those before and now
  abbrev pub StopOf : (before now : FileNo → ℕ) → Stop → Type 0
  StopOf before now Memory = Unit {0}
  StopOf before now (Fault file) = IsFromFiles asked × IsFaulty before now file
  StopOf before now (TooLong file) = IsRefused file 0 FileTooLong
  StopOf before now (Refused file line why) = IsRefused file line why
