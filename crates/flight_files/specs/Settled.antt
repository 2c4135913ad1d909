-- What the answer is where the desk tells the bytes of the four files.
use Rattle.std.specs.Prelude.{◌≡◌, ◌≢◌, ◌≤◌, ◌⊎◌, ℕ, List, IsSome, IsOk, IsOkAnd, Result, Err}
use Rattle.std.specs.declared.option.Option.{Option}
use Rattle.raim_model.specs.declared.AlmRecord.{AlmRecord}
use Rattle.raim_model.specs.declared.FileNo.{FileNo}
use Rattle.raim_model.specs.declared.FileNo.TheVariants.{Almanac}
use Rattle.raim_model.specs.declared.Limits.{Limits}
use Rattle.raim_model.specs.declared.Outage.{Outage}
use Rattle.raim_model.specs.declared.TextWhy.{TextWhy}
use Rattle.raim_model.specs.declared.Waypoint.{Waypoint}
use Rattle.raim_base.specs.Causes.{Rose}
use Rattle.raim_base.specs.MemDeskState.{Each, of_file}
use Rattle.text_lines.specs.Lines.{Text}
use Rattle.flight_files.specs.declared.files.FlightFiles.{FlightFiles}
use Rattle.flight_files.specs.declared.stop.Stop.{Stop}
use Rattle.flight_files.specs.declared.stop.Stop.TheVariants.{Memory, Fault, TooLong, Refused}
use Rattle.flight_files.specs.Order.{place_of}
use Rattle.flight_files.specs.Files.{AreAcceptedFiles, IsRefusedFirst, IsTooLongFirst}

-- the answer has no fault of this file, or of one that is read before it
abbrev pub IsFaultlessUpTo : FileNo → Result FlightFiles Stop → Type 0
IsFaultlessUpTo last result = (file : FileNo) → place_of file ≤ place_of last → result ≢ Err (Fault file)

-- what the four paths hold is told
abbrev pub AreTold : (Text → Option Text) → Each Text → Type 0
AreTold holds paths = (file : FileNo) → IsSome (holds (of_file paths file))

-- the files say this, and nothing else
pub record AreTheFiles (limits : Limits) (route : List Waypoint) (outages : List Outage) (almanacs : List (List AlmRecord)) (files : FlightFiles) : Type 0 where
  pub limits_are : files.limits ≡ limits
  pub route_is : files.route ≡ route
  pub outages_are : files.outages.items ≡ outages
  pub almanacs_are : files.almanacs.items ≡ almanacs

-- what each path holds, where it is told, and the four paths
module _ (holds : Text → Option Text) (paths : Each Text) where
  -- the bytes settle the answer, up to faults of the files that are read
  pub record IsSettled (result : Result FlightFiles Stop) : Type 0 where
    pub accepted : (limits : Limits) (route : List Waypoint) (outages : List Outage) (almanacs : List (List AlmRecord))
        → AreAcceptedFiles holds paths limits route outages almanacs → IsFaultlessUpTo Almanac result
        → IsOkAnd result (AreTheFiles limits route outages almanacs)
    pub refused : (file : FileNo) (line : ℕ) (why : TextWhy) → IsRefusedFirst holds paths file line why
        → IsFaultlessUpTo file result → result ≡ Err (Refused file line why)
    pub too_long : (file : FileNo) → IsTooLongFirst holds paths file → IsFaultlessUpTo file result → result ≡ Err (TooLong file)

  -- where the bytes are told, and the answer is not want of memory
  abbrev pub Settles : Result FlightFiles Stop → Type 0
  Settles result = AreTold holds paths → result ≢ Err Memory → IsSettled result

  -- Four accepted files are read where no count of faults rose, before and now, but for want of memory.
  abbrev pub Completes : (before now : FileNo → ℕ) → Result FlightFiles Stop → Type 0
  Completes before now result = (limits : Limits) (route : List Waypoint) (outages : List Outage) (almanacs : List (List AlmRecord))
      → AreTold holds paths → AreAcceptedFiles holds paths limits route outages almanacs
      → ((file : FileNo) → Rose (before file) (now file) → ⊥) → IsOk result ⊎ (result ≡ Err Memory)
