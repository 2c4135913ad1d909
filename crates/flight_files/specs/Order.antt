-- The order in which the files of a prediction are read.
use Rattle.std.specs.Prelude.{◌≡◌, ℕ}
use Rattle.raim_model.specs.declared.FileNo.{FileNo}
use Rattle.raim_model.specs.declared.FileNo.TheVariants.{Limits, Route, Outages, Almanac}
use Rattle.flight_files.specs.declared.stop.Stop.{Stop}
use Rattle.flight_files.specs.declared.stop.Stop.TheVariants.{Memory, Fault, TooLong, Refused}

-- how many files are read before this one
abbrev pub place_of : FileNo → ℕ
place_of Limits = 0
place_of Route = 1
place_of Outages = 2
place_of Almanac = 3

-- the file that stopped the reading; want of memory names none
abbrev pub Names : Stop → FileNo → Type 0
Names Memory file = ⊥
Names (Fault named) file = named ≡ file
Names (TooLong named) file = named ≡ file
Names (Refused named line why) file = named ≡ file
