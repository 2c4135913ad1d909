-- The calls that reading files makes on the desk.
use Rattle.std.specs.Prelude.{◌≡◌, ◌⊎◌, List, [], ◌++◌, Result, Ok, Err}
use Rattle.raim_model.specs.declared.FileNo.{FileNo}
use Rattle.raim_model.specs.declared.FileNo.TheVariants as file
use Rattle.raim_base.specs.Calls.{Call, ReadsToEnd, ReadsAFront, FailsLast}
use Rattle.raim_base.specs.MemDeskState.{Each, of_file}
use Rattle.text_lines.specs.Lines.{Text}
use Rattle.flight_files.specs.declared.stop.Stop.{Stop}
use Rattle.flight_files.specs.declared.stop.Stop.TheVariants.{Memory, Fault, TooLong, Refused}

-- no memory was left: the file was not named, or it was named once and read up to some byte, or to its end
abbrev pub IsCutShort : FileNo → Text → List Call → Type 0
IsCutShort file path made = (made ≡ []) ⊎ (ReadsAFront file path made ⊎ ReadsToEnd file path made)

-- of one file that is not read
abbrev pub FileStopCalls : FileNo → Text → Stop → List Call → Type 0
FileStopCalls file path Memory made = IsCutShort file path made
FileStopCalls file path (Fault named) made = FailsLast file path made
FileStopCalls file path (TooLong named) made = ReadsAFront file path made
FileStopCalls file path (Refused named line why) made = ReadsToEnd file path made

-- of one file, by the answer
abbrev pub FileCalls : {A : Type 0} → FileNo → Text → Result A Stop → List Call → Type 0
FileCalls file path (Ok value) made = ReadsToEnd file path made
FileCalls file path (Err stop) made = FileStopCalls file path stop made

-- calls of which this holds, and then calls of which that holds
abbrev pub InTurn : (List Call → Type 0) → (List Call → Type 0) → List Call → Type 0
InTurn First Then made = (first : List Call) × (next : List Call) × First first × Then next × (made ≡ first ++ next)

module _ (paths : Each Text) where
  abbrev pub LimitsAreRead : List Call → Type 0
  LimitsAreRead made = InTurn (λ none. none ≡ []) (ReadsToEnd file.Limits paths.limits) made

  abbrev pub RouteIsRead : List Call → Type 0
  RouteIsRead made = InTurn LimitsAreRead (ReadsToEnd file.Route paths.route) made

  abbrev pub OutagesAreRead : List Call → Type 0
  OutagesAreRead made = InTurn RouteIsRead (ReadsToEnd file.Outages paths.outages) made

  -- the files that are read before this one were each named once and read to their end, in their order
  abbrev pub AreReadBefore : FileNo → List Call → Type 0
  AreReadBefore file.Limits made = made ≡ []
  AreReadBefore file.Route made = LimitsAreRead made
  AreReadBefore file.Outages made = RouteIsRead made
  AreReadBefore file.Almanac made = OutagesAreRead made

  -- and then this one was read so
  abbrev pub ReadsUpTo : FileNo → (FileNo → Text → List Call → Type 0) → List Call → Type 0
  ReadsUpTo file Reads made = InTurn (AreReadBefore file) (Reads file (of_file paths file)) made

  -- of the four files, where one stops the reading
  abbrev pub StopCalls : Stop → List Call → Type 0
  StopCalls Memory made = (file : FileNo) × ReadsUpTo file IsCutShort made
  StopCalls (Fault file) made = ReadsUpTo file FailsLast made
  StopCalls (TooLong file) made = ReadsUpTo file ReadsAFront made
  StopCalls (Refused file line why) made = ReadsUpTo file ReadsToEnd made

  -- of the four files, by the answer
  abbrev pub FilesCalls : {A : Type 0} → Result A Stop → List Call → Type 0
  FilesCalls (Ok files) made = ReadsUpTo file.Almanac ReadsToEnd made
  FilesCalls (Err stop) made = StopCalls stop made
