-- The calls that are made on a desk, in their order, and those that read a file whole.
use Rattle.std.specs.Prelude.{◌≡◌, ◌<◌, ◌⊎◌, ℕ, Bool, true, false, List, [], ◌∷◌, ◌++◌, map, Result, Ok, Err}
use Rattle.std.specs.declared.option.Option.{Option}
use Rattle.std.specs.declared.option.Option.TheVariants.{Some, None}
use Rattle.raim_model.specs.declared.FileNo.{FileNo}
use Rattle.raim_base.specs.declared.desk.ReadStop.{ReadStop}
use Rattle.raim_base.specs.declared.desk.ReadStop.TheVariants.{Memory, Fault, TooLong}

-- one call on a file
pub data Call : Type 0 where
  -- it was named to a path, and that succeeded or failed
  naming : FileNo → List ℕ → Bool → Call
  -- it was read, and so many bytes were given, or the read failed
  reading : FileNo → Option ℕ → Call

-- the calls that a desk tells grow by those that were made
abbrev pub Makes : Option (List Call) → Option (List Call) → List Call → Type 0
Makes None new made = Unit {0}
Makes (Some calls) new made = new ≡ Some (calls ++ made)

-- each is above 0
abbrev pub AreAboveZero : List ℕ → Type 0
AreAboveZero [] = Unit {0}
AreAboveZero (n ∷ ns) = (0 < n) × AreAboveZero ns

-- reads that gave so many bytes each
abbrev pub readings : FileNo → List ℕ → List Call
readings file counts = map (λ n. reading file (Some n)) counts

-- the file was named to the path once, then read, each read giving some bytes, and then the last calls were made
abbrev pub ReadsThen : FileNo → List ℕ → List Call → List Call → Type 0
ReadsThen file path last made = (counts : List ℕ) × AreAboveZero counts × (made ≡ naming file path true ∷ (readings file counts ++ last))

-- it was named once and read to its end
abbrev pub ReadsToEnd : FileNo → List ℕ → List Call → Type 0
ReadsToEnd file path made = ReadsThen file path (reading file (Some 0) ∷ []) made

-- it was named once and read up to some byte
abbrev pub ReadsAFront : FileNo → List ℕ → List Call → Type 0
ReadsAFront file path made = ReadsThen file path [] made

-- it was named once and read, and the last call, and no other, failed
abbrev pub FailsLast : FileNo → List ℕ → List Call → Type 0
FailsLast file path made = (made ≡ naming file path false ∷ []) ⊎ ReadsThen file path (reading file None ∷ []) made

-- what reading a file whole calls, by its answer
abbrev pub IsReadBy : {A : Type 0} → FileNo → List ℕ → Result A ReadStop → List Call → Type 0
IsReadBy file path (Ok bytes) made = ReadsToEnd file path made
IsReadBy file path (Err Memory) made = ReadsAFront file path made
IsReadBy file path (Err Fault) made = FailsLast file path made
IsReadBy file path (Err TooLong) made = ReadsAFront file path made

-- calls were made, of which this holds
abbrev pub MakesCalls : Option (List Call) → Option (List Call) → (List Call → Type 0) → Type 0
MakesCalls old new Made = (made : List Call) × Makes old new made × Made made
