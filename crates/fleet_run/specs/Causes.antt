-- The cause of each status of a fleet.
use Rattle.std.specs.Prelude.{◌≡◌, ◌⊎◌, ℕ}
use Rattle.std.specs.declared.option.Option.{Option}
use Rattle.std.specs.declared.option.Option.TheVariants.{Some, None}
use Rattle.std.specs.Io.KnownBytes.{Appends}
use Rattle.raim_model.specs.declared.FileNo.{FileNo}
use Rattle.raim_model.specs.declared.FileNo.TheVariants.{Route}
use Rattle.raim_model.specs.declared.TextWhy.{TextWhy}
use Rattle.raim_model.specs.declared.TextWhy.TheVariants.{FileTooLong, TooMany}
use Rattle.raim_base.specs.Causes.{Rose, GrowsByFront}
use Rattle.raim_base.specs.MemDeskState.{Each}
use Rattle.text_lines.specs.Lines.{Text}
use Rattle.fleet_text.specs.Fleet.{block_of}
use Rattle.fleet_text.specs.Routes.{routes_of, excess_line}
use Rattle.raim_run.specs.declared.Status.{Status}
use Rattle.raim_run.specs.declared.Status.TheVariants.{Done, Usage, Refused, ReadFault, WriteFault, Overflow, TooManyRuns, Memory}
use Rattle.fleet_run.specs.Blocks.{IsBodyOf, IsFleetOf, IsFrontOf}
use Rattle.fleet_run.specs.Files.{AreRead, IsLongFirst, IsFaulty}

-- of the texts of four files: what the output held before and now
module _ (texts : Each Text) (old new : Option Text) where
  -- the whole text of the fleet was written
  abbrev pub IsWholeWritten : Type 0
  IsWholeWritten = (text : Text) × IsFleetOf texts (routes_of texts.route) text × Appends old new text

  -- whole blocks of the first routes were written
  abbrev pub AreBlocksWritten : Type 0
  AreBlocksWritten = (text : Text) × IsFrontOf texts (routes_of texts.route) text × Appends old new text

  -- a front of blocks of the first routes was written, and then a write failed, as the count of these rose
  abbrev pub IsCutOff : (failed fails : ℕ) → Type 0
  IsCutOff failed fails = (text : Text) × IsFrontOf texts (routes_of texts.route) text × GrowsByFront old new text × Rose failed fails

  -- how writing block after block ends
  abbrev pub BlocksEnd : (failed fails : ℕ) → Status → Type 0
  BlocksEnd failed fails Done = IsWholeWritten
  BlocksEnd failed fails WriteFault = IsCutOff failed fails
  BlocksEnd failed fails Memory = AreBlocksWritten
  BlocksEnd failed fails status = ⊥

-- how the block of that number, of these four texts, was not written whole: it was not made, or a front of it was written, and
-- then a write failed
abbrev pub BlockEnds : Each Text → (number : ℕ) → (old new : Option Text) → (failed fails : ℕ) → Status → Type 0
BlockEnds texts number old new failed fails Memory = new ≡ old
BlockEnds texts number old new failed fails WriteFault = (body : Text) × IsBodyOf texts body × GrowsByFront old new (block_of number body) × Rose failed fails
BlockEnds texts number old new failed fails status = ⊥

-- of what each path holds, where it is told, and the four paths
module _ (holds : Text → Option Text) (paths : Each Text) where
  -- the four files were read, no route is one too many, and this holds of their texts
  pub record OfFleet (Is : Each Text → Type 0) : Type 0 where
    pub texts : Each Text
    pub read : AreRead holds paths texts
    pub few : excess_line texts.route ≡ None
    pub is : Is texts

  -- the four files were read, and this is the line that begins one route too many
  pub record HasTooMany (line : ℕ) : Type 0 where
    pub texts : Each Text
    pub read : AreRead holds paths texts
    pub excess : excess_line texts.route ≡ Some line

  -- a file is the first that is too long, or there is a route too many
  abbrev pub IsRefused : FileNo → ℕ → TextWhy → Type 0
  IsRefused file line why =
      ((line ≡ 0) × (why ≡ FileTooLong) × IsLongFirst holds paths file) ⊎ ((file ≡ Route) × (why ≡ TooMany) × HasTooMany line)

  -- of the counts of the desk's faults before and now: the cause of a status that comes before the first block
  module _ (before now : FileNo → ℕ) where
    abbrev pub ReadingStops : Status → Type 0
    ReadingStops (Refused file line why) = IsRefused file line why
    ReadingStops (ReadFault file) = IsFaulty holds paths before now file
    ReadingStops Memory = Unit {0}
    ReadingStops status = ⊥

  -- and of what the output held and had failed before and now
  module _ (before now : FileNo → ℕ) (old new : Option Text) (failed fails : ℕ) where
    abbrev pub FleetCause : Status → Type 0
    FleetCause Done = OfFleet (λ texts. IsWholeWritten texts old new)
    FleetCause Usage = ⊥
    FleetCause (Refused file line why) = IsRefused file line why
    FleetCause (ReadFault file) = IsFaulty holds paths before now file
    FleetCause WriteFault = OfFleet (λ texts. IsCutOff texts old new failed fails)
    FleetCause (Overflow at prn) = ⊥
    FleetCause TooManyRuns = ⊥
    FleetCause Memory = (new ≡ old) ⊎ OfFleet (λ texts. AreBlocksWritten texts old new)
