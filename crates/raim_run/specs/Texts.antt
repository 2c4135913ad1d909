-- A prediction from four texts that are at hand.
use Rattle.std.specs.Prelude.{◌≡◌, ℕ, ℤ, Result, Err, IsOkAnd}
use Rattle.std.specs.declared.option.Option.{Option}
use Rattle.std.specs.declared.option.Option.TheVariants.{Some}
use Rattle.raim_model.specs.declared.FileNo.{FileNo}
use Rattle.raim_model.specs.declared.TextWhy.{TextWhy}
use Rattle.raim_base.specs.MemDeskState.{Each, text_of}
use Rattle.raim_base.specs.Paths.{file_named}
use Rattle.text_lines.specs.Lines.{Text}
use Rattle.command_words.specs.Asked.{Asked}
use Rattle.command_words.specs.Asked.Asked.{Prediction}
use Rattle.raim_run.specs.declared.status.Status.{Status}
use Rattle.raim_run.specs.declared.status.Status.TheVariants.{Done, Usage, Refused, ReadFault, WriteFault, Overflow, TooManyRuns, Memory}
use Rattle.raim_run.specs.Answers.{IsAnswer}
use Rattle.raim_run.specs.Causes.{IsOverflowing, IsManifold}
use Rattle.raim_run.specs.Sources.{demo_names}
use Rattle.raim_run.specs.Steps.{AreSteps}
use Rattle.raim_run.specs.Stopped.{IsRefused}

-- the texts of the four files
abbrev pub four : (limits almanac outages route : Text) → Each Text
four limits almanac outages route = record { limits = limits; almanac = almanac; outages = outages; route = route }

-- the prediction from files under these names, each of which holds its text
abbrev pub from_texts : Asked
from_texts = Prediction demo_names

abbrev pub held_in : Each Text → Text → Option Text
held_in texts path = Some (text_of texts (file_named path))

module _ (texts : Each Text) where
  -- the text that `predict` writes of them
  abbrev pub IsPredicted : Text → Type 0
  IsPredicted text = IsAnswer from_texts (held_in texts) text

  -- this one is refused at that line for that cause
  abbrev pub AreRefused : FileNo → ℕ → TextWhy → Type 0
  AreRefused file line why = IsRefused from_texts (held_in texts) file line why

  -- this millisecond of their flight is the first that overflows, for this satellite
  abbrev pub Overflows : ℤ → ℕ → Type 0
  Overflows at prn = IsOverflowing from_texts (held_in texts) at prn

  -- their flight has more runs than a flight may have
  abbrev pub AreManifold : Type 0
  AreManifold = IsManifold from_texts (held_in texts)

  -- the steps grew by no more than the judgements that the root pieces of their case need, and stand where they are no case
  abbrev pub TakesSteps : (old new : ℕ) → Type 0
  TakesSteps old new = AreSteps from_texts (held_in texts) old new

  -- why `predict` writes no text of them
  abbrev pub IsUnpredicted : Status → Type 0
  IsUnpredicted Done = ⊥
  IsUnpredicted Usage = ⊥
  IsUnpredicted (Refused file line why) = AreRefused file line why
  IsUnpredicted (ReadFault file) = ⊥
  IsUnpredicted WriteFault = ⊥
  IsUnpredicted (Overflow at prn) = Overflows at prn
  IsUnpredicted TooManyRuns = AreManifold
  IsUnpredicted Memory = Unit {0}

  -- The four texts settle the answer: there is one text that `predict` writes of them, or one status.
  pub record Settle {V : Type 0} (bytes : V → Text) (result : Result V Status) : Type 0 where
    pub predicted : (text : Text) → IsPredicted text → IsOkAnd result (λ v. bytes v ≡ text)
    pub refused : (file : FileNo) (line : ℕ) (why : TextWhy) → AreRefused file line why → result ≡ Err (Refused file line why)
    pub overflow : (at : ℤ) (prn : ℕ) → Overflows at prn → result ≡ Err (Overflow at prn)
    pub too_many : AreManifold → result ≡ Err TooManyRuns
