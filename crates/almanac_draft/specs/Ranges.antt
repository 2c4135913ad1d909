-- The ranges of the records of an almanac.
use Rattle.std.specs.Prelude.{◌≡◌, ◌≤◌, ℕ, List, Option, Some, None, Ok, unsigned_abs}
use Rattle.raim_model.specs.declared.AlmRecord.{AlmRecord}
use Rattle.raim_model.specs.declared.Span.{Span}
use Rattle.raim_model.specs.Span.{IsFlight}
use Rattle.raim_model.specs.AlmanacRanges.{IsAlmRecord, IsApplicable}
use Rattle.text_lines.specs.Lines.{Text}
use Rattle.almanac_draft.specs.declared.begun.Begun.{Begun}
use Rattle.almanac_draft.specs.Forms.{Form}
use Rattle.almanac_draft.specs.Almanacs.{run}

-- a record is in its ranges, and applies to the flight
pub record IsInRange (flight : Span) (rec : AlmRecord) : Type 0 where
  pub ranges : IsAlmRecord rec
  pub at_first : IsApplicable rec flight.first
  pub at_end : IsApplicable rec flight.end

-- where the almanac says how many records it has, it says one at least
abbrev pub SaysSome : Option ℕ → Type 0
SaysSome None = Unit {0}
SaysSome (Some said) = 1 ≤ said

-- what lines say that pass
pub record IsRanged {K : Type 0} (form : Form K) : Type 0 where
  pub some : (first end : ℕ) (head_lines : List Text) (head : Begun) → run form first end form.heads form.nothing head_lines ≡ Ok head → SaysSome head.declared
  pub each : (flight : Span) (head_lines part : List Text) (head begun : Begun) → IsFlight flight → run form (unsigned_abs flight.first) (unsigned_abs flight.end) form.heads form.nothing head_lines ≡ Ok head
      → run form (unsigned_abs flight.first) (unsigned_abs flight.end) form.lines head part ≡ Ok begun → IsInRange flight begun.values
