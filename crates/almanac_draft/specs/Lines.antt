-- What a line of an almanac says after those before it, or the first test that refuses it.
use Rattle.std.specs.Prelude.{ℕ, Bool, true, false, List, [], ◌∷◌, ◌++◌, Option, Some, None, Result, Ok, fold, length, nat_lt, unsigned_abs, if◌then◌else◌}
use Rattle.raim_model.specs.declared.TextWhy.{TextWhy}
use Rattle.raim_model.specs.declared.TextWhy.TheVariants.{Short}
use Rattle.raim_model.specs.declared.AlmRecord.{AlmRecord}
use Rattle.raim_model.specs.declared.Span.{Span}
use Rattle.text_lines.specs.Lines.{Text}
use Rattle.text_lines.specs.Words.{words_of}
use Rattle.text_lines.specs.Fields.{◌>>=◌}
use Rattle.text_lines.specs.Reading.{Format}
use Rattle.almanac_fields.specs.Prns.{fresh_prn_of}
use Rattle.almanac_draft.specs.declared.begun.Begun.{Begun}
use Rattle.almanac_draft.specs.Forms.{Form}
use Rattle.almanac_draft.specs.Counts.{further, count_end}

-- what the lines before said: the line that is expected, what the lines of the whole almanac say, what is said of the
-- record that is current, and the whole records
pub record Said (K : Type 0) : Type 0 where
  pub kind : K
  pub head : Begun
  pub current : Begun
  pub records : List AlmRecord

-- one more record, where there is room for 32
abbrev pub with_record : List AlmRecord → AlmRecord → List AlmRecord
with_record records r = if nat_lt (length records) 32 then records ++ r ∷ [] else records

abbrev pub is_blank : Option Begun → Bool
is_blank None = true
is_blank (Some begun) = false

module _ {K : Type 0} (form : Form K) where
  abbrev pub said_first : Said K
  said_first = record { kind = form.first; head = form.nothing; current = form.nothing; records = [] }

  -- behind the last line of a record the record is whole, and the next one begins
  abbrev pub said_on : Said K → Begun → Option K → Said K
  said_on said begun (Some k) = record { kind = k; head = if form.begins k then begun else said.head; current = begun; records = said.records }
  said_on said begun None = record { kind = form.start; head = said.head; current = said.head; records = with_record said.records begun.values }

  -- what is said behind one more line; a blank line says nothing
  abbrev pub said_next : Said K → Option Begun → Said K
  said_next said None = said
  said_next said (Some begun) = said_on said begun (form.next said.kind)

  abbrev pub said_behind : List (Option Begun) → Said K
  said_behind entries = fold said_next said_first entries

  -- the records, in the order of the file
  abbrev pub records_in : List (Option Begun) → List AlmRecord
  records_in entries = (said_behind entries).records

  -- a line that says the PRN: a further record may begin, and none before has this PRN
  abbrev pub prn_said : (first end : ℕ) → Said K → Text → Result Begun TextWhy
  prn_said first end said line = do
    n ← further said.head.declared (length said.records)
    begun ← form.reads first end said.kind said.current line
    fresh ← fresh_prn_of said.records begun.values.prn
    Ok begun

  abbrev pub line_said : (first end : ℕ) → Said K → Text → Result Begun TextWhy
  line_said first end said line = if form.names said.kind then prn_said first end said line else form.reads first end said.kind said.current line

  abbrev pub words_entry_of : (first end : ℕ) → Said K → List Text → Text → Result (Option Begun) TextWhy
  words_entry_of first end said [] line = Ok None
  words_entry_of first end said (word ∷ words) line = do
    begun ← line_said first end said line
    Ok (Some begun)

  abbrev pub entry_of : (first end : ℕ) → Said K → Text → Result (Option Begun) TextWhy
  entry_of first end said line = words_entry_of first end said (words_of line) line

  -- the file ends before its lines of the whole almanac do, inside a record, or with the wrong count of records
  abbrev pub end_of : Said K → Option TextWhy
  end_of said = if form.begins said.kind then count_end said.head.declared (length said.records) else Some Short

  abbrev pub almanac_lines : (first end : ℕ) → Format (Option Begun) TextWhy
  almanac_lines first end = record {
    says = λ entries line. entry_of first end (said_behind entries) line;
    at_end = λ entries. end_of (said_behind entries);
    is_blank = is_blank;
  }

  abbrev pub almanac_records : Span → Format (Option Begun) TextWhy
  almanac_records span = almanac_lines (unsigned_abs span.first) (unsigned_abs span.end)
