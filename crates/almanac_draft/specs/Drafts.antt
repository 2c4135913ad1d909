-- What is kept of the lines of an almanac so far.
use Rattle.std.specs.Prelude.{◌≡◌, List, [], Option, IsPermutation, IsSortedByKey}
use Rattle.std.specs.Ordering.{nat_cmp}
use Rattle.raim_model.specs.declared.AlmRecord.{AlmRecord}
use Rattle.raim_model.specs.declared.Span.{Span}
use Rattle.raim_model.specs.declared.TextWhy.{TextWhy}
use Rattle.text_lines.specs.Reading.{Format}
use Rattle.almanac_draft.specs.declared.begun.Begun.{Begun}
use Rattle.almanac_draft.specs.declared.draft.AlmanacDraft.{AlmanacDraft}
use Rattle.almanac_draft.specs.Forms.{Form}
use Rattle.almanac_draft.specs.Lines.{Said, said_behind, said_next, records_in, almanac_lines, almanac_records}

abbrev pub said_by : {K : Type 0} → AlmanacDraft K → Said K
said_by draft = record { kind = draft.kind; head = draft.head; current = draft.current; records = draft.records }

module _ {K : Type 0} (form : Form K) where
  -- the draft is what these entries say
  pub record IsDraft (draft : AlmanacDraft K) (entries : List (Option Begun)) : Type 0 where
    pub said : said_by draft ≡ said_behind form entries

  -- new is old with one more line, which says the entry
  pub record IsAfter (old : AlmanacDraft K) (entry : Option Begun) (new : AlmanacDraft K) : Type 0 where
    pub first : new.flight.first ≡ old.flight.first
    pub end : new.flight.end ≡ old.flight.end
    pub said : said_by new ≡ said_next form (said_by old) entry

  -- these records are what the entries say, by rising PRN
  pub record AreSaid (entries : List (Option Begun)) (records : List AlmRecord) : Type 0 where
    pub same : IsPermutation (records_in form entries) records
    pub rising : IsSortedByKey (λ r. r.prn) nat_cmp records

  -- the format that a draft reads
  abbrev pub format_of : AlmanacDraft K → Format (Option Begun) TextWhy
  format_of draft = almanac_lines form draft.flight.first draft.flight.end

  -- the draft of no line
  pub record IsNewDraft (span : Span) (draft : AlmanacDraft K) : Type 0 where
    pub format : format_of draft ≡ almanac_records form span
    pub none : IsDraft draft []
