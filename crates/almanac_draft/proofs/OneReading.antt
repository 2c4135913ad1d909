-- Every text is accepted or refused as an almanac, and an accepted one says one list of records.
use Rattle.std.proofs.Common.{◌≡◌, ◌⊎◌, ℕ, List, Option, subst, inl, inr, IsPermutation}
use Rattle.raim_model.specs.declared.AlmRecord.{AlmRecord}
use Rattle.raim_model.specs.declared.Span.{Span}
use Rattle.raim_model.specs.declared.TextWhy.{TextWhy}
use Rattle.almanac_fields.proofs.Differing.{sorted_alike}
use Rattle.text_lines.specs.Lines.{Text}
use Rattle.text_lines.specs.Reading.{Accepts, Refuses}
use Rattle.text_lines.proofs.ReadingLaws.{same_entries}
use Rattle.text_lines.proofs.SomeReading.{accepted_or_refused}
use Rattle.text_lines.proofs.Sorting.{sorted_exists}
use Rattle.almanac_draft.specs.declared.begun.Begun.{Begun}
use Rattle.almanac_draft.specs.Forms.{Form, IsForm}
use Rattle.almanac_draft.specs.Lines.{almanac_records, records_in}
use Rattle.almanac_draft.specs.Answers.{SayRecords}
use Rattle.almanac_draft.proofs.Means.{means_records}

module _ {K : Type 0} (form : Form K) where
  abbrev Settled : Span → List Text → Type 0
  Settled span lines = ((records : List AlmRecord) × SayRecords form span lines records) ⊎ ((number : ℕ) × (why : TextWhy) × Refuses (almanac_records form span) lines number why)

  settled : (span : Span) (lines : List Text) → ((entries : List (Option Begun)) × Accepts (almanac_records form span) lines entries) ⊎ ((number : ℕ) × (why : TextWhy) × Refuses (almanac_records form span) lines number why)
      → Settled span lines
  settled span lines (inl a) = let s = sorted_exists (λ (r : AlmRecord). r.prn) (records_in form a.0) in inl (s.0, record { entries = a.0; accepted = a.1; same = s.1; rising = s.2 })
  settled span lines (inr r) = inr r

  pub says_or_refuses : (span : Span) (lines : List Text) → Settled span lines
  says_or_refuses span lines = settled span lines (accepted_or_refused (almanac_records form span) lines)

  pub says_once : IsForm form → (span : Span) (lines : List Text) (some other : List AlmRecord) → SayRecords form span lines some → SayRecords form span lines other → some ≡ other
  says_once lawful span lines some other s t =
      let same = same_entries (almanac_records form span) lines t.entries s.entries t.accepted.reads s.accepted.reads in
      sorted_alike (records_in form s.entries) some other (means_records form lawful span lines s.entries s.accepted).distinct s.same s.rising
      (subst (λ (es : List (Option Begun)). IsPermutation (records_in form es) other) same t.same) t.rising
