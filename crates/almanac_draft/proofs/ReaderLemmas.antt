-- What the lines of a reader mean for the flight that it was made for.
use Rattle.std.proofs.Common.{◌≡◌, List, Option, subst}
use Rattle.raim_model.specs.declared.AlmRecord.{AlmRecord}
use Rattle.raim_model.specs.declared.Span.{Span}
use Rattle.raim_model.specs.declared.TextWhy.{TextWhy}
use Rattle.text_lines.specs.Lines.{Text}
use Rattle.text_lines.specs.Reading.{Format, Accepts}
use Rattle.text_lines.specs.Readers.{Pass, Means}
use Rattle.almanac_draft.specs.declared.begun.Begun.{Begun}
use Rattle.almanac_draft.specs.Forms.{Form}
use Rattle.almanac_draft.specs.Lines.{almanac_records}
use Rattle.almanac_draft.specs.Drafts.{AreSaid}
use Rattle.almanac_draft.specs.Answers.{SayRecords}

module _ {K : Type 0} (form : Form K) (span : Span) (format : Format (Option Begun) TextWhy) (same : format ≡ almanac_records form span) (lines : List Text) where
  pub pass_of : Pass format lines → Pass (almanac_records form span) lines
  pass_of p = subst (λ (f : Format (Option Begun) TextWhy). Pass f lines) same p

  pub said_of : (records : List AlmRecord) → Means format (AreSaid form) lines records → SayRecords form span lines records
  said_of records m = record {
    entries = m.entries;
    accepted = subst (λ (f : Format (Option Begun) TextWhy). Accepts f lines m.entries) same m.accepted;
    same = m.meant.same;
    rising = m.meant.rising;
  }
