-- The answers of a reader of almanacs.
use Rattle.std.specs.Prelude.{List, Option, IsPermutation, IsSortedByKey}
use Rattle.std.specs.Ordering.{nat_cmp}
use Rattle.raim_model.specs.declared.AlmRecord.{AlmRecord}
use Rattle.raim_model.specs.declared.Span.{Span}
use Rattle.text_lines.specs.Lines.{Text}
use Rattle.text_lines.specs.Reading.{Accepts}
use Rattle.almanac_draft.specs.declared.begun.Begun.{Begun}
use Rattle.almanac_draft.specs.Forms.{Form}
use Rattle.almanac_draft.specs.Lines.{almanac_records, records_in}

-- the lines are accepted for this flight, and say these records, which rise by PRN
pub record SayRecords {K : Type 0} (form : Form K) (span : Span) (lines : List Text) (records : List AlmRecord) : Type 0 where
  pub entries : List (Option Begun)
  pub accepted : Accepts (almanac_records form span) lines entries
  pub same : IsPermutation (records_in form entries) records
  pub rising : IsSortedByKey (λ r. r.prn) nat_cmp records
