-- What a reader of an almanac stands for.
use Rattle.std.specs.Prelude.{◌≡◌, List, Option}
use Rattle.raim_model.specs.declared.Span.{Span}
use Rattle.raim_model.specs.declared.TextFault.{TextFault}
use Rattle.text_lines.specs.Lines.{Text}
use Rattle.text_lines.specs.Readers.{StandsFor}
use Rattle.almanac_draft.specs.declared.reader.FormReader.{FormReader}
use Rattle.almanac_draft.specs.Forms.{Form}
use Rattle.almanac_draft.specs.Lines.{almanac_records}
use Rattle.almanac_draft.specs.Drafts.{IsDraft, format_of}

-- the reader was made for this flight, and was fed these lines: they passed, or it has kept the first fault
pub record HasTaken {K : Type 0} (form : Form K) (span : Span) (reader : FormReader K) (lines : List Text) : Type 0 where
  pub format : format_of form reader.lines.draft ≡ almanac_records form span
  pub taken : StandsFor (format_of form) (IsDraft form) reader.lines lines

-- the fault that the reader has kept
abbrev pub fault_of : {K : Type 0} → FormReader K → Option TextFault
fault_of reader = reader.lines.fault
