-- YUMA almanacs.
use Rattle.std.specs.Prelude.{[], ◌∷◌, List, Option}
use Rattle.raim_model.specs.declared.AlmRecord.{AlmRecord}
use Rattle.raim_model.specs.declared.Span.{Span}
use Rattle.raim_model.specs.declared.TextWhy.{TextWhy}
use Rattle.text_lines.specs.Lines.{Text}
use Rattle.text_lines.specs.Reading.{Format}
use Rattle.almanac_draft.specs.declared.Begun.{Begun}
use Rattle.almanac_draft.specs.Forms.{Form}
use Rattle.almanac_draft.specs.Lines.{almanac_records}
use Rattle.almanac_draft.specs.Answers as answers
use Rattle.almanac_draft.specs.Laws as laws
use Rattle.yuma_text.specs.declared.line.YumaLine.{YumaLine}
use Rattle.yuma_text.specs.declared.line.YumaLine.TheVariants.{Title, Prn, Health, Eccentricity, TimeInWeek, Inclination, RateOfRightAscension, SqrtA, RightAscension, ArgumentOfPerigee, MeanAnomaly, Af0, Af1, Week}
use Rattle.yuma_text.specs.Lines.{next_of, is_title, is_prn, nothing, line_said}

-- the fourteen lines of a record, and no line beside those of records
abbrev pub yuma_form : Form YumaLine
yuma_form = record {
  heads = [];
  lines = Title ∷ Prn ∷ Health ∷ Eccentricity ∷ TimeInWeek ∷ Inclination ∷ RateOfRightAscension ∷ SqrtA ∷ RightAscension ∷ ArgumentOfPerigee ∷ MeanAnomaly ∷ Af0 ∷ Af1 ∷ Week ∷ [];
  first = Title;
  start = Title;
  next = next_of;
  begins = is_title;
  names = is_prn;
  nothing = nothing;
  reads = line_said;
}

-- one to 32 whole records, for a flight
abbrev pub yuma_records : Span → Format (Option Begun) TextWhy
yuma_records span = almanac_records yuma_form span

-- the lines are accepted for this flight, and say these records, which rise by PRN
abbrev pub SayRecords : Span → List Text → List AlmRecord → Type 0
SayRecords span lines records = answers.SayRecords yuma_form span lines records

-- the laws of YUMA almanacs
abbrev pub MeansRecords : Type 0
MeansRecords = laws.MeansRecords yuma_form

abbrev pub IsAccepted : Type 0
IsAccepted = laws.IsAccepted yuma_form

abbrev pub SaysOrRefuses : Type 0
SaysOrRefuses = laws.SaysOrRefuses yuma_form

abbrev pub SaysOnce : Type 0
SaysOnce = laws.SaysOnce yuma_form
