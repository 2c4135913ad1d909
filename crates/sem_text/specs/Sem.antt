-- SEM almanacs.
use Rattle.std.specs.Prelude.{[], ◌∷◌, List, Option}
use Rattle.raim_model.specs.declared.AlmRecord.{AlmRecord}
use Rattle.raim_model.specs.declared.Span.{Span}
use Rattle.raim_model.specs.declared.TextWhy.{TextWhy}
use Rattle.text_lines.specs.Lines.{Text}
use Rattle.text_lines.specs.Reading.{Format}
use Rattle.almanac_draft.specs.declared.Begun.{Begun}
use Rattle.almanac_draft.specs.Forms.{Form}
use Rattle.almanac_draft.specs.Lines.{almanac_records}
use Rattle.almanac_draft.specs.Answers as answers
use Rattle.almanac_draft.specs.Laws as laws
use Rattle.sem_text.specs.declared.line.SemLine.{SemLine}
use Rattle.sem_text.specs.declared.line.SemLine.TheVariants.{Count, WeekAndTime, Prn, Svn, Ura, EccentricityInclinationRate, SqrtARightAscensionPerigee, MeanAnomalyAndClock, Health, Configuration}
use Rattle.sem_text.specs.Lines.{next_of, is_prn, nothing, line_said}

-- two lines of the whole almanac, and the eight lines of a record
abbrev pub sem_form : Form SemLine
sem_form = record {
  heads = Count ∷ WeekAndTime ∷ [];
  lines = Prn ∷ Svn ∷ Ura ∷ EccentricityInclinationRate ∷ SqrtARightAscensionPerigee ∷ MeanAnomalyAndClock ∷ Health ∷ Configuration ∷ [];
  first = Count;
  start = Prn;
  next = next_of;
  begins = is_prn;
  names = is_prn;
  nothing = nothing;
  reads = line_said;
}

-- as many whole records as the first line says, for a flight
abbrev pub sem_records : Span → Format (Option Begun) TextWhy
sem_records span = almanac_records sem_form span

-- the lines are accepted for this flight, and say these records, which rise by PRN
abbrev pub SayRecords : Span → List Text → List AlmRecord → Type 0
SayRecords span lines records = answers.SayRecords sem_form span lines records

-- the laws of SEM almanacs
abbrev pub MeansRecords : Type 0
MeansRecords = laws.MeansRecords sem_form

abbrev pub IsAccepted : Type 0
IsAccepted = laws.IsAccepted sem_form

abbrev pub SaysOrRefuses : Type 0
SaysOrRefuses = laws.SaysOrRefuses sem_form

abbrev pub SaysOnce : Type 0
SaysOnce = laws.SaysOnce sem_form
