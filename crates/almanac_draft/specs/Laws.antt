-- What is promised of almanacs of a format as such.
use Rattle.std.specs.Prelude.{◌≡◌, ◌⊎◌, ℕ, List, Option}
use Rattle.raim_model.specs.declared.AlmRecord.{AlmRecord}
use Rattle.raim_model.specs.declared.Span.{Span}
use Rattle.raim_model.specs.declared.TextWhy.{TextWhy}
use Rattle.text_lines.specs.Lines.{Text}
use Rattle.text_lines.specs.Reading.{Accepts, Refuses}
use Rattle.almanac_draft.specs.declared.begun.Begun.{Begun}
use Rattle.almanac_draft.specs.Forms.{Form}
use Rattle.almanac_draft.specs.Lines.{almanac_records, records_in}
use Rattle.almanac_draft.specs.Answers.{SayRecords}
use Rattle.almanac_draft.specs.Almanacs.{IsAlmanac}

-- what is accepted means the records of its parts
abbrev pub MeansRecords : {K : Type 0} → Form K → Type 0
MeansRecords form = (span : Span) (lines : List Text) (entries : List (Option Begun)) → Accepts (almanac_records form span) lines entries → IsAlmanac form span lines (records_in form entries)

-- every text is accepted or refused as an almanac
abbrev pub SaysOrRefuses : {K : Type 0} → Form K → Type 0
SaysOrRefuses form = (span : Span) (lines : List Text) → ((records : List AlmRecord) × SayRecords form span lines records) ⊎ ((number : ℕ) × (why : TextWhy) × Refuses (almanac_records form span) lines number why)

-- an accepted one says one list of records
abbrev pub SaysOnce : {K : Type 0} → Form K → Type 0
SaysOnce form = (span : Span) (lines : List Text) (some other : List AlmRecord) → SayRecords form span lines some → SayRecords form span lines other → some ≡ other

-- what is an almanac is accepted, and means its records
abbrev pub IsAccepted : {K : Type 0} → Form K → Type 0
IsAccepted form = (span : Span) (lines : List Text) (records : List AlmRecord) → IsAlmanac form span lines records → (entries : List (Option Begun)) × Accepts (almanac_records form span) lines entries × (records ≡ records_in form entries)
