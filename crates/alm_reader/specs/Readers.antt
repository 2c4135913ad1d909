-- What a reader of a file of almanacs stands for.
use Rattle.std.specs.Prelude.{◌≡◌, ◌<◌, ◌+◌, ◌-◌, ◌^◌, ℕ, min, List, [], ◌∷◌, ◌++◌, length, All, Option, Some, None}
use Rattle.raim_model.specs.declared.Span.{Span}
use Rattle.raim_model.specs.declared.TextFault.{TextFault}
use Rattle.text_lines.specs.Lines.{Text}
use Rattle.alm_reader.specs.declared.reader.AlmanacReader.{AlmanacReader}
use Rattle.alm_reader.specs.Sections.{HasTakenSection, PassesSection}
use Rattle.alm_reader.specs.Almanacs.{sections_of, lines_of_all, SayEach, KnowsFault}

-- a fault of a section in the numbers of the file, where so many lines stand before the section
abbrev pub fault_in : ℕ → TextFault → TextFault
fault_in begun own = record { line = min (begun + own.line) (2 ^ 32 - 1); why = own.why }

-- no fault was met: the sections that ended are accepted, and the one that is open was fed
pub record IsReading (span : Span) (reader : AlmanacReader) (lines : List Text) : Type 0 where
  pub before : List (List Text)
  pub section : List Text
  pub split : sections_of lines ≡ before ++ section ∷ []
  pub accepted : SayEach span before reader.done
  pub taken : HasTakenSection span reader.section section
  pub passes : PassesSection span section
  pub fresh : All (λ spare. HasTakenSection span spare []) reader.fresh.items
  pub few : length before < 8
  pub spare : length before + length reader.fresh.items ≡ 8
  pub total : length lines ≡ lines_of_all before + length section
  pub counted : reader.lines ≡ min (length lines) (2 ^ 32 - 1)
  pub begun : reader.begun ≡ min (lines_of_all before) (2 ^ 32 - 1)

abbrev pub ReadsBy : Option TextFault → Span → AlmanacReader → List Text → Type 0
ReadsBy None span reader lines = IsReading span reader lines
ReadsBy (Some fault) span reader lines = KnowsFault span lines fault.line fault.why

-- the reader was made for this flight, and was fed these lines: no fault is known, or it has kept the fault
pub record HasTaken (span : Span) (reader : AlmanacReader) (lines : List Text) : Type 0 where
  pub flight : reader.span ≡ span
  pub taken : ReadsBy reader.fault span reader lines
