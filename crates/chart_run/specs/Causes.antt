-- Why a run has its status, by what the path holds where it is told, and by the counts of faults.
use Rattle.std.specs.Prelude.{◌≡◌, ◌≤◌, ◌⊎◌, ℕ, length, IfSome}
use Rattle.std.specs.declared.option.Option.{Option}
use Rattle.std.specs.Io.KnownBytes.{Appends}
use Rattle.raim_model.specs.declared.TextWhy.{TextWhy}
use Rattle.raim_model.specs.declared.TextWhy.TheVariants.{FileTooLong}
use Rattle.raim_base.specs.Causes.{Rose, GrowsByFront}
use Rattle.text_lines.specs.Lines.{Text}
use Rattle.chart_text.specs.Charts.{RefusesChart}
use Rattle.chart_run.specs.declared.status.ChartStatus.{ChartStatus}
use Rattle.chart_run.specs.declared.status.ChartStatus.TheVariants.{Done, Usage, Refused, ReadFault, WriteFault, Memory}
use Rattle.chart_run.specs.Files.{longest_report, IsTooLong}
use Rattle.chart_run.specs.Pages.{IsPageOf}

-- the output gained the whole page
abbrev pub IsWholeWritten : Text → (old new : Option Text) → Type 0
IsWholeWritten page old new = Appends old new page

-- it gained a front of the page, and its count of faults rose
abbrev pub IsCutOff : Text → (old new : Option Text) → (failed fails : ℕ) → Type 0
IsCutOff page old new failed fails = GrowsByFront old new page × Rose failed fails

-- what the path holds, where it is told
module _ (told : Option Text) where
  -- the file was read, and has this text
  pub record IsText (text : Text) : Type 0 where
    pub is : IfSome told (λ bytes. text ≡ bytes)
    pub short : length text ≤ longest_report

  -- this holds of the page of what the file says
  pub record OfReport (Is : Text → Type 0) : Type 0 where
    pub text : Text
    pub page : Text
    pub read : IsText text
    pub page_of : IsPageOf text page
    pub is : Is page

  -- the file says nothing, first at this line for this cause
  pub record HasFault (line : ℕ) (why : TextWhy) : Type 0 where
    pub text : Text
    pub read : IsText text
    pub refuses : RefusesChart text line why

  -- the file has too many bytes, or is refused at a line
  abbrev pub IsRefused : (line : ℕ) → TextWhy → Type 0
  IsRefused line why = ((line ≡ 0) × (why ≡ FileTooLong) × IsTooLong told) ⊎ HasFault line why

-- how the writing of a page ends, by what the output held and had failed before and now
abbrev pub WritingEnds : Text → (old new : Option Text) → (failed fails : ℕ) → ChartStatus → Type 0
WritingEnds page old new failed fails Done = IsWholeWritten page old new
WritingEnds page old new failed fails WriteFault = IsCutOff page old new failed fails
WritingEnds page old new failed fails status = ⊥

-- the output is as it was
abbrev pub IsUntouched : (old new : Option Text) → (failed fails : ℕ) → Type 0
IsUntouched old new failed fails = (new ≡ old) × (fails ≡ failed)

-- the same of a text that was read
abbrev pub TextCause : Text → (old new : Option Text) → (failed fails : ℕ) → ChartStatus → Type 0
TextCause text old new failed fails Done = (page : Text) × IsPageOf text page × IsWholeWritten page old new
TextCause text old new failed fails WriteFault = (page : Text) × IsPageOf text page × IsCutOff page old new failed fails
TextCause text old new failed fails (Refused line why) = RefusesChart text line why × IsUntouched old new failed fails
TextCause text old new failed fails Memory = IsUntouched old new failed fails
TextCause text old new failed fails status = ⊥

-- and of a path
abbrev pub ChartCause : Option Text → (before now : ℕ) → (old new : Option Text) → (failed fails : ℕ) → ChartStatus → Type 0
ChartCause told before now old new failed fails Done = OfReport told (λ page. IsWholeWritten page old new)
ChartCause told before now old new failed fails Usage = ⊥
ChartCause told before now old new failed fails (Refused line why) = IsRefused told line why × IsUntouched old new failed fails
ChartCause told before now old new failed fails ReadFault = Rose before now × IsUntouched old new failed fails
ChartCause told before now old new failed fails WriteFault = OfReport told (λ page. IsCutOff page old new failed fails)
ChartCause told before now old new failed fails Memory = IsUntouched old new failed fails
