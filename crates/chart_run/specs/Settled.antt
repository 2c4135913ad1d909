-- What the status is where the bytes of the file are told.
use Rattle.std.specs.Prelude.{◌≡◌, ◌≢◌, ◌≤◌, ◌<◌, ◌⊎◌, ℕ, length}
use Rattle.std.specs.declared.option.Option.{Option}
use Rattle.std.specs.declared.option.Option.TheVariants.{Some}
use Rattle.raim_model.specs.declared.TextWhy.{TextWhy}
use Rattle.raim_model.specs.declared.TextWhy.TheVariants.{FileTooLong}
use Rattle.raim_base.specs.Causes.{Rose}
use Rattle.text_lines.specs.Lines.{Text}
use Rattle.chart_text.specs.Charts.{Shown, IsChartText, IsShowable, RefusesChart}
use Rattle.chart_run.specs.declared.status.ChartStatus.{ChartStatus}
use Rattle.chart_run.specs.declared.status.ChartStatus.TheVariants.{Done, Refused, ReadFault, WriteFault, Memory}
use Rattle.chart_run.specs.Files.{longest_report}

-- the text settles the status, up to faults of writing
pub record IsSettled (text : Text) (status : ChartStatus) : Type 0 where
  pub too_long : longest_report < length text → status ≡ Refused 0 FileTooLong
  pub refused : (line : ℕ) (why : TextWhy) → length text ≤ longest_report → RefusesChart text line why → status ≡ Refused line why
  pub answered : (shown : Shown) → length text ≤ longest_report → IsChartText text shown → IsShowable shown → (status ≡ Done) ⊎ (status ≡ WriteFault)

-- Where the path holds a text, and the status is neither want of memory nor a fault of reading, the text settles it.
abbrev pub Settles : Option Text → ChartStatus → Type 0
Settles told status = (text : Text) → told ≡ Some text → status ≢ Memory → status ≢ ReadFault → IsSettled text status

-- A file within the size that says what is shown is done where no count of faults rose, before and now, but for want of
-- memory: that of the file, and that of the output.
abbrev pub Completes : Option Text → (before now : ℕ) → (failed fails : ℕ) → ChartStatus → Type 0
Completes told before now failed fails status = (text : Text) (shown : Shown) → told ≡ Some text → length text ≤ longest_report → IsChartText text shown → IsShowable shown
    → (Rose before now → ⊥) → (Rose failed fails → ⊥) → (status ≡ Done) ⊎ (status ≡ Memory)
