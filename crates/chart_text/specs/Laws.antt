-- What is promised of the texts of charts as such.
use Rattle.std.specs.Prelude.{◌≡◌, ℕ}
use Rattle.raim_model.specs.declared.TextWhy.{TextWhy}
use Rattle.text_lines.specs.Lines.{Text}
use Rattle.chart_text.specs.Charts.{Shown, IsChartText, IsShowable, RefusesChart}

-- a text says one thing at most
abbrev pub SaysOneThing : Type 0
SaysOneThing = (text : Text) (shown other : Shown) → IsChartText text shown → IsShowable shown → IsChartText text other → IsShowable other → other ≡ shown

-- a text that says something is not refused
abbrev pub RefusesNoneShown : Type 0
RefusesNoneShown = (text : Text) (shown : Shown) (line : ℕ) (why : TextWhy) → IsChartText text shown → IsShowable shown → RefusesChart text line why → ⊥

-- a text is refused at one line for one cause at most
abbrev pub RefusesOnce : Type 0
RefusesOnce = (text : Text) (line other : ℕ) (why cause : TextWhy) → RefusesChart text line why → RefusesChart text other cause → (line ≡ other) × (why ≡ cause)
