-- What a fleet prints: its blocks as fleet_text has them, and what of them can be shown.
use Rattle.std.specs.Prelude.{◌*◌, ◌^◌, ◌<◌, ◌-ℤ◌, ℕ, pos, List, [], ◌∷◌, length, map}
use Rattle.raim_model.specs.declared.Run.{Run}
use Rattle.raim_model.specs.declared.TextWhy.{TextWhy}
use Rattle.raim_model.specs.declared.TextWhy.TheVariants.{CountDiffers}
use Rattle.text_lines.specs.Lines.{Text}
use Rattle.fleet_text.specs.Fleet.{Outcome, Predicted, Refused, Overflows, Manifold, IsBody, fleet_text}
use Rattle.report_chart.specs.Chart.{IsFlight}
use Rattle.chart_text.specs.Blocks.{Said}
use Rattle.chart_text.specs.Charts.{Routes, IsChartText, IsShowable}

-- the run by the time of UTC, which GPS time is ahead of by `leap` seconds
abbrev pub utc_run : (leap : ℕ) → Run → Run
utc_run leap run = record { first = run.first -ℤ pos (1000 * leap); end = run.end -ℤ pos (1000 * leap); verdict = run.verdict }

-- the numbers of a cause are of 32 bits
abbrev pub HasShortNumbers : TextWhy → Type 0
HasShortNumbers (CountDiffers said found) = (said < 2 ^ 32) × (found < 2 ^ 32)
HasShortNumbers why = Unit {0}

-- it can be shown: the runs are those of a flight of a day at most, and the numbers of a refusal are of 32 bits
abbrev pub IsPrintedBy : (leap : ℕ) → Outcome → Type 0
IsPrintedBy leap (Predicted runs) = IsFlight (map (utc_run leap) runs)
IsPrintedBy leap (Refused file line why) = (line < 2 ^ 32) × HasShortNumbers why
IsPrintedBy leap (Overflows at prn) = Unit {0}
IsPrintedBy leap Manifold = Unit {0}

-- each outcome can be shown, and has its body
abbrev pub ArePrinted : (leap : ℕ) → List Outcome → List Text → Type 0
ArePrinted leap [] [] = Unit {0}
ArePrinted leap (outcome ∷ outcomes) (body ∷ bodies) = IsBody leap outcome body × IsPrintedBy leap outcome × ArePrinted leap outcomes bodies
ArePrinted leap outcomes bodies = ⊥

-- What a fleet prints says something that can be shown, whatever the leap seconds of its times: so it is read.
abbrev pub ReadsFleets : Type 0
ReadsFleets = (leap : ℕ) (outcomes : List Outcome) (bodies : List Text) → 0 < length outcomes → ArePrinted leap outcomes bodies
    → (saids : List Said) × IsChartText (fleet_text bodies) (Routes saids) × IsShowable (Routes saids)
