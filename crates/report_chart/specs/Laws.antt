-- What is promised of pages as such.
use Rattle.std.specs.Prelude.{◌≡◌, ◌≢◌, ◌↔◌, ℕ, ◌+◌, ◌*◌, ◌^◌, ◌≤◌, ◌<◌, ℤ, pos, ◌≤ℤ◌, ◌<ℤ◌, List, [], ◌∷◌, length, Some, All, Contains}
use Rattle.std.specs.List.{flat_map, sum_by}
use Rattle.std.specs.Str.{IsAscii}
use Rattle.raim_model.specs.declared.verdict.Run.{Run}
use Rattle.raim_model.specs.declared.verdict.Verdict.TheVariants as verdict
use Rattle.raim_model.specs.declared.span.Span.{Span}
use Rattle.text_lines.specs.Lines.{Text}
use Rattle.report_chart.specs.declared.chart.Chart.{Chart}
use Rattle.report_chart.specs.declared.chart.Chart.TheVariants as chart
use Rattle.report_chart.specs.declared.kind.Kind.TheVariants.{Available, Unavailable, Undecided}
use Rattle.report_chart.specs.Chart.{span_of, AreRunsOf, IsChart}
use Rattle.report_chart.specs.Clock.{hour_ms}
use Rattle.report_chart.specs.Band.{band_units, ms_between, ms_of_run, place, width}
use Rattle.report_chart.specs.Hours.{hour_from, hour_until, IsFlightSpan}
use Rattle.report_chart.specs.Totals.{runs_of, ms_of}
use Rattle.report_chart.specs.Gaps.{gaps_of, longest_of}
use Rattle.report_chart.specs.Refused.{escaped_byte}
use Rattle.report_chart.specs.Page.{IsPage}

-- each bar starts where the one before it ends, the first at x, and the last ends at the end of the band
abbrev pub LieSideBySide : Span → ℕ → List Run → Type 0
LieSideBySide span x [] = x ≡ band_units
LieSideBySide span x (run ∷ runs) = (place span run.first ≡ x) × LieSideBySide span (place span run.first + width span run) runs

-- the bars of a flight fill its band
abbrev pub BarsFillTheBand : Type 0
BarsFillTheBand = (span : Span) (runs : List Run) → span_of runs ≡ Some span → AreRunsOf span runs → LieSideBySide span 0 runs

-- so their widths add up to it
abbrev pub WidthsAddUp : Type 0
WidthsAddUp = (span : Span) (runs : List Run) → span_of runs ≡ Some span → AreRunsOf span runs → sum_by (width span) runs ≡ band_units

-- the place of a time is its share of the flight's time, rounded down to a unit
abbrev pub PlacesAreShares : Type 0
PlacesAreShares = (span : Span) (t : ℤ) → span.first <ℤ span.end →
    (place span t * ms_between span.first span.end ≤ band_units * ms_between span.first t)
    × (band_units * ms_between span.first t < (place span t + 1) * ms_between span.first span.end)

-- the hours from the first to the last are the whole hours at or after the flight's first time and at or before its end
abbrev pub HoursAreWhole : Type 0
HoursAreWhole = (span : Span) (hour : ℕ) → IsFlightSpan span →
    ((hour_from span.first ≤ hour) × (hour ≤ hour_until span.end)) ↔ ((span.first ≤ℤ pos (hour_ms * hour)) × (pos (hour_ms * hour) ≤ℤ span.end))

-- a run is in the table exactly where it is in the flight and is not Available
abbrev pub TableHasGaps : Type 0
TableHasGaps = (runs : List Run) (run : Run) → Contains (gaps_of runs) run ↔ (Contains runs run × (run.verdict ≢ verdict.Available))

-- none of them lasts longer than the longest, and some of them as long
abbrev pub LongestIsLongest : Type 0
LongestIsLongest = (runs : List Run) → All (λ run. ms_of_run run ≤ longest_of (gaps_of runs)) (gaps_of runs)
    × (gaps_of runs ≢ [] → (run : Run) × Contains (gaps_of runs) run × (ms_of_run run ≡ longest_of (gaps_of runs)))

-- the runs of the three kinds are those of the flight
abbrev pub RunsAddUp : Type 0
RunsAddUp = (runs : List Run) → runs_of Available runs + runs_of Unavailable runs + runs_of Undecided runs ≡ length runs

-- and their times that of the flight
abbrev pub TimesAddUp : Type 0
TimesAddUp = (span : Span) (runs : List Run) → span_of runs ≡ Some span → AreRunsOf span runs →
    ms_of Available runs + ms_of Unavailable runs + ms_of Undecided runs ≡ ms_between span.first span.end

-- a byte of text that begins no markup
pub record IsPlain (b : ℕ) : Type 0 where
  pub from : 32 ≤ b
  pub until : b < 127
  pub less : b ≢ 60
  pub greater : b ≢ 62
  pub quote : b ≢ 34

-- whatever the bytes of a reason are, they are shown as text
abbrev pub ReasonsArePlain : Type 0
ReasonsArePlain = (line : Text) → All IsPlain (flat_map escaped_byte line)

-- no more routes than a vector has room for
abbrev pub HasFewRoutes : Chart → Type 0
HasFewRoutes (chart.Flight runs) = Unit {0}
HasFewRoutes (chart.Fleet rows) = length rows.items < 2 ^ 63

-- a page is ASCII
abbrev pub PagesAreAscii : Type 0
PagesAreAscii = (c : Chart) (text : Text) → IsChart c → HasFewRoutes c → IsPage c text → IsAscii text

-- a chart has one page at most
abbrev pub HasOnePage : Type 0
HasOnePage = (c : Chart) (text other : Text) → IsPage c text → IsPage c other → other ≡ text
