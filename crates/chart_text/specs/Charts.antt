-- The text that a chart is made of: the report of a flight, or the text of a fleet.
use Rattle.std.specs.Prelude.{◌≡◌, ◌⊎◌, ◌<◌, ℕ, Bool, true, false, List, [], ◌∷◌, ◌++◌, length, map, codes, All}
use Rattle.raim_model.specs.declared.Run.{Run}
use Rattle.raim_model.specs.declared.TextWhy.{TextWhy}
use Rattle.text_lines.specs.Lines.{Text}
use Rattle.report_text.specs.Report.{IsReport}
use Rattle.report_chart.specs.declared.Chart.{Chart}
use Rattle.report_chart.specs.declared.Chart.TheVariants as chart
use Rattle.report_chart.specs.Chart.{IsFlight}
use Rattle.chart_text.specs.Flights.{RefusesFlight}
use Rattle.chart_text.specs.Blocks.{Said, said_by, begins, IsSayable}
use Rattle.chart_text.specs.Fleets.{IsFleetOf, RefusesFleet}

-- what a chart shows: one flight, or the routes of a fleet
pub data Shown : Type 0 where
  OneFlight : List Run → Shown
  Routes : List Said → Shown

abbrev pub shown_by : Chart → Shown
shown_by (chart.Flight runs) = OneFlight runs.items
shown_by (chart.Fleet rows) = Routes (map said_by rows.items)

-- The text says what is shown: it is the report of the flight, with times of UTC, or the text of a fleet of one route or more.
abbrev pub IsChartText : Text → Shown → Type 0
IsChartText text (OneFlight runs) = IsReport 0 runs text
IsChartText text (Routes saids) = (0 < length saids) × IsFleetOf saids text

-- it can be shown: flights are flights, and a line in the place of a report says why there is none
abbrev pub IsShowable : Shown → Type 0
IsShowable (OneFlight runs) = IsFlight runs
IsShowable (Routes saids) = All IsSayable saids

-- a text whose first line is `route 1`, with its line feed, is a fleet's
abbrev pub is_fleet : Text → Bool
is_fleet text = begins text (codes "route 1" ++ 10 ∷ [])

-- The text is refused, first at this line for this cause.
abbrev pub RefusesChart : Text → ℕ → TextWhy → Type 0
RefusesChart text line why = ((is_fleet text ≡ true) × RefusesFleet text line why) ⊎ ((is_fleet text ≡ false) × RefusesFlight text line why)
