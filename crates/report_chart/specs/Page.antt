-- The page of a chart.
use Rattle.std.specs.Prelude.{◌≡◌, ℕ, ◌+◌, List, [], ◌∷◌, ◌++◌, codes, decimal, MatchOption}
use Rattle.raim_model.specs.declared.verdict.Run.{Run}
use Rattle.raim_model.specs.declared.span.Span.{Span}
use Rattle.text_lines.specs.Lines.{Text}
use Rattle.gps_week.specs.GpsTime.{SpellsInstant}
use Rattle.report_chart.specs.declared.chart.Chart.{Chart}
use Rattle.report_chart.specs.declared.chart.Chart.TheVariants as chart
use Rattle.report_chart.specs.declared.chart.Row.{Row}
use Rattle.report_chart.specs.declared.chart.Row.TheVariants as row
use Rattle.report_chart.specs.Chart.{span_of}
use Rattle.report_chart.specs.Band.{band}
use Rattle.report_chart.specs.Hours.{hours}
use Rattle.report_chart.specs.Totals.{totals}
use Rattle.report_chart.specs.Gaps.{gaps_of, gaps_text}
use Rattle.report_chart.specs.Refused.{reason_text}
use Rattle.report_chart.specs.Head.{page_head}

-- the sentence of a flight: its first and its last time
pub record IsSentence (span : Span) (text : Text) : Type 0 where
  pub first : Text
  pub end : Text
  pub starts : SpellsInstant first 0 span.first
  pub ends : SpellsInstant end 0 span.end
  pub spelled : text ≡ codes "<p>From <time>" ++ first ++ codes "</time> to <time>" ++ end ++ codes "</time>.\n"

-- its band, its hours, its totals and its table
abbrev pub details : Span → List Run → Text
details span runs = band span runs ++ hours span ++ totals span runs ++ gaps_text (gaps_of runs)

-- what is shown of a flight that takes this span
pub record ShowsRuns (runs : List Run) (span : Span) (text : Text) : Type 0 where
  pub sentence : Text
  pub is_sentence : IsSentence span sentence
  pub spelled : text ≡ sentence ++ details span runs

-- what is shown of a flight
abbrev pub ShowsFlight : List Run → Text → Type 0
ShowsFlight runs text = MatchOption (span_of runs) (text ≡ codes "<p>The report has no runs.\n") (λ span. ShowsRuns runs span text)

-- what is shown of a route
abbrev pub ShowsRow : Row → Text → Type 0
ShowsRow (row.Flight runs) text = ShowsFlight runs.items text
ShowsRow (row.Reason line) text = text ≡ reason_text line.items

-- the heading of the route with this number
abbrev pub heading : ℕ → Text
heading number = codes "<h2>Route " ++ decimal number ++ codes "</h2>\n"

-- routes one after another, numbered from this number on
abbrev pub ShowsRows : ℕ → List Row → Text → Type 0
ShowsRows number [] text = text ≡ []
ShowsRows number (row ∷ rows) text =
    (shown : Text) × (rest : Text) × ShowsRow row shown × ShowsRows (number + 1) rows rest × (text ≡ heading number ++ shown ++ rest)

abbrev pub ShowsChart : Chart → Text → Type 0
ShowsChart (chart.Flight runs) text = ShowsFlight runs.items text
ShowsChart (chart.Fleet rows) text = ShowsRows 1 rows.items text

-- The text is the page of the chart: its head, and what is shown of its flight or its routes.
pub record IsPage (chart : Chart) (text : Text) : Type 0 where
  pub body : Text
  pub shows : ShowsChart chart body
  pub spelled : text ≡ page_head ++ body
