-- The charts that have a page. Times are milliseconds of UTC since 1980-01-06T00:00Z.
use Rattle.std.specs.Prelude.{◌≡◌, ℤ, pos, ◌<ℤ◌, ◌≤ℤ◌, ◌+ℤ◌, List, [], ◌∷◌, Option, Some, None, IfSome, All}
use Rattle.raim_model.specs.Constants.{day_ms}
use Rattle.raim_model.specs.declared.verdict.Run.{Run}
use Rattle.raim_model.specs.declared.span.Span.{Span}
use Rattle.report_text.specs.Report.{IsPrintable, IsReadable}
use Rattle.report_chart.specs.declared.chart.Chart.{Chart}
use Rattle.report_chart.specs.declared.chart.Chart.TheVariants as chart
use Rattle.report_chart.specs.declared.chart.Row.{Row}
use Rattle.report_chart.specs.declared.chart.Row.TheVariants as row

-- the end of the last run, or the time itself where there is no run
abbrev pub end_after : ℤ → List Run → ℤ
end_after t [] = t
end_after t (run ∷ runs) = end_after run.end runs

-- from the start of the first run to the end of the last
abbrev pub span_of : List Run → Option Span
span_of [] = None
span_of (run ∷ runs) = Some (record { first = run.first; end = end_after run.end runs })

-- each run starts where the one before it ends, from first to end
abbrev pub Follow : ℤ → ℤ → List Run → Type 0
Follow first end [] = first ≡ end
Follow first end (run ∷ runs) = (run.first ≡ first) × (run.first <ℤ run.end) × Follow run.end end runs

-- The runs of a flight of a day at most. Each run has a line in a report, and is read back: its times have
-- a text, it is no overflow, and its PRNs are 1 to 32.
pub record AreRunsOf (span : Span) (runs : List Run) : Type 0 where
  pub follow : Follow span.first span.end runs
  pub short : span.end ≤ℤ (span.first +ℤ pos day_ms)
  pub printable : All (IsPrintable 0) runs
  pub readable : All IsReadable runs

-- the runs of a flight, which may have none
abbrev pub IsFlight : List Run → Type 0
IsFlight runs = IfSome (span_of runs) (λ span. AreRunsOf span runs)

abbrev pub IsRow : Row → Type 0
IsRow (row.Flight runs) = IsFlight runs.items
IsRow (row.Reason line) = Unit {0}

-- all its flights are flights
abbrev pub IsChart : Chart → Type 0
IsChart (chart.Flight runs) = IsFlight runs.items
IsChart (chart.Fleet rows) = All IsRow rows.items
