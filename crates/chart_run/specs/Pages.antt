-- The page of a text.
use Rattle.raim_model.specs.declared.Refusal.{Refusal}
use Rattle.raim_model.specs.declared.Refusal.TheVariants as stop
use Rattle.text_lines.specs.Lines.{Text}
use Rattle.report_chart.specs.declared.Chart.{Chart}
use Rattle.report_chart.specs.Chart.{IsChart}
use Rattle.report_chart.specs.Page.{IsPage}
use Rattle.chart_text.specs.Charts.{shown_by, IsChartText, IsShowable, RefusesChart}
use Rattle.chart_run.specs.declared.status.ChartStatus.{ChartStatus}
use Rattle.chart_run.specs.declared.status.ChartStatus.TheVariants.{Refused, Memory}

-- the text says what a chart shows, and this is the chart's page
pub record IsPageOf (text page : Text) : Type 0 where
  pub chart : Chart
  pub says : IsChartText text (shown_by chart)
  pub showable : IsShowable (shown_by chart)
  pub is_chart : IsChart chart
  pub is_page : IsPage chart page

-- the status of a text that is not read
abbrev pub status_for : Refusal → ChartStatus
status_for stop.Memory = Memory
status_for (stop.Text fault) = Refused fault.line fault.why

-- why a text has no page
abbrev pub TextStops : Text → ChartStatus → Type 0
TextStops text (Refused line why) = RefusesChart text line why
TextStops text Memory = Unit {0}
TextStops text status = ⊥
