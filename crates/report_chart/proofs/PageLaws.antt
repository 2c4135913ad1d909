-- Hours, reasons and pages.
use Rattle.std.proofs.Common.{◌≡◌, ◌∙◌, sym, ap, ap₂, ℕ, ◌+◌, ◌-◌, ◌*◌, ◌/◌, ◌≤◌, ℤ, pos, ◌≤ℤ◌, List, [], ◌∷◌, ◌++◌, Option, Some, None, arith}
use Rattle.std.specs.Prelude.{unsigned_abs, codes, MatchOption}
use Rattle.jiff_core.proofs.SignedLemmas.{signed_arith}
use Rattle.gps_week.proofs.CastLemmas.{unsigned_abs-not_negative}
use Rattle.gps_week.proofs.InstantLemmas.{one_text}
use Rattle.raim_model.specs.declared.verdict.Run.{Run}
use Rattle.raim_model.specs.declared.span.Span.{Span}
use Rattle.text_lines.specs.Lines.{Text}
use Rattle.report_chart.specs.declared.chart.Chart.{Chart}
use Rattle.report_chart.specs.declared.chart.Chart.TheVariants as chart
use Rattle.report_chart.specs.declared.chart.Row.{Row}
use Rattle.report_chart.specs.declared.chart.Row.TheVariants as row
use Rattle.report_chart.specs.Chart.{span_of}
use Rattle.report_chart.specs.Clock.{hour_ms}
use Rattle.report_chart.specs.Head.{page_head}
use Rattle.report_chart.specs.Page.{IsSentence, details, ShowsRuns, heading, ShowsRow, ShowsRows, ShowsChart}
use Rattle.report_chart.specs.Laws.{HoursAreWhole, HasOnePage}

pub whole_hours : HoursAreWhole
whole_hours span hour is =
    let first : pos (unsigned_abs span.first) ≡ span.first = unsigned_abs-not_negative span.first is.epoch in
    let end : pos (unsigned_abs span.end) ≡ span.end = unsigned_abs-not_negative span.end (omega (arith, signed_arith, is.epoch, is.forward)) in (
      λ h. (after (unsigned_abs span.first) hour span.first first h.0, before (unsigned_abs span.end) hour span.end end h.1),
      λ h. (from (unsigned_abs span.first) hour span.first first h.0, until (unsigned_abs span.end) hour span.end end h.1),
    )
  where
    after : (a h : ℕ) (t : ℤ) → pos a ≡ t → (a + (hour_ms - 1)) / hour_ms ≤ h → t ≤ℤ pos (hour_ms * h)
    after a h t e below = omega (arith, signed_arith, e, below)

    before : (a h : ℕ) (t : ℤ) → pos a ≡ t → h ≤ a / hour_ms → pos (hour_ms * h) ≤ℤ t
    before a h t e below = omega (arith, signed_arith, e, below)

    from : (a h : ℕ) (t : ℤ) → pos a ≡ t → t ≤ℤ pos (hour_ms * h) → (a + (hour_ms - 1)) / hour_ms ≤ h
    from a h t e below = omega (arith, signed_arith, e, below)

    until : (a h : ℕ) (t : ℤ) → pos a ≡ t → pos (hour_ms * h) ≤ℤ t → h ≤ a / hour_ms
    until a h t e below = omega (arith, signed_arith, e, below)

-- one text at most spells a time
one_sentence : (span : Span) (text other : Text) → IsSentence span text → IsSentence span other → other ≡ text
one_sentence span text other is also =
    let first : also.first ≡ is.first = one_text is.first also.first 0 span.first is.starts also.starts in
    let end : also.end ≡ is.end = one_text is.end also.end 0 span.end is.ends also.ends in
    also.spelled ∙ ap₂ (λ (f e : Text). codes "<p>From <time>" ++ f ++ codes "</time> to <time>" ++ e ++ codes "</time>.\n") first end ∙ sym is.spelled

one_flight : (runs : List Run) (span : Option Span) (text other : Text)
    → MatchOption span (text ≡ codes "<p>The report has no runs.\n") (λ s. ShowsRuns runs s text) → MatchOption span (other ≡ codes "<p>The report has no runs.\n") (λ s. ShowsRuns runs s other)
    → other ≡ text
one_flight runs None text other is also = also ∙ sym is
one_flight runs (Some span) text other is also =
    also.spelled ∙ ap (λ t. t ++ details span runs) (one_sentence span is.sentence also.sentence is.is_sentence also.is_sentence) ∙ sym is.spelled

one_row : (row : Row) (text other : Text) → ShowsRow row text → ShowsRow row other → other ≡ text
one_row (row.Flight runs) text other is also = one_flight runs.items (span_of runs.items) text other is also
one_row (row.Reason line) text other is also = also ∙ sym is

one_rows : (number : ℕ) (rows : List Row) (text other : Text) → ShowsRows number rows text → ShowsRows number rows other → other ≡ text
one_rows number [] text other is also = also ∙ sym is
one_rows number (row ∷ rows) text other is also =
    also.4 ∙ ap₂ (λ (a b : Text). heading number ++ a ++ b) (one_row row is.0 also.0 is.2 also.2) (one_rows (number + 1) rows is.1 also.1 is.3 also.3) ∙ sym is.4

one_body : (chart : Chart) (text other : Text) → ShowsChart chart text → ShowsChart chart other → other ≡ text
one_body (chart.Flight runs) text other is also = one_flight runs.items (span_of runs.items) text other is also
one_body (chart.Fleet rows) text other is also = one_rows 1 rows.items text other is also

pub one_page : HasOnePage
one_page chart text other is also = also.spelled ∙ ap (λ t. page_head ++ t) (one_body chart is.body also.body is.shows also.shows) ∙ sym is.spelled
