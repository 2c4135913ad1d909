-- What is shown of flights and routes, printed part by part.
use Rattle.std.proofs.Common.{◌≡◌, ◌∙◌, refl, sym, ap, subst, ℕ, ◌+◌, ◌<◌, List, [], ◌∷◌, ◌++◌, append_assoc, append-nil, length, length-take, take, get_or, Result, Ok, Err, arith}
use Rattle.std.specs.Prelude.{codes, OnOk}
use Rattle.std.proofs.lemmas.List.{take_more}
use Rattle.raim_model.specs.declared.verdict.Run.{Run}
use Rattle.raim_model.specs.declared.span.Span.{Span}
use Rattle.text_lines.specs.Lines.{Text}
use Rattle.gps_week.specs.GpsTime.{SpellsInstant}
use Rattle.report_chart.specs.declared.chart.Row.{Row}
use Rattle.report_chart.specs.Appended.{Appended}
use Rattle.report_chart.specs.Page.{IsSentence, details, ShowsRuns, heading, ShowsRow, ShowsRows}

-- a sentence
pub sentence_grows : {T E : Type 0} (r : Result T E) (span : Span) (t0 t1 t2 t3 t4 t5 : Text) → t1 ≡ t0 ++ codes "<p>From <time>" → Appended (λ more. SpellsInstant more 0 span.first) t1 t2
    → t3 ≡ t2 ++ codes "</time> to <time>" → Appended (λ more. SpellsInstant more 0 span.end) t3 t4 → OnOk r (t5 ≡ t4 ++ codes "</time>.\n")
    → OnOk r (Appended (IsSentence span) t0 t5)
sentence_grows (Ok x) span t0 t1 t2 t3 t4 t5 a first b end d =
    let sentence : Text = codes "<p>From <time>" ++ first.0 ++ codes "</time> to <time>" ++ end.0 ++ codes "</time>.\n" in (
      sentence,
      record { first = first.0; end = end.0; starts = first.1; ends = end.1; spelled = refl },
      d ∙ ap (λ t. t ++ codes "</time>.\n") (end.2 ∙ ap (λ t. t ++ end.0) (b ∙ ap (λ t. t ++ codes "</time> to <time>") (first.2 ∙ ap (λ t. t ++ first.0) a))) ∙ simp append_assoc refl,
    )
sentence_grows (Err e) span t0 t1 t2 t3 t4 t5 a first b end d = tt

-- what is shown of a flight
pub runs_grow : {T E : Type 0} (r : Result T E) (span : Span) (runs : List Run) (t0 t1 t2 : Text) → Appended (IsSentence span) t0 t1 → OnOk r (t2 ≡ t1 ++ details span runs)
    → OnOk r (Appended (ShowsRuns runs span) t0 t2)
runs_grow (Ok x) span runs t0 t1 t2 sentence rest = (
  sentence.0 ++ details span runs,
  record { sentence = sentence.0; is_sentence = sentence.1; spelled = refl },
  rest ∙ ap (λ t. t ++ details span runs) sentence.2 ∙ append_assoc t0 sentence.0 (details span runs),
)
runs_grow (Err e) span runs t0 t1 t2 sentence rest = tt

-- one more route at the end
rows_more : (number last : ℕ) (rows : List Row) (text : Text) (row : Row) (shown : Text) → last ≡ number + length rows → ShowsRows number rows text → ShowsRow row shown
    → ShowsRows number (rows ++ row ∷ []) (text ++ (heading last ++ shown))
rows_more number last [] text row shown count shows is =
    let same : last ≡ number = count ∙ omega arith in
    (shown, [], is, refl, ap (λ t. t ++ (heading last ++ shown)) shows ∙ ap (λ (n : ℕ). heading n ++ shown) same ∙ sym (append-nil (heading number ++ shown)))
rows_more number last (r ∷ rs) text row shown count shows is = (
  shows.0,
  shows.1 ++ (heading last ++ shown),
  shows.2,
  rows_more (number + 1) last rs shows.1 row shown (count ∙ omega arith) shows.3 is,
  ap (λ t. t ++ (heading last ++ shown)) shows.4 ∙ append_assoc (heading number ++ shows.0) shows.1 (heading last ++ shown),
)

-- the same by the count of the routes that are shown
pub rows_step : (rows : List Row) (k : ℕ) (d : Row) (t0 t1 t2 t3 : Text) → k < length rows → Appended (ShowsRows 1 (take k rows)) t0 t1 → t2 ≡ t1 ++ heading (k + 1)
    → Appended (ShowsRow (get_or rows k d)) t2 t3 → Appended (ShowsRows 1 (take (k + 1) rows)) t0 t3
rows_step rows k d t0 t1 t2 t3 within before title row =
    let count : k + 1 ≡ 1 + length (take k rows) = omega (arith, length-take k rows) in
    let shows = rows_more 1 (k + 1) (take k rows) before.0 (get_or rows k d) row.0 count before.1 row.1 in (
      before.0 ++ (heading (k + 1) ++ row.0),
      subst (λ l. ShowsRows 1 l (before.0 ++ (heading (k + 1) ++ row.0))) (sym (take_more rows k d within)) shows,
      row.2 ∙ ap (λ t. t ++ row.0) (title ∙ ap (λ t. t ++ heading (k + 1)) before.2) ∙ simp append_assoc refl,
    )
