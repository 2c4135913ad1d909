-- Bars, printed part by part.
use Rattle.std.proofs.Common.{◌≡◌, ◌-◌, ℕ, ◌++◌, Result}
use Rattle.std.specs.Prelude.{OnOk}
use Rattle.raim_model.specs.declared.verdict.Run.{Run}
use Rattle.raim_model.specs.declared.span.Span.{Span}
use Rattle.text_lines.specs.Lines.{Text}
use Rattle.report_chart.specs.declared.kind.Kind.{Kind}
use Rattle.report_chart.specs.Kinds.{kind_of}
use Rattle.report_chart.specs.Band.{place, width, bar_style, bar_title, bar}
use Rattle.report_chart.proofs.TextLemmas.{ends}

-- a bar, from its kind and its places
pub bar_grows : {T E : Type 0} (span : Span) (run : Run) (kind : Kind) (x y : ℕ) (r : Result T E) (t0 t1 t2 : Text)
    → kind ≡ kind_of run.verdict → x ≡ place span run.first → y ≡ place span run.end
    → t1 ≡ t0 ++ bar_style kind x (y - x) → OnOk r (t2 ≡ t1 ++ bar_title kind run.first run.end) → OnOk r (t2 ≡ t0 ++ bar span run)
bar_grows span run kind x y r t0 t1 t2 k p q style title =
    ends r t0 t1 t2 (bar_style (kind_of run.verdict) (place span run.first) (width span run)) (bar_title (kind_of run.verdict) run.first run.end)
    (rw (k, p, q) at style) (rw k at title)
