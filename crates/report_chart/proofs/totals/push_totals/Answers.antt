use Rattle.std.proofs.Common.{◌++◌, ◌∙◌, ℕ, ap, ap₂}
use Rattle.std.specs.Prelude.{codes, length}
use Rattle.text_lines.specs.Lines.{Text}
use Rattle.report_chart.specs.declared.kind.Kind.TheVariants.{Available, Unavailable, Undecided}
use Rattle.report_chart.specs.Band.{ms_between}
use Rattle.report_chart.specs.Totals.{kind_row, total_row}
use Rattle.report_chart.proofs.TextLemmas.{parts6}
use Rattle.report_chart.proofs.totals.push_totals.Goals as goal

pub returns : goal.returns
returns c =
    parts6 c.push-2.result
    c.args.text.now.items c.push.new.text.items c.push_kind.new.text.items c.push_kind-2.new.text.items c.push_kind-3.new.text.items c.push_row.new.text.items c.push-2.new.text.items
    (codes "<table>\n<tr><th>Kind<th>Runs<th>Time\n") (kind_row Available c.args.runs.now) (kind_row Unavailable c.args.runs.now) (kind_row Undecided c.args.runs.now) (total_row (codes "Whole flight") (length c.args.runs.now) (ms_between c.args.span.first c.args.span.end)) (codes "</table>\n")
    c.in_ok-push.ensures c.in_ok-push_kind.ensures c.in_ok-push_kind-2.ensures c.in_ok-push_kind-3.ensures (c.in_ok-push_row.ensures ∙ ap (λ (t : Text). c.push_kind-3.new.text.items ++ t) (ap₂ (λ (r m : ℕ). total_row (codes "Whole flight") r m) c.whole_of.ensures.runs c.whole_of.ensures.ms)) c.push-2.ensures
