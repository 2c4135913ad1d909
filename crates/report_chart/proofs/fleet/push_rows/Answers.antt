use Rattle.std.proofs.Common.{subst}
use Rattle.report_chart.specs.declared.chart.Row.{Row}
use Rattle.report_chart.specs.Appended.{Appended}
use Rattle.report_chart.specs.Page.{ShowsRow}
use Rattle.report_chart.proofs.PageLemmas.{rows_step}
use Rattle.report_chart.proofs.fleet.push_rows.Goals as goal

pub loop-k-preserved : goal.loop-k-preserved
loop-k-preserved c =
    let row = subst (λ (r : Row). Appended (ShowsRow r) c.push_heading.new.text.items c.push_row.new.text.items) c.index-rows-k.is c.in_ok-push_row.ensures in
    rows_step c.args.rows.now c.loop-k.k c.index-rows-k.result c.args.text.now.items c.loop-k.text.items c.push_heading.new.text.items c.push_row.new.text.items
    c.loop-k-test.true c.loop-k.invariant c.in_ok-push_heading.ensures row
