use Rattle.std.specs.Prelude.{codes}
use Rattle.report_chart.specs.Gaps.{gap_rows}
use Rattle.report_chart.proofs.TextLemmas.{parts3}
use Rattle.report_chart.proofs.gaps.push_table.Goals as goal

pub returns : goal.returns
returns c =
    parts3 c.push-2.result
    c.args.text.now.items c.push.new.text.items c.push_rows.new.text.items c.push-2.new.text.items
    (codes "<table class=gaps>\n<tr><th>Start<th>End<th>Length<th>Kind<th>Reason\n") (gap_rows c.args.gaps.now) (codes "</table>\n")
    c.in_ok-push.ensures c.in_ok-push_rows.ensures c.push-2.ensures
