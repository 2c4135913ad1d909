use Rattle.std.specs.Prelude.{codes}
use Rattle.report_chart.specs.Band.{bar}
use Rattle.report_chart.proofs.TextLemmas.{flat_step}
use Rattle.report_chart.proofs.band.push_band.Goals as goal

pub loop-run-preserved : goal.loop-run-preserved
loop-run-preserved c =
    flat_step (bar c.args.span) c.args.runs.now c.loop-run.run-index _ c.args.text.now.items (codes "<ul class=band>\n") c.loop-run.text.items c.push_bar.new.text.items
    c.loop-run-test.true c.loop-run.invariant c.in_ok-push_bar.ensures
