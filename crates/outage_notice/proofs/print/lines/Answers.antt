use Rattle.outage_notice.proofs.PrintLemmas.{lists_step}
use Rattle.outage_notice.proofs.print.lines.Goals as goal

pub loop-outage-preserved : goal.loop-outage-preserved
loop-outage-preserved c =
    lists_step c.args.leap c.args.list.now c.loop-outage.outage-index _ _ _ c.loop-outage-test.true c.loop-outage.invariant c.in-Ok.ensures
