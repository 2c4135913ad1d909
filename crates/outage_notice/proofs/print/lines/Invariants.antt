use Rattle.std.proofs.Common.{take}
use Rattle.outage_notice.specs.Printing.{ListsOutages}
use Rattle.outage_notice.proofs.print.lines.Given as goal

abbrev pub invariant-loop-outage : goal.invariant-loop-outage
invariant-loop-outage l = ListsOutages l.leap (take l.outage-index l.list) l.text.items
