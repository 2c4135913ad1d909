use Rattle.std.proofs.Common.{take}
use Rattle.report_chart.specs.Appended.{Appended}
use Rattle.report_chart.specs.Page.{ShowsRows}
use Rattle.report_chart.proofs.fleet.push_rows.Given as goal

-- the routes so far
abbrev pub invariant-loop-k : goal.invariant-loop-k
invariant-loop-k l = Appended (ShowsRows 1 (take l.k l.rows)) l.fn.text.items l.text.items
