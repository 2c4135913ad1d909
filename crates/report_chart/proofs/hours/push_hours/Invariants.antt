use Rattle.std.proofs.Common.{◌≡◌, ◌-◌, ◌++◌}
use Rattle.std.specs.Prelude.{codes}
use Rattle.report_chart.specs.Hours.{hour_from, hour_marks}
use Rattle.report_chart.proofs.hours.push_hours.Given as goal

-- the hours so far
abbrev pub invariant-loop-hour : goal.invariant-loop-hour
invariant-loop-hour l = l.text.items ≡ l.fn.text.items ++ (codes "<ol class=hours>\n" ++ hour_marks l.span (hour_from l.span.first) (l.hour - hour_from l.span.first))
