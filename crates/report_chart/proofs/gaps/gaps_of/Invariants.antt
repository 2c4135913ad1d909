use Rattle.std.proofs.Common.{◌≡◌, take}
use Rattle.report_chart.specs.Gaps.{gaps_of}
use Rattle.report_chart.proofs.gaps.gaps_of.Given as goal

-- those of the runs so far
abbrev pub invariant-loop-run : goal.invariant-loop-run
invariant-loop-run l = l.gaps.items ≡ gaps_of (take l.run-index l.runs)
