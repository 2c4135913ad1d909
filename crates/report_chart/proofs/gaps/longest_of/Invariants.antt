use Rattle.std.proofs.Common.{◌≡◌, take}
use Rattle.report_chart.specs.Gaps.{longest_of}
use Rattle.report_chart.proofs.gaps.longest_of.Given as goal

-- the longest so far
abbrev pub invariant-loop-run : goal.invariant-loop-run
invariant-loop-run l = l.longest ≡ longest_of (take l.run-index l.gaps)
