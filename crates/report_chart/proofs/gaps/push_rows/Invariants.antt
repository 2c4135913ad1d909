use Rattle.std.proofs.Common.{◌≡◌, ◌++◌, take}
use Rattle.std.specs.List.{flat_map}
use Rattle.report_chart.specs.Gaps.{longest_of, gap_row}
use Rattle.report_chart.proofs.gaps.push_rows.Given as goal

-- the rows so far
abbrev pub invariant-loop-run : goal.invariant-loop-run
invariant-loop-run l = l.text.items ≡ l.fn.text.items ++ flat_map (gap_row (longest_of l.gaps)) (take l.run-index l.gaps)
