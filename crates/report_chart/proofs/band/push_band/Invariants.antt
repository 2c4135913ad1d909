use Rattle.std.proofs.Common.{◌≡◌, ◌++◌, take}
use Rattle.std.specs.Prelude.{codes}
use Rattle.std.specs.List.{flat_map}
use Rattle.report_chart.specs.Band.{bar}
use Rattle.report_chart.proofs.band.push_band.Given as goal

-- the bars so far
abbrev pub invariant-loop-run : goal.invariant-loop-run
invariant-loop-run l = l.text.items ≡ l.fn.text.items ++ (codes "<ul class=band>\n" ++ flat_map (bar l.span) (take l.run-index l.runs))
