use Rattle.std.proofs.Common.{◌≡◌, ◌*◌, ◌≤◌, take}
use Rattle.raim_model.specs.Constants.{day_ms}
use Rattle.report_chart.specs.Totals.{runs_of, ms_of}
use Rattle.report_chart.proofs.totals.total_of.Given as goal

-- of the runs so far, each of which adds a day at most
abbrev pub invariant-loop-run : goal.invariant-loop-run
invariant-loop-run l =
    (l.total.runs ≡ runs_of l.kind (take l.run-index l.runs)) × (l.total.ms ≡ ms_of l.kind (take l.run-index l.runs)) × (l.total.runs ≤ l.run-index)
    × (l.total.ms ≤ day_ms * l.run-index)
