use Rattle.std.proofs.Common.{◌≡◌, ◌*◌, ◌≤◌, take}
use Rattle.raim_model.specs.Constants.{day_ms}
use Rattle.demo_texts.specs.Summary.{is_available, is_unavailable, is_undecided, ms_of}
use Rattle.demo_texts.proofs.summary.totals_of.Given as goal

-- the totals of the runs so far, each of which adds a day at most
abbrev pub invariant-loop-run : goal.invariant-loop-run
invariant-loop-run l =
    (l.totals.available ≡ ms_of is_available (take l.run-index l.runs)) × (l.totals.unavailable ≡ ms_of is_unavailable (take l.run-index l.runs))
    × (l.totals.undecided ≡ ms_of is_undecided (take l.run-index l.runs)) × (l.totals.available ≤ day_ms * l.run-index)
    × (l.totals.unavailable ≤ day_ms * l.run-index) × (l.totals.undecided ≤ day_ms * l.run-index)
