use Rattle.std.proofs.Common.{◌≡◌, ◌++◌, take}
use Rattle.piece_verdict.specs.Cuts.{times_inside}
use Rattle.piece_verdict.proofs.cuts.add_handovers.Given as goal

abbrev pub invariant-loop-time : goal.invariant-loop-time
invariant-loop-time l = l.times.items ≡ l.initial.times.items ++ times_inside l.flight (take l.time-index l.handovers)
