use Rattle.std.proofs.Common.{◌≡◌, take, map}
use Rattle.raim_model.specs.AlmanacInForce.{time_of}
use Rattle.piece_verdict.proofs.constellation.times_of.Given as goal

abbrev pub invariant-loop-almanac : goal.invariant-loop-almanac
invariant-loop-almanac l = l.times.items ≡ map time_of (take l.almanac-index l.almanacs)
