use Rattle.std.proofs.Common.{◌≡◌, take}
use Rattle.piece_verdict.proofs.constellation.constellations_of.Given as goal

abbrev pub invariant-loop-almanac : goal.invariant-loop-almanac
invariant-loop-almanac l = l.constellations.items ≡ take l.almanac-index l.almanacs
