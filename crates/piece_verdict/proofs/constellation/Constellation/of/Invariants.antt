use Rattle.std.proofs.Common.{◌≡◌, take}
use Rattle.piece_verdict.proofs.constellation.Constellation.of.Given as goal

abbrev pub invariant-loop-rec : goal.invariant-loop-rec
invariant-loop-rec l = l.satellites.items ≡ take l.rec-index l.records
