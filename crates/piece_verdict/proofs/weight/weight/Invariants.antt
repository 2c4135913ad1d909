use Rattle.std.proofs.Common.{◌≡◌, drop}
use Rattle.case_laws.specs.SightOver.{weight_over}
use Rattle.piece_verdict.proofs.weight.weight.Given as goal

abbrev pub invariant-loop-weight : goal.invariant-loop-weight
invariant-loop-weight l = weight_over l.weights l.prn ≡ weight_over (drop l.weight-index l.weights) l.prn
