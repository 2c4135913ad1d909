use Rattle.std.proofs.Common.{◌≤◌, length}
use Rattle.fleet_run.specs.Texts.{texts_of}
use Rattle.fleet_run.proofs.WriteLemmas.{SoFar}
use Rattle.fleet_run.proofs.writing.write_blocks.Given as goal

-- the blocks of the first routes are written
abbrev pub invariant-loop-status : goal.invariant-loop-status
invariant-loop-status g l = record {
  so_far : SoFar (texts_of l.texts) (g.K.Sink.contents l.fn.out) (g.K.Sink.contents l.out) l.fn.steps l.steps l.rest l.number;
  later : g.K.Sink.faults l.fn.out ≤ g.K.Sink.faults l.out;
}

abbrev pub decreases-loop-status : goal.decreases-loop-status
decreases-loop-status g l = length l.rest
