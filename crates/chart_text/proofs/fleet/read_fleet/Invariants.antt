use Rattle.std.proofs.Common.{length}
use Rattle.chart_text.proofs.FleetLemmas.{IsReadTo}
use Rattle.chart_text.proofs.fleet.read_fleet.Given as goal

-- the blocks so far say what the rows say
abbrev pub invariant-loop-rest : goal.invariant-loop-rest
invariant-loop-rest l = IsReadTo l.rows.items l.text l.rest

abbrev pub decreases-loop-rest : goal.decreases-loop-rest
decreases-loop-rest l = length l.rest
