use Rattle.raim_model.specs.Constants.{earth_rotation}
use Rattle.raim_model.specs.Decimal.{turns_of_angle, turns_of_rate}
use Rattle.solution_laws.proofs.Nodes.{at_its_time, drifts}
use Rattle.solution_laws.proofs.laws.nodes_drift.Goals as goal

pub returns-clause-at_applicability : goal.returns-clause-at_applicability
returns-clause-at_applicability c rec = at_its_time (turns_of_angle rec.omega0) (turns_of_rate rec.rate) earth_rotation _ rec.toa_ms

pub returns-clause-since : goal.returns-clause-since
returns-clause-since c rec t = drifts (turns_of_angle rec.omega0) (turns_of_rate rec.rate) earth_rotation _ _ rec.toa_ms
