use Rattle.fleet_run.proofs.BodyLemmas.{one_body, one_fleet, stands_alone}
use Rattle.fleet_run.proofs.laws.a_block_stands_alone.Goals as goal

pub returns-clause-body : goal.returns-clause-body
returns-clause-body c = one_body

pub returns-clause-text : goal.returns-clause-text
returns-clause-text c = one_fleet

pub returns-clause-alone : goal.returns-clause-alone
returns-clause-alone c = stands_alone
