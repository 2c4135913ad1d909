use Rattle.solution_laws.proofs.Usables.{is_out_by, is_out_by_none, is_unhealthy, is_usable_not, is_usable_then}
use Rattle.solution_laws.proofs.verdicts.healthy_satellites_without_outage_are_usable.Goals as goal

pub returns-clause-unhealthy : goal.returns-clause-unhealthy
returns-clause-unhealthy c outages t rec n = is_unhealthy outages t rec n

pub returns-clause-out : goal.returns-clause-out
returns-clause-out c before after o t rec e h = is_usable_not _ t rec (is_out_by before after o rec.prn t e h)

pub returns-clause-usable : goal.returns-clause-usable
returns-clause-usable c outages t rec h n = is_usable_then outages t rec h (is_out_by_none outages rec.prn t n)
