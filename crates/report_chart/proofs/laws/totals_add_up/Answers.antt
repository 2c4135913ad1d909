use Rattle.report_chart.proofs.TotalLaws.{runs_add_up, times_add_up}
use Rattle.report_chart.proofs.laws.totals_add_up.Goals as goal

pub returns-clause-runs : goal.returns-clause-runs
returns-clause-runs c = runs_add_up

pub returns-clause-times : goal.returns-clause-times
returns-clause-times c = times_add_up
