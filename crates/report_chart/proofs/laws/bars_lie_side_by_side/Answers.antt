use Rattle.report_chart.proofs.BarLaws.{fill, widths, shares}
use Rattle.report_chart.proofs.laws.bars_lie_side_by_side.Goals as goal

pub returns-clause-fill : goal.returns-clause-fill
returns-clause-fill c = fill

pub returns-clause-widths : goal.returns-clause-widths
returns-clause-widths c = widths

pub returns-clause-shares : goal.returns-clause-shares
returns-clause-shares c = shares
