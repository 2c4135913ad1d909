use Rattle.report_chart.proofs.PageLaws.{whole_hours}
use Rattle.report_chart.proofs.laws.hours_are_whole.Goals as goal

pub returns : goal.returns
returns c = whole_hours
