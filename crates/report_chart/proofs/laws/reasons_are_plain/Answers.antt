use Rattle.report_chart.proofs.ReasonLaws.{plain}
use Rattle.report_chart.proofs.laws.reasons_are_plain.Goals as goal

pub returns : goal.returns
returns c = plain
