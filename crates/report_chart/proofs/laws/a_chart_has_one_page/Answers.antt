use Rattle.report_chart.proofs.PageLaws.{one_page}
use Rattle.report_chart.proofs.laws.a_chart_has_one_page.Goals as goal

pub returns : goal.returns
returns c = one_page
