use Rattle.report_chart.proofs.AsciiLaws.{ascii}
use Rattle.report_chart.proofs.laws.pages_are_ascii.Goals as goal

pub returns : goal.returns
returns c = ascii
