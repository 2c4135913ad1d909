use Rattle.chart_text.proofs.PrintedLemmas.{fleets_are_read}
use Rattle.chart_text.proofs.laws.what_a_fleet_prints_is_read.Goals as goal

pub returns : goal.returns
returns c = fleets_are_read
