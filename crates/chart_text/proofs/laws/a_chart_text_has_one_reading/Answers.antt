use Rattle.chart_text.proofs.MeaningLemmas.{one_shown, shown_passes}
use Rattle.chart_text.proofs.OnceLemmas.{chart_once}
use Rattle.chart_text.proofs.laws.a_chart_text_has_one_reading.Goals as goal

pub returns-clause-one : goal.returns-clause-one
returns-clause-one c = one_shown

pub returns-clause-either : goal.returns-clause-either
returns-clause-either c = shown_passes

pub returns-clause-once : goal.returns-clause-once
returns-clause-once c = chart_once
