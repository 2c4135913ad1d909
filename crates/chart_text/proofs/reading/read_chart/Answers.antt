use Rattle.chart_text.specs.Charts.{shown_by}
use Rattle.chart_text.proofs.MeaningLemmas.{answer_again, answer_no_fault}
use Rattle.chart_text.proofs.reading.read_chart.Goals as goal

pub returns-clause-again : goal.returns-clause-again
returns-clause-again c shown is can = answer_again shown_by c.args.text.now c.read.result c.read.ensures.chart c.read.ensures.showable shown is can

pub returns-clause-no_fault : goal.returns-clause-no_fault
returns-clause-no_fault c shown is can = answer_no_fault shown_by c.args.text.now c.read.result c.read.ensures.refused shown is can
