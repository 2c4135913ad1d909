use Rattle.report_chart.proofs.TableLaws.{gaps, longest}
use Rattle.report_chart.proofs.laws.the_table_has_what_is_not_available.Goals as goal

pub returns-clause-gaps : goal.returns-clause-gaps
returns-clause-gaps c = gaps

pub returns-clause-longest : goal.returns-clause-longest
returns-clause-longest c = longest
