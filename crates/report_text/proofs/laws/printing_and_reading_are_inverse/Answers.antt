use Rattle.report_text.proofs.ReportLaws.{one_report, one_meaning, report_reads, accepts_report, printable_runs}
use Rattle.report_text.proofs.laws.printing_and_reading_are_inverse.Goals as goal

pub returns-clause-text : goal.returns-clause-text
returns-clause-text c = one_report

pub returns-clause-meaning : goal.returns-clause-meaning
returns-clause-meaning c = one_meaning

pub returns-clause-reads : goal.returns-clause-reads
returns-clause-reads c = report_reads

pub returns-clause-accepts : goal.returns-clause-accepts
returns-clause-accepts c = accepts_report

pub returns-clause-printable : goal.returns-clause-printable
returns-clause-printable c = printable_runs
