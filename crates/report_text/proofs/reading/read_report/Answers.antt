use Rattle.report_text.proofs.AnswerLemmas.{answer_report, answer_readable, answer_printable, answer_again, answer_no_fault}
use Rattle.report_text.proofs.reading.read_report.Goals as goal

pub returns-clause-report : goal.returns-clause-report
returns-clause-report c = answer_report (λ v. v.items) c.args.leap c.args.text.now c.lines.result c.lines.ensures.accepted

pub returns-clause-readable : goal.returns-clause-readable
returns-clause-readable c = answer_readable (λ v. v.items) c.args.leap c.args.text.now c.lines.result c.lines.ensures.accepted

pub returns-clause-printable : goal.returns-clause-printable
returns-clause-printable c = answer_printable (λ v. v.items) c.args.leap c.args.text.now c.lines.result c.lines.ensures.accepted

pub returns-clause-again : goal.returns-clause-again
returns-clause-again c runs printed all = answer_again (λ v. v.items) c.args.leap c.args.text.now c.lines.result c.lines.ensures.accepted runs printed all

pub returns-clause-no_fault : goal.returns-clause-no_fault
returns-clause-no_fault c runs printed all = answer_no_fault (λ v. v.items) c.args.leap c.args.text.now c.lines.result c.lines.ensures.refused runs printed all
