use Rattle.outage_notice.proofs.AnswerLemmas.{printed_reads}
use Rattle.outage_notice.proofs.print.print_outages.Goals as goal

pub returns-clause-read : goal.returns-clause-read
returns-clause-read c = printed_reads (λ v. v.items) c.args.leap c.args.list.now c.lines.result c.lines.ensures
