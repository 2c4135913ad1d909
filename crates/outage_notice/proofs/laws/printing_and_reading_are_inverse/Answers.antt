use Rattle.outage_notice.proofs.ListLemmas.{one_list, one_meaning, list_reads, printed_again}
use Rattle.outage_notice.proofs.laws.printing_and_reading_are_inverse.Goals as goal

pub returns-clause-text : goal.returns-clause-text
returns-clause-text c = one_list

pub returns-clause-meaning : goal.returns-clause-meaning
returns-clause-meaning c = one_meaning

pub returns-clause-reads : goal.returns-clause-reads
returns-clause-reads c = list_reads

pub returns-clause-printable : goal.returns-clause-printable
returns-clause-printable c = printed_again
