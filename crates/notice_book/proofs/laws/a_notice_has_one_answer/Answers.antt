use Rattle.notice_book.proofs.OneAnswer.{one_answer}
use Rattle.notice_book.proofs.laws.a_notice_has_one_answer.Goals as goal

pub returns : goal.returns
returns c = one_answer
