use Rattle.notice_book.proofs.OneAnswer.{told_completed}
use Rattle.notice_book.proofs.accept.apply.Goals as goal

pub returns-clause-complete : goal.returns-clause-complete
returns-clause-complete g c =
    told_completed _ _ _ c.args.notice.now c.answer.result c.requires c.answer.ensures.answer c.answer.ensures.cause
