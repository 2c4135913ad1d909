use Rattle.notice_book.proofs.NextLemmas.{told_all}
use Rattle.notice_book.proofs.in_order.apply_all.Goals as goal

pub returns-clause-complete : goal.returns-clause-complete
returns-clause-complete g c = told_all _ _ _ _ c.args.list.now c.accept_each.result c.accept_each.ensures.stopped c.accept_each.ensures.again c.accept_each.ensures.cause
