use Rattle.notice_model.specs.InEffect.{in_effect}
use Rattle.notice_laws.proofs.Numbers.{book-rising, rising-pairs}
use Rattle.notice_laws.proofs.Books.{one_more-book, one_more-change}
use Rattle.notice_laws.proofs.laws.one_more_notice.Goals as goal

pub returns-clause-book : goal.returns-clause-book
returns-clause-book c = one_more-book

pub returns-clause-change : goal.returns-clause-change
returns-clause-change c = one_more-change

pub returns-clause-rising : goal.returns-clause-rising
returns-clause-rising c notices book = rising-pairs (in_effect notices) (book-rising notices book)
