-- What is promised of answers to a notice as such.
use Rattle.std.specs.Prelude.{◌≡◌, ◌≢◌, Result, Err}
use Rattle.notice_model.specs.declared.notice.Notice.{Notice}
use Rattle.notice_book.specs.declared.fault.BookFault.{BookFault}
use Rattle.notice_book.specs.declared.fault.BookFault.TheVariants.{KeeperFault, Memory}
use Rattle.notice_book.specs.Tables.{Tables}
use Rattle.notice_book.specs.Answers.{Answers}

-- what the keeper could do is no part of the answer
abbrev pub IsOfTheNotice : Result (Unit {0}) BookFault → Type 0
IsOfTheNotice result = (result ≢ Err KeeperFault) × (result ≢ Err Memory)

-- the tables and a notice have one answer, but for those of the keeper
abbrev pub HasOneAnswer : Type 0
HasOneAnswer = (tables : Tables) (notice : Notice) (some other : Result (Unit {0}) BookFault) → Answers tables notice some → Answers tables notice other
    → IsOfTheNotice some → IsOfTheNotice other → some ≡ other
