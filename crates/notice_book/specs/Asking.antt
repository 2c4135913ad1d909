-- What is asked of a book.
use Rattle.std.specs.Prelude.{◌≡◌, List, [], ◌∷◌, Option, Some, None}
use Rattle.text_lines.specs.Lines.{Text}
use Rattle.notice_model.specs.declared.notice.Notice.{Notice}
use Rattle.notice_book.specs.declared.command.Work.{Work}
use Rattle.notice_book.specs.declared.command.Work.TheVariants as work
use Rattle.notice_book.specs.Commands.{Asked}
use Rattle.notice_book.specs.Starts.{started_with}

-- the list of what is in effect
abbrev pub AsksList : Asked → Type 0
AsksList asked = asked.work ≡ work.List

-- that a notice be accepted
abbrev pub AsksNotice : Asked → Type 0
AsksNotice asked = (notice : Notice) × (asked.work ≡ work.Apply notice)

abbrev pub notices_of : Work → List Notice
notices_of work.List = []
notices_of (work.Apply notice) = notice ∷ []

-- the notice that is to be accepted, if any
abbrev pub notices_asked : Asked → List Notice
notices_asked asked = notices_of asked.work

-- the paths that a keeper was started with after a command: its book behind them, and none where nothing is asked
abbrev pub started_by : Option Asked → Option (List Text) → Option (List Text)
started_by (Some asked) told = started_with asked.book told
started_by None told = told
