-- The calls that a run makes on the desk, and how its keeper is started, by its status.
use Rattle.std.specs.Prelude.{◌≡◌, ◌⊎◌, List, [], Option, Some, None, Result, Ok, Err}
use Rattle.raim_model.specs.declared.FileNo.TheVariants.{Outages}
use Rattle.raim_model.specs.declared.TextWhy.TheVariants.{FileTooLong}
use Rattle.raim_base.specs.Calls.{Call, ReadsToEnd, ReadsAFront, FailsLast}
use Rattle.text_lines.specs.Lines.{Text}
use Rattle.notice_book.specs.Commands.{Asked}
use Rattle.notice_book.specs.Starts.{started_with}
use Rattle.notice_book.specs.Asking.{started_by}
use Rattle.notice_book.specs.declared.status.NoticeStatus.TheVariants as plain
use Rattle.notice_command.specs.declared.status.NanuStatus.{NanuStatus}
use Rattle.notice_command.specs.declared.status.NanuStatus.TheVariants.{Plain, ReadFault, BadText, Stopped}

-- Of a file of notices under a path: it is named once and read to its end, but up to some byte where it is too long or there is no memory.
-- Where a call fails it is the last.
abbrev pub FileCalls : Text → NanuStatus → List Call → Type 0
FileCalls path (Plain plain.Done) made = ReadsToEnd Outages path made
FileCalls path (Plain plain.KeeperFault) made = ReadsToEnd Outages path made
FileCalls path (Plain (plain.NotOpened why)) made = ReadsToEnd Outages path made
FileCalls path (Plain plain.Memory) made = ReadsToEnd Outages path made ⊎ ReadsAFront Outages path made
FileCalls path (Plain plain.Usage) made = ⊥
FileCalls path (Plain (plain.Refused why)) made = ⊥
FileCalls path (Plain plain.WriteFault) made = ⊥
FileCalls path ReadFault made = FailsLast Outages path made
FileCalls path (BadText line why) made = ReadsToEnd Outages path made ⊎ ((why ≡ FileTooLong) × ReadsAFront Outages path made)
FileCalls path (Stopped at why) made = ReadsToEnd Outages path made

-- of reading its notices
abbrev pub ReadCalls : {A : Type 0} → Text → Result A NanuStatus → List Call → Type 0
ReadCalls path (Ok notices) made = ReadsToEnd Outages path made
ReadCalls path (Err status) made = FileCalls path status made

-- Of the words of a book and a file, where they are such: other words make no call.
abbrev pub RunCalls : Option (Text × Text) → NanuStatus → List Call → Type 0
RunCalls None status made = made ≡ []
RunCalls (Some file) status made = FileCalls file.1 status made

-- Of a file of notices for a book: the keeper is started once, from the book, where the file says notices, and otherwise not.
abbrev pub FileStarts : Text → NanuStatus → Option (List Text) → Option (List Text) → Type 0
FileStarts book (Plain plain.Done) old new = new ≡ started_with book old
FileStarts book (Plain plain.KeeperFault) old new = new ≡ started_with book old
FileStarts book (Plain (plain.NotOpened why)) old new = new ≡ started_with book old
FileStarts book (Plain plain.Memory) old new = (new ≡ old) ⊎ (new ≡ started_with book old)
FileStarts book (Plain plain.Usage) old new = ⊥
FileStarts book (Plain (plain.Refused why)) old new = ⊥
FileStarts book (Plain plain.WriteFault) old new = ⊥
FileStarts book ReadFault old new = new ≡ old
FileStarts book (BadText line why) old new = new ≡ old
FileStarts book (Stopped at why) old new = new ≡ started_with book old

-- Of the words of a book and a file, where they are such, and otherwise of what the words ask of a book.
abbrev pub RunStarts : Option (Text × Text) → Option Asked → NanuStatus → Option (List Text) → Option (List Text) → Type 0
RunStarts None asked status old new = new ≡ started_by asked old
RunStarts (Some file) asked status old new = FileStarts file.0 status old new
