-- The cause of each status that the notices of a file can have.
use Rattle.std.specs.Prelude.{◌≡◌, ◌≢◌, ◌⊎◌, ℕ, ◌<◌, ◌≤◌, List, length, Option, IfSome, HoldsAt}
use Rattle.raim_model.specs.declared.TextWhy.{TextWhy}
use Rattle.raim_model.specs.declared.TextWhy.TheVariants.{FileTooLong}
use Rattle.raim_base.specs.Causes.{Rose}
use Rattle.raim_base.specs.Sizes.{longest_file}
use Rattle.text_lines.specs.Lines.{Text, lines_of}
use Rattle.text_lines.specs.Reading.{Refuses}
use Rattle.notice_model.specs.declared.notice.Notice.{Notice}
use Rattle.notice_book.specs.declared.fault.BookFault.{BookFault}
use Rattle.notice_book.specs.declared.fault.BookFault.TheVariants as fault
use Rattle.notice_book.specs.declared.status.NoticeStatus.TheVariants as plain
use Rattle.notice_book.specs.Tables.{Tables}
use Rattle.notice_book.specs.Answers.{Answers}
use Rattle.notice_book.specs.Stops.{stopped_for}
use Rattle.notice_book.specs.RunCauses.{IsRefusal}
use Rattle.notice_command.specs.declared.status.NanuStatus.{NanuStatus}
use Rattle.notice_command.specs.declared.status.NanuStatus.TheVariants.{Plain, ReadFault, BadText, Stopped}
use Rattle.nanu_text.specs.Nanus.{nanu_lines}
use Rattle.nanu_text.specs.Answers.{SayNotices}

-- the file is accepted, and says these notices
abbrev pub Says : List Notice → Text → Type 0
Says notices bytes = (length bytes ≤ longest_file) × SayNotices (lines_of bytes) notices

-- the file is refused at that line, or is too long
abbrev pub IsRefusedText : ℕ → TextWhy → Text → Type 0
IsRefusedText line why bytes = ((length bytes ≤ longest_file) × Refuses nanu_lines (lines_of bytes) line why) ⊎ ((longest_file < length bytes) × (line ≡ 0) × (why ≡ FileTooLong))

-- why a file gives no notices: what its path holds where it is told, and the count of its faults
abbrev pub ReadCause : Option Text → ℕ → ℕ → NanuStatus → Type 0
ReadCause told before now (Plain plain.Memory) = Unit {0}
ReadCause told before now ReadFault = Rose before now
ReadCause told before now (BadText line why) = IfSome told (IsRefusedText line why)
ReadCause told before now _ = ⊥

-- the file was accepted
abbrev pub IsAcceptedFile : Option Text → Type 0
IsAcceptedFile told = (notices : List Notice) × IfSome told (Says notices)

-- the file was accepted, and the notice behind the first of them has this answer of the book
abbrev pub IsStoppedFile : Option Text → Option Tables → ℕ → BookFault → Type 0
IsStoppedFile told new at why = (notices : List Notice) × IfSome told (Says notices) × (at < length notices) × IfSome new (λ u. HoldsAt (λ notice. Answers u notice (stopped_for why)) notices at)

-- Of the path: what it holds, and the count of the file's faults. Of the keeper: its tables at the end, and its count.
module _ (told : Option Text) (failed fails : ℕ) (new : Option Tables) (before now : ℕ) where
  abbrev pub FileCause : NanuStatus → Type 0
  FileCause (Plain plain.Done) = IsAcceptedFile told
  FileCause (Plain plain.KeeperFault) = Rose before now × IsAcceptedFile told
  FileCause (Plain (plain.NotOpened why)) = Rose before now × IsAcceptedFile told
  FileCause (Plain plain.Memory) = Unit {0}
  FileCause (Plain plain.Usage) = ⊥
  FileCause (Plain (plain.Refused why)) = ⊥
  FileCause (Plain plain.WriteFault) = ⊥
  FileCause ReadFault = Rose failed fails
  FileCause (BadText line why) = IfSome told (IsRefusedText line why)
  FileCause (Stopped at why) = IsRefusal why × (why ≢ fault.BadNotice) × IsStoppedFile told new at why
