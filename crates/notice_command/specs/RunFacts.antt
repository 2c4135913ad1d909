-- What a run asks for, and the statuses that it can have.
use Rattle.std.specs.Prelude.{◌≡◌, ◌⊎◌, ℕ, List, Option, None, IfSome}
use Rattle.raim_model.specs.declared.TextWhy.{TextWhy}
use Rattle.raim_base.specs.Causes.{Rose}
use Rattle.text_lines.specs.Lines.{Text}
use Rattle.notice_model.specs.declared.notice.Notice.{Notice}
use Rattle.notice_book.specs.declared.status.NoticeStatus.{NoticeStatus}
use Rattle.notice_book.specs.declared.status.NoticeStatus.TheVariants as plain
use Rattle.notice_book.specs.Commands.{command_of}
use Rattle.notice_command.specs.declared.status.NanuStatus.{NanuStatus}
use Rattle.notice_command.specs.declared.status.NanuStatus.TheVariants.{Plain, ReadFault, BadText, Stopped}
use Rattle.notice_command.specs.FileWords.{file_of}
use Rattle.notice_command.specs.FileCauses.{Says, IsRefusedText}

-- the words have none of the forms
abbrev pub HaveNoForm : List Text → Type 0
HaveNoForm words = (file_of words ≡ None) × (command_of words ≡ None)

-- the status is one of a command of the book, of which this holds
abbrev pub IsPlainAnd : NanuStatus → (NoticeStatus → Type 0) → Type 0
IsPlainAnd (Plain status) P = P status
IsPlainAnd ReadFault P = ⊥
IsPlainAnd (BadText line why) P = ⊥
IsPlainAnd (Stopped at why) P = ⊥

-- the notices were accepted, one of them is refused, or memory was wanting
abbrev pub IsDoneOrStopped : NanuStatus → Type 0
IsDoneOrStopped (Plain plain.Done) = Unit {0}
IsDoneOrStopped (Plain plain.Memory) = Unit {0}
IsDoneOrStopped (Plain plain.Usage) = ⊥
IsDoneOrStopped (Plain (plain.Refused why)) = ⊥
IsDoneOrStopped (Plain plain.KeeperFault) = ⊥
IsDoneOrStopped (Plain (plain.NotOpened why)) = ⊥
IsDoneOrStopped (Plain plain.WriteFault) = ⊥
IsDoneOrStopped ReadFault = ⊥
IsDoneOrStopped (BadText line why) = ⊥
IsDoneOrStopped (Stopped at why) = Unit {0}

-- Of what the path holds where it is told, of the count of the file's faults, and of the keeper's: a file that is accepted has its
-- notices accepted or one of them refused, where no count rose, but for want of memory.
abbrev pub AcceptsFile : Option Text → ℕ → ℕ → ℕ → ℕ → NanuStatus → Type 0
AcceptsFile told failed fails before now status = IfSome told (λ bytes. (notices : List Notice) → Says notices bytes → (Rose failed fails → ⊥) → (Rose before now → ⊥) → IsDoneOrStopped status)

-- a file that is refused is refused at that line for that cause, where its count did not rise, but for want of memory
abbrev pub RefusesFile : Option Text → ℕ → ℕ → NanuStatus → Type 0
RefusesFile told failed fails status = IfSome told (λ bytes. (line : ℕ) (why : TextWhy) → IsRefusedText line why bytes → (Rose failed fails → ⊥) → (status ≡ BadText line why) ⊎ (status ≡ Plain plain.Memory))
