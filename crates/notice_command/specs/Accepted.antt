-- The notices that one call accepted.
use Rattle.std.specs.Prelude.{◌≡◌, ◌⊎◌, List, [], ◌++◌, length, Option, Some, IfSome}
use Rattle.text_lines.specs.Lines.{Text}
use Rattle.notice_model.specs.declared.notice.Notice.{Notice}
use Rattle.notice_book.specs.declared.status.NoticeStatus.TheVariants as plain
use Rattle.notice_book.specs.Commands.{Asked}
use Rattle.notice_book.specs.Asking.{notices_asked}
use Rattle.notice_book.specs.Tables.{Tables}
use Rattle.notice_book.specs.Gains.{Gains}
use Rattle.notice_command.specs.declared.status.NanuStatus.{NanuStatus}
use Rattle.notice_command.specs.declared.status.NanuStatus.TheVariants.{Plain, ReadFault, BadText, Stopped}
use Rattle.notice_command.specs.FileCauses.{Says}

-- of a command: its notice where it is done, and otherwise none
abbrev pub accepted_by : Option Asked → NanuStatus → List Notice
accepted_by (Some asked) (Plain plain.Done) = notices_asked asked
accepted_by _ _ = []

-- the first notices of a file with these bytes
abbrev pub AreFirstOf : Text → List Notice → Type 0
AreFirstOf bytes accepted = (rest : List Notice) × Says (accepted ++ rest) bytes

-- Of a file with these bytes: all where it is done, those before the one that is refused, the first of them where the keeper failed or no
-- memory was left, and otherwise none.
abbrev pub AreAcceptedOf : Text → NanuStatus → List Notice → Type 0
AreAcceptedOf bytes (Plain plain.Done) accepted = Says accepted bytes
AreAcceptedOf bytes (Plain plain.KeeperFault) accepted = AreFirstOf bytes accepted
AreAcceptedOf bytes (Plain (plain.NotOpened why)) accepted = accepted ≡ []
AreAcceptedOf bytes (Plain plain.Memory) accepted = (accepted ≡ []) ⊎ AreFirstOf bytes accepted
AreAcceptedOf bytes (Plain plain.Usage) accepted = accepted ≡ []
AreAcceptedOf bytes (Plain (plain.Refused why)) accepted = accepted ≡ []
AreAcceptedOf bytes (Plain plain.WriteFault) accepted = accepted ≡ []
AreAcceptedOf bytes ReadFault accepted = accepted ≡ []
AreAcceptedOf bytes (BadText line why) accepted = accepted ≡ []
AreAcceptedOf bytes (Stopped at why) accepted = (length accepted ≡ at) × AreFirstOf bytes accepted

-- the held notices gained those of a file that were accepted, in their order, and are a book again
pub record GainsAccepted (told : Option Text) (status : NanuStatus) (old new : Option Tables) : Type 0 where
  pub accepted : List Notice
  pub of_file : IfSome told (λ bytes. AreAcceptedOf bytes status accepted)
  pub gains : Gains old accepted new
