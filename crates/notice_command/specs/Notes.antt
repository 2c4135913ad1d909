-- The line that each status but Done writes to the note.
use Rattle.std.specs.Prelude.{◌+◌, [], ◌∷◌, ◌++◌, codes, decimal}
use Rattle.raim_base.specs.CauseWords.{why_text}
use Rattle.text_lines.specs.Lines.{Text}
use Rattle.notice_book.specs.Notes.{fault_text_of, note_of as plain_note}
use Rattle.notice_command.specs.declared.status.NanuStatus.{NanuStatus}
use Rattle.notice_command.specs.declared.status.NanuStatus.TheVariants.{Plain, ReadFault, BadText, Stopped}

-- messages count from 1
abbrev pub note_of : NanuStatus → Text
note_of (Plain status) = plain_note status
note_of ReadFault = codes "notice: read fault" ++ 10 ∷ []
note_of (BadText line why) = codes "notice: line " ++ decimal line ++ codes ": " ++ why_text why ++ 10 ∷ []
note_of (Stopped at why) = codes "notice: message " ++ decimal (at + 1) ++ codes ": " ++ fault_text_of why ++ 10 ∷ []
