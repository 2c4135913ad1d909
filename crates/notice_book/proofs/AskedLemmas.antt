-- What a command accepted.
use Rattle.std.proofs.Common.{◌≡◌, ℕ, Option, refl}
use Rattle.std.specs.Prelude.{IfSome}
use Rattle.text_lines.specs.Lines.{Text}
use Rattle.notice_book.specs.declared.command.Work.{Work}
use Rattle.notice_book.specs.declared.command.Work.TheVariants as work
use Rattle.notice_book.specs.declared.status.NoticeStatus.TheVariants.{Done}
use Rattle.notice_book.specs.Commands.{Asked}
use Rattle.notice_book.specs.Asking.{AsksList, notices_of, notices_asked}
use Rattle.notice_book.specs.Tables.{Tables}
use Rattle.notice_book.specs.Gains.{IsKept, Gains}
use Rattle.notice_book.specs.RunCauses.{WorkCause}
use Rattle.notice_book.proofs.KeptLemmas.{gains_none}

work_gains : (old new : Option Tables) (before now : ℕ) (held holds : Option Text) (failed fails : ℕ) (w : Work) → IfSome old IsKept
    → WorkCause old new before now held holds failed fails w Done → (w ≡ work.List → new ≡ old) → Gains old (notices_of w) new
work_gains old new before now held holds failed fails work.List kept cause read = gains_none old new kept (read refl)
work_gains old new before now held holds failed fails (work.Apply notice) kept cause read = cause.2

-- where it was done, the tables gained its notice, and nothing by a list
pub asked_gains : (old new : Option Tables) (before now : ℕ) (held holds : Option Text) (failed fails : ℕ) (asked : Asked) → IfSome old IsKept
    → WorkCause old new before now held holds failed fails asked.work Done → (AsksList asked → new ≡ old) → Gains old (notices_asked asked) new
asked_gains old new before now held holds failed fails asked kept cause read = work_gains old new before now held holds failed fails asked.work kept cause read
