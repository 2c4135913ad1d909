-- The cause of a status.
use Rattle.std.proofs.Common.{◌≡◌, ◌↔◌, refl, ℕ, ◌≤◌, Option, Some, None, Err, subst, sym, arith}
use Rattle.std.specs.Prelude.{IfSome, MatchOption}
use Rattle.raim_base.specs.Causes.{Rose}
use Rattle.notice_model.specs.declared.notice.Notice.{Notice}
use Rattle.notice_model.specs.Notices.{IsWellFormed}
use Rattle.notice_book.specs.declared.fault.BookFault.{BookFault}
use Rattle.notice_book.specs.declared.fault.BookFault.TheVariants.{BadNotice, Old, Unknown, Full, KeeperFault, Memory}
use Rattle.notice_book.specs.declared.status.NoticeStatus.{NoticeStatus}
use Rattle.notice_book.specs.declared.status.NoticeStatus.TheVariants as status
use Rattle.notice_book.specs.declared.command.Work.{Work}
use Rattle.notice_book.specs.declared.command.Work.TheVariants as work
use Rattle.text_lines.specs.Lines.{Text}
use Rattle.notice_book.specs.Commands.{Asked}
use Rattle.notice_book.specs.Tables.{Tables}
use Rattle.notice_book.specs.Answers.{Answers, HasBookCause}
use Rattle.notice_book.specs.RunCauses.{NoticeCause, WorkCause, refused_answer}
use Rattle.notice_book.specs.Statuses.{status_for, IsDoneOrRefused}

-- of a notice that is not accepted
at_why : (old new : Option Tables) (before now : ℕ) (notice : Notice) (why : BookFault) → ((refused_answer why ≡ Err BadNotice) ↔ (IsWellFormed notice → ⊥))
    → IfSome old (λ t. Answers t notice (refused_answer why)) → HasBookCause before now (refused_answer why)
    → NoticeCause old new before now notice (status_for why)
at_why old new before now notice BadNotice bad answer cause = ((λ e. cc, λ e. cc), (λ e. bad.0 refl, λ h. refl), answer)
at_why old new before now notice (Old last) bad answer cause = ((λ e. cc, λ e. cc), (λ e. absurd cc, λ h. let r = bad.1 h in absurd cc), answer)
at_why old new before now notice Unknown bad answer cause = ((λ e. cc, λ e. cc), (λ e. absurd cc, λ h. let r = bad.1 h in absurd cc), answer)
at_why old new before now notice Full bad answer cause = ((λ e. cc, λ e. cc), (λ e. absurd cc, λ h. let r = bad.1 h in absurd cc), answer)
at_why old new before now notice KeeperFault bad answer cause = cause.failed refl
at_why old new before now notice Memory bad answer cause = tt

-- the cause of the status of a fault
pub refused_cause : (old new : Option Tables) (before now : ℕ) (notice : Notice) (why : BookFault) (status : NoticeStatus) → ((refused_answer why ≡ Err BadNotice) ↔ (IsWellFormed notice → ⊥))
    → IfSome old (λ t. Answers t notice (refused_answer why)) → HasBookCause before now (refused_answer why) → status ≡ status_for why
    → NoticeCause old new before now notice status
refused_cause old new before now notice why status bad answer cause is =
    subst (λ s. NoticeCause old new before now notice s) (sym is) (at_why old new before now notice why bad answer cause)

-- a cause after a call that kept the tables is one from before it
from_start : (old mid new : Option Tables) (before then now : ℕ) (notice : Notice) (s : NoticeStatus) → mid ≡ old → before ≤ then
    → NoticeCause mid new then now notice s → NoticeCause old new before now notice s
from_start old mid new before then now notice status.Done same later cause = subst (λ o. NoticeCause o new before now notice status.Done) same cause
from_start old mid new before then now notice (status.Refused why) same later cause = subst (λ o. NoticeCause o new before now notice (status.Refused why)) same cause
from_start old mid new before then now notice status.KeeperFault same later cause = omega (arith, later, cause)
from_start old mid new before then now notice (status.NotOpened why) same later cause = omega (arith, later, cause)
from_start old mid new before then now notice status.Memory same later cause = tt
from_start old mid new before then now notice status.Usage same later cause = cause
from_start old mid new before then now notice status.WriteFault same later cause = cause

-- the cause of work that applies a notice
pub work_cause : (old mid new : Option Tables) (before then now : ℕ) (held holds : Option Text) (failed fails : ℕ) (w : Work) (notice : Notice) (s : NoticeStatus) → mid ≡ old → before ≤ then → w ≡ work.Apply notice
    → NoticeCause mid new then now notice s → WorkCause old new before now held holds failed fails w s
work_cause old mid new before then now held holds failed fails w notice s same later is cause =
    subst (λ v. WorkCause old new before now held holds failed fails v s) (sym is) (from_start old mid new before then now notice s same later cause)

-- where no count rose, work is done or refused
completed : (old new : Option Tables) (before now : ℕ) (held holds : Option Text) (failed fails : ℕ) (w : Work) (s : NoticeStatus) → WorkCause old new before now held holds failed fails w s
    → (Rose before now → ⊥) → (Rose failed fails → ⊥) → IsDoneOrRefused s
completed old new before now held holds failed fails w status.Done cause quiet calm = tt
completed old new before now held holds failed fails w (status.Refused why) cause quiet calm = tt
completed old new before now held holds failed fails w status.Memory cause quiet calm = tt
completed old new before now held holds failed fails work.List status.Usage cause quiet calm = cause
completed old new before now held holds failed fails (work.Apply notice) status.Usage cause quiet calm = cause
completed old new before now held holds failed fails work.List status.KeeperFault cause quiet calm = quiet cause
completed old new before now held holds failed fails (work.Apply notice) status.KeeperFault cause quiet calm = quiet cause
completed old new before now held holds failed fails work.List (status.NotOpened why) cause quiet calm = quiet cause
completed old new before now held holds failed fails (work.Apply notice) (status.NotOpened why) cause quiet calm = quiet cause
completed old new before now held holds failed fails work.List status.WriteFault cause quiet calm = calm cause.0
completed old new before now held holds failed fails (work.Apply notice) status.WriteFault cause quiet calm = cause

-- the same of what the words ask
pub asked_completed : (old new : Option Tables) (before now : ℕ) (held holds : Option Text) (failed fails : ℕ) (asked : Option Asked) (s : NoticeStatus) (Unasked : Type 0)
    → MatchOption asked Unasked (λ a. WorkCause old new before now held holds failed fails a.work s)
    → IfSome asked (λ a. (Rose before now → ⊥) → (Rose failed fails → ⊥) → IsDoneOrRefused s)
asked_completed old new before now held holds failed fails None s Unasked cause = tt
asked_completed old new before now held holds failed fails (Some a) s Unasked cause = completed old new before now held holds failed fails a.work s cause
