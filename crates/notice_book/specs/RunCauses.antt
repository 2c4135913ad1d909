-- The cause of each status that a command can have.
use Rattle.std.specs.Prelude.{◌≡◌, ◌≢◌, ◌↔◌, ℕ, List, [], ◌∷◌, map, All, Option, Result, Ok, Err, IfSome}
use Rattle.std.specs.Io.KnownBytes.{Appends}
use Rattle.raim_base.specs.Causes.{Rose, GrowsByFront}
use Rattle.text_lines.specs.Lines.{Text}
use Rattle.outage_notice.specs.Printing.{ListsOutages}
use Rattle.notice_model.specs.declared.notice.Notice.{Notice}
use Rattle.notice_model.specs.declared.notice.UtcOutage.{UtcOutage}
use Rattle.notice_model.specs.Notices.{IsWellFormed}
use Rattle.notice_model.specs.InEffect.{in_effect}
use Rattle.notice_book.specs.declared.fault.BookFault.{BookFault}
use Rattle.notice_book.specs.declared.fault.BookFault.TheVariants as fault
use Rattle.notice_book.specs.declared.status.NoticeStatus.{NoticeStatus}
use Rattle.notice_book.specs.declared.status.NoticeStatus.TheVariants.{Done, Usage, Refused, KeeperFault, NotOpened, WriteFault, Memory}
use Rattle.notice_book.specs.declared.command.Work.{Work}
use Rattle.notice_book.specs.declared.command.Work.TheVariants as work
use Rattle.notice_book.specs.Tables.{Tables}
use Rattle.notice_book.specs.Gains.{Gains}
use Rattle.notice_book.specs.Answers.{Answers}
use Rattle.notice_book.specs.Outages.{outage_of, IsUtcOutage, at_leap_zero}

-- a fault of the notice, and none of the keeper
abbrev pub IsRefusal : BookFault → Type 0
IsRefusal why = (why ≢ fault.KeeperFault) × (why ≢ fault.Memory)

abbrev pub accepted_answer : Result (Unit {0}) BookFault
accepted_answer = Ok tt

abbrev pub refused_answer : BookFault → Result (Unit {0}) BookFault
refused_answer why = Err why

-- the text is that of outages, which are those in effect where the keeper tells
pub record IsListed (told : Option Tables) (text : Text) : Type 0 where
  pub outages : List UtcOutage
  pub ranges : All IsUtcOutage outages
  pub current : IfSome told (λ t. outages ≡ map outage_of (in_effect t.held))
  pub printed : ListsOutages 0 (map at_leap_zero outages) text

-- of a keeper: its tables and its count before and after
module _ (old new : Option Tables) (before now : ℕ) where
  abbrev pub NoticeCause : Notice → NoticeStatus → Type 0
  NoticeCause notice Done = IsWellFormed notice × IfSome old (λ t. Answers t notice accepted_answer) × Gains old (notice ∷ []) new
  NoticeCause notice (Refused why) = IsRefusal why × ((why ≡ fault.BadNotice) ↔ (IsWellFormed notice → ⊥)) × IfSome old (λ t. Answers t notice (refused_answer why))
  NoticeCause notice KeeperFault = Rose before now
  NoticeCause notice (NotOpened why) = Rose before now
  NoticeCause notice Memory = Unit {0}
  NoticeCause notice Usage = ⊥
  NoticeCause notice WriteFault = ⊥

-- and of the output: what it held and holds, and its count
module _ (old new : Option Tables) (before now : ℕ) (held holds : Option Text) (failed fails : ℕ) where
  abbrev pub ListCause : NoticeStatus → Type 0
  ListCause Done = (text : Text) × IsListed old text × Appends held holds text
  ListCause WriteFault = Rose failed fails × ((text : Text) × IsListed old text × GrowsByFront held holds text)
  ListCause KeeperFault = Rose before now
  ListCause (NotOpened why) = Rose before now
  ListCause Memory = Unit {0}
  ListCause Usage = ⊥
  ListCause (Refused why) = ⊥

  abbrev pub WorkCause : Work → NoticeStatus → Type 0
  WorkCause work.List status = ListCause status
  WorkCause (work.Apply notice) status = NoticeCause old new before now notice status
