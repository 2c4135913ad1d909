-- Where a list of notices was stopped.
use Rattle.std.specs.Prelude.{◌≡◌, ◌↔◌, ℕ, ◌<◌, ◌≤◌, List, length, take, All, Option, Result, Err, IfSome, IfErr, HoldsAt}
use Rattle.raim_base.specs.Causes.{Rose}
use Rattle.notice_model.specs.declared.notice.Notice.{Notice}
use Rattle.notice_model.specs.Notices.{IsWellFormed}
use Rattle.notice_book.specs.declared.fault.BookFault.{BookFault}
use Rattle.notice_book.specs.declared.fault.BookFault.TheVariants.{BadNotice, KeeperFault}
use Rattle.notice_book.specs.declared.in_order.BookStop.{BookStop}
use Rattle.notice_book.specs.Tables.{Tables}
use Rattle.notice_book.specs.Answers.{Answers}
use Rattle.notice_book.specs.Gains.{Gains}

abbrev pub stopped_for : BookFault → Result (Unit {0}) BookFault
stopped_for why = Err why

-- The first of them are held, and the next one has this answer. Each notice by itself is judged by every keeper.
pub record IsStopped (old new : Option Tables) (list : List Notice) (stop : BookStop) : Type 0 where
  pub within : stop.at < length list
  pub held : Gains old (take stop.at list) new
  pub formed : All IsWellFormed (take stop.at list)
  pub why : IfSome new (λ u. HoldsAt (λ notice. Answers u notice (stopped_for stop.why)) list stop.at)
  pub bad : HoldsAt (λ notice. (stop.why ≡ BadNotice) ↔ (IsWellFormed notice → ⊥)) list stop.at

-- the keeper's count never falls, and a stop for its fault comes only where it rose
pub record HasStopCause (before now : ℕ) (result : Result (Unit {0}) BookStop) : Type 0 where
  pub later : before ≤ now
  pub failed : IfErr result (λ stop. stop.why ≡ KeeperFault → Rose before now)
