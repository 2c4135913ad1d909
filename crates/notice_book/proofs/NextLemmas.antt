-- Notices that may come next, one after the other.
use Rattle.std.proofs.Common.{◌≡◌, ◌⊎◌, ◌+◌, ◌∙◌, refl, sym, ap, subst, ℕ, ◌<◌, List, ◌∷◌, ◌++◌, length, take, drop, Option, Some, None, Result, Ok, Err, inl, inr, take-append-drop}
use Rattle.std.specs.Prelude.{IfSome, IfErr, IsOk, slice_index_or}
use Rattle.std.proofs.lemmas.List.{drop_more}
use Rattle.raim_base.specs.Causes.{Rose}
use Rattle.notice_model.specs.declared.notice.Notice.{Notice}
use Rattle.notice_model.specs.declared.notice.Notice.TheVariants.{Cancel}
use Rattle.notice_model.specs.Next.{IsNext, MayComeNext}
use Rattle.notice_book.specs.declared.fault.BookFault.{BookFault}
use Rattle.notice_book.specs.declared.fault.BookFault.TheVariants.{KeeperFault, Memory}
use Rattle.notice_book.specs.declared.in_order.BookStop.{BookStop}
use Rattle.notice_book.specs.Tables.{Tables}
use Rattle.notice_book.specs.Gains.{IsKept, Gains}
use Rattle.notice_book.specs.Answers.{Answers, HasBookCause}
use Rattle.notice_book.specs.Stops.{IsStopped, HasStopCause, stopped_for}
use Rattle.notice_book.proofs.OneAnswer.{completed}

-- a list is what stands before one of its places, what stands there, and the rest
parted : (list : List Notice) (at : ℕ) (d : Notice) → at < length list → list ≡ take at list ++ slice_index_or list at d ∷ drop (at + 1) list
parted list at d within = sym (take-append-drop at list) ∙ ap (λ l. take at list ++ l) (drop_more list at d within)

only_memory : (why : BookFault) → IsOk (stopped_for why) ⊎ (stopped_for why ≡ Err Memory) → why ≡ Memory
only_memory why (inl ok) = absurd cc
only_memory why (inr same) = cc

stop_cause : (before now : ℕ) (stop : BookStop) → HasStopCause before now (Err stop) → HasBookCause before now (stopped_for stop.why)
stop_cause before now stop cause = record { later = cause.later; failed = λ e. let why : stop.why ≡ KeeperFault = cc in cause.failed why }

-- where the keeper tells, and did not fail
stopped_all : (t : Tables) (new : Option Tables) (before now : ℕ) (list : List Notice) (stop : BookStop) → IsStopped (Some t) new list stop → IfSome new IsKept
    → HasStopCause before now (Err stop) → MayComeNext t.held list → (Rose before now → ⊥) → stop.why ≡ Memory
stopped_all t None before now list stop stopped again cause next quiet = absurd stopped.held
stopped_all t (Some u) before now list stop stopped again cause next quiet =
    let n = slice_index_or list stop.at (Cancel 0 0) in
    let here : IsNext (t.held ++ take stop.at list) n = next (take stop.at list) n (drop (stop.at + 1) list) (parted list stop.at (Cancel 0 0) stopped.within) in
    let there : IsNext u.held n = subst (λ (l : List Notice). IsNext l n) (sym stopped.held.0) here in
    only_memory stop.why (completed u before now n (stopped_for stop.why) again (stopped.why (Cancel 0 0)) (stop_cause before now stop cause) there quiet)

-- the same of an answer
pub told_all : (old new : Option Tables) (before now : ℕ) (list : List Notice) (result : Result (Unit {0}) BookStop) → IfErr result (IsStopped old new list) → IfSome new IsKept
    → HasStopCause before now result → IfSome old (λ t. MayComeNext t.held list → (Rose before now → ⊥) → IfErr result (λ stop. stop.why ≡ Memory))
told_all None new before now list result stopped again cause = tt
told_all (Some t) new before now list (Ok done) stopped again cause = λ next quiet. tt
told_all (Some t) new before now list (Err stop) stopped again cause = λ next quiet. stopped_all t new before now list stop stopped again cause next quiet
