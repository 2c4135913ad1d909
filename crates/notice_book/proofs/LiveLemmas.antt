-- Each entry after a change is one.
use Rattle.std.proofs.Common.{◌≡◌, sym, subst, ◌==◌, not, List, ◌∷◌, Option, Some, None, Ok, Err, Vec, Global}
use Rattle.std.specs.Prelude.{All, filter, nat_lt, IfSome, IfOk, Result}
use Rattle.std.proofs.lemmas.List.Elements.{All-filter, All-append, All-cons}
use Rattle.notice_model.specs.declared.notice.Notice.{Notice}
use Rattle.notice_model.specs.declared.notice.Notice.TheVariants.{Add, Reschedule, Cancel}
use Rattle.notice_model.specs.declared.notice.Live.{Live}
use Rattle.notice_model.specs.Notices.{IsWellFormed}
use Rattle.notice_model.specs.Entries.{entries_after}
use Rattle.notice_book.specs.Tables.{IsLive, GoesWith}

-- what goes with a notice is an entry
change-live : (notice : Notice) (change : Option Live) → IsWellFormed notice → GoesWith notice change → IfSome change IsLive
change-live notice None formed goes = tt
change-live (Add number prn start end) (Some e) formed goes =
    subst (λ (o : Option Live). IfSome o IsLive) (sym goes) (formed.1, formed.2)
change-live (Reschedule number target start end) (Some e) formed goes =
    (goes.1, rw (goes.2, goes.3) formed.2)
change-live (Cancel number target) (Some e) formed goes = absurd cc

-- so entries are entries after it
pub after-live : (notice : Notice) (change : Option Live) (live : List Live) → IsWellFormed notice → GoesWith notice change → All IsLive live → All IsLive (entries_after notice change live)
after-live notice (Some e) live formed goes all =
    All-append IsLive (filter (λ x. nat_lt x.number e.number) live) (e ∷ filter (λ x. nat_lt e.number x.number) live)
    (All-filter (λ x. nat_lt x.number e.number) IsLive live all)
    (All-cons IsLive e (filter (λ x. nat_lt e.number x.number) live) (change-live notice (Some e) formed goes) (All-filter (λ x. nat_lt e.number x.number) IsLive live all))
after-live (Add number prn start end) None live formed goes all = all
after-live (Reschedule number target start end) None live formed goes all = absurd goes
after-live (Cancel number target) None live formed goes all = All-filter (λ x. not (x.number == target)) IsLive live all

-- the items of what a call answers
pub items-live : {E : Type 0} (result : Result (Vec Live Global) E) (es : List Live) → IfOk result (λ v. v.items ≡ es) → All IsLive es → IfOk result (λ v. All IsLive v.items)
items-live (Ok v) es same all = subst (λ l. All IsLive l) (sym same) all
items-live (Err e) es same all = tt
