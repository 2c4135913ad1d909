-- A notice has one answer, and where nothing refuses it and the keeper does not fail it is accepted.
use Rattle.std.proofs.Common.{◌≡◌, ◌⊎◌, ◌≤◌, ℕ, List, length, Option, Some, None, Result, Ok, Err, refl, sym, ap, ◌∙◌, inl, inr, subst, arith}
use Rattle.std.specs.Prelude.{IsOk, IsSome, IfSome, IsSomeAnd}
use Rattle.raim_base.specs.Causes.{Rose}
use Rattle.notice_model.specs.declared.notice.Notice.{Notice}
use Rattle.notice_model.specs.declared.notice.Live.{Live}
use Rattle.notice_model.specs.Notices.{target_in}
use Rattle.notice_model.specs.InEffect.{in_effect}
use Rattle.notice_model.specs.Entries.{entry_at}
use Rattle.notice_model.specs.Next.{IsNext}
use Rattle.notice_book.specs.declared.fault.BookFault.{BookFault}
use Rattle.notice_book.specs.declared.fault.BookFault.TheVariants.{BadNotice, Old, Unknown, Full, KeeperFault, Memory}
use Rattle.notice_book.specs.Tables.{Tables}
use Rattle.notice_book.specs.Gains.{IsKept}
use Rattle.notice_book.specs.Answers.{Answers, HasBookCause}
use Rattle.notice_book.specs.Laws.{HasOneAnswer}

-- a target has no entry, and has one
none_or_one : (target : Option ℕ) (live : List Live) → IsSomeAnd target (λ number. entry_at number live ≡ None) → IfSome target (λ number. IsSome (entry_at number live)) → ⊥
none_or_one None live none one = absurd none
none_or_one (Some number) live none one = let bad : IsSome {T = Live} None = subst (λ (e : Option Live). IsSome e) none one in cc

-- a notice that is about another has a target
some_target : (target : Option ℕ) (live : List Live) → IsSomeAnd target (λ number. entry_at number live ≡ None) → target ≡ None → ⊥
some_target None live none e = absurd none
some_target (Some number) live none e = cc

-- an answer that refuses
abbrev refused : BookFault → Result (Unit {0}) BookFault
refused why = Err why

-- two answers that fit are one
pub one_answer : HasOneAnswer
one_answer tables notice (Ok done) (Ok again) a b o p = refl
one_answer tables notice (Ok done) (Err BadNotice) a b o p = absurd (b a.0)
one_answer tables notice (Ok done) (Err (Old other)) a b o p = absurd (omega (arith, b.1, b.2, a.1))
one_answer tables notice (Ok done) (Err Unknown) a b o p = absurd (none_or_one (target_in notice) tables.live b.2 a.2)
one_answer tables notice (Ok done) (Err Full) a b o p = let room = a.3 b.2 in absurd (omega (arith, room, b.3))
one_answer tables notice (Ok done) (Err KeeperFault) a b o p = absurd (p.0 refl)
one_answer tables notice (Ok done) (Err Memory) a b o p = absurd (p.1 refl)
one_answer tables notice (Err BadNotice) (Ok again) a b o p = absurd (a b.0)
one_answer tables notice (Err BadNotice) (Err BadNotice) a b o p = refl
one_answer tables notice (Err BadNotice) (Err (Old other)) a b o p = absurd (a b.0)
one_answer tables notice (Err BadNotice) (Err Unknown) a b o p = absurd (a b.0)
one_answer tables notice (Err BadNotice) (Err Full) a b o p = absurd (a b.0)
one_answer tables notice (Err BadNotice) (Err KeeperFault) a b o p = absurd (p.0 refl)
one_answer tables notice (Err BadNotice) (Err Memory) a b o p = absurd (p.1 refl)
one_answer tables notice (Err (Old last)) (Ok again) a b o p = absurd (omega (arith, a.1, a.2, b.1))
one_answer tables notice (Err (Old last)) (Err BadNotice) a b o p = absurd (b a.0)
one_answer tables notice (Err (Old last)) (Err (Old other)) a b o p = ap (λ n. refused (Old n)) (a.1 ∙ sym b.1)
one_answer tables notice (Err (Old last)) (Err Unknown) a b o p = absurd (omega (arith, a.1, a.2, b.1))
one_answer tables notice (Err (Old last)) (Err Full) a b o p = absurd (omega (arith, a.1, a.2, b.1))
one_answer tables notice (Err (Old last)) (Err KeeperFault) a b o p = absurd (p.0 refl)
one_answer tables notice (Err (Old last)) (Err Memory) a b o p = absurd (p.1 refl)
one_answer tables notice (Err Unknown) (Ok again) a b o p = absurd (none_or_one (target_in notice) tables.live a.2 b.2)
one_answer tables notice (Err Unknown) (Err BadNotice) a b o p = absurd (b a.0)
one_answer tables notice (Err Unknown) (Err (Old other)) a b o p = absurd (omega (arith, b.1, b.2, a.1))
one_answer tables notice (Err Unknown) (Err Unknown) a b o p = refl
one_answer tables notice (Err Unknown) (Err Full) a b o p = absurd (some_target (target_in notice) tables.live a.2 b.2)
one_answer tables notice (Err Unknown) (Err KeeperFault) a b o p = absurd (p.0 refl)
one_answer tables notice (Err Unknown) (Err Memory) a b o p = absurd (p.1 refl)
one_answer tables notice (Err Full) (Ok again) a b o p = let room = b.3 a.2 in absurd (omega (arith, room, a.3))
one_answer tables notice (Err Full) (Err BadNotice) a b o p = absurd (b a.0)
one_answer tables notice (Err Full) (Err (Old other)) a b o p = absurd (omega (arith, b.1, b.2, a.1))
one_answer tables notice (Err Full) (Err Unknown) a b o p = absurd (some_target (target_in notice) tables.live b.2 a.2)
one_answer tables notice (Err Full) (Err Full) a b o p = refl
one_answer tables notice (Err Full) (Err KeeperFault) a b o p = absurd (p.0 refl)
one_answer tables notice (Err Full) (Err Memory) a b o p = absurd (p.1 refl)
one_answer tables notice (Err KeeperFault) (Ok again) a b o p = absurd (o.0 refl)
one_answer tables notice (Err KeeperFault) (Err BadNotice) a b o p = absurd (o.0 refl)
one_answer tables notice (Err KeeperFault) (Err (Old other)) a b o p = absurd (o.0 refl)
one_answer tables notice (Err KeeperFault) (Err Unknown) a b o p = absurd (o.0 refl)
one_answer tables notice (Err KeeperFault) (Err Full) a b o p = absurd (o.0 refl)
one_answer tables notice (Err KeeperFault) (Err KeeperFault) a b o p = absurd (o.0 refl)
one_answer tables notice (Err KeeperFault) (Err Memory) a b o p = absurd (o.0 refl)
one_answer tables notice (Err Memory) (Ok again) a b o p = absurd (o.1 refl)
one_answer tables notice (Err Memory) (Err BadNotice) a b o p = absurd (o.1 refl)
one_answer tables notice (Err Memory) (Err (Old other)) a b o p = absurd (o.1 refl)
one_answer tables notice (Err Memory) (Err Unknown) a b o p = absurd (o.1 refl)
one_answer tables notice (Err Memory) (Err Full) a b o p = absurd (o.1 refl)
one_answer tables notice (Err Memory) (Err KeeperFault) a b o p = absurd (o.1 refl)
one_answer tables notice (Err Memory) (Err Memory) a b o p = absurd (o.1 refl)

-- a notice that may come next is not refused
pub completed : (t : Tables) (before now : ℕ) (notice : Notice) (result : Result (Unit {0}) BookFault) → IsKept t → Answers t notice result → HasBookCause before now result
    → IsNext t.held notice → (Rose before now → ⊥) → IsOk result ⊎ (result ≡ Err Memory)
completed t before now notice (Ok done) kept a cause next quiet = inl refl
completed t before now notice (Err BadNotice) kept a cause next quiet = absurd (a next.formed)
completed t before now notice (Err (Old last)) kept a cause next quiet = let above = next.above in absurd (omega (arith, above, a.1, a.2))
completed t before now notice (Err Unknown) kept a cause next quiet =
    absurd (none_or_one (target_in notice) (in_effect t.held) (subst (λ (live : List Live). IsSomeAnd (target_in notice) (λ number. entry_at number live ≡ None)) kept.live a.2) next.named)
completed t before now notice (Err Full) kept a cause next quiet =
    let room = next.room a.2 in
    let full : 256 ≤ length (in_effect t.held) = subst (λ (live : List Live). 256 ≤ length live) kept.live a.3 in
    absurd (omega (arith, room, full))
completed t before now notice (Err KeeperFault) kept a cause next quiet = absurd (quiet (cause.failed refl))
completed t before now notice (Err Memory) kept a cause next quiet = inr refl

-- the same where the keeper tells its tables
pub told_completed : (told : Option Tables) (before now : ℕ) (notice : Notice) (result : Result (Unit {0}) BookFault) → IfSome told IsKept → IfSome told (λ t. Answers t notice result) → HasBookCause before now result
    → IfSome told (λ t. IsNext t.held notice → (Rose before now → ⊥) → IsOk result ⊎ (result ≡ Err Memory))
told_completed None before now notice result kept a cause = tt
told_completed (Some t) before now notice result kept a cause = completed t before now notice result kept a cause
