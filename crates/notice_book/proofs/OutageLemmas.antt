-- The entries one after the other.
use Rattle.std.proofs.Common.{◌≡◌, ◌∙◌, refl, sym, ap, subst, ℕ, ◌<◌, Bool, true, false, cond, List, [], ◌∷◌, ◌++◌, map, Option, Some, None, arith, append_assoc}
use Rattle.std.specs.Prelude.{ℤ, ◌<ℤ◌, filter, nat_lt, All, IfSome}
use Rattle.std.proofs.lemmas.Bool.{le-ltb, ltb-true}
use Rattle.std.proofs.lemmas.List.{append-nil}
use Rattle.raim_model.specs.declared.Outage.{Outage}
use Rattle.text_lines.specs.Lines.{Text}
use Rattle.gps_week.specs.GpsTime.{IsInstant}
use Rattle.outage_notice.specs.Printing.{IsPrintable, ListsOutages}
use Rattle.notice_model.specs.declared.notice.Notice.{Notice}
use Rattle.notice_model.specs.declared.notice.Notice.TheVariants.{Add, Reschedule, Cancel}
use Rattle.notice_model.specs.declared.notice.Live.{Live}
use Rattle.notice_model.specs.declared.notice.UtcOutage.{UtcOutage}
use Rattle.notice_model.specs.Notices.{number_in, IsUtc, IsWellFormed}
use Rattle.notice_model.specs.InEffect.{in_effect}
use Rattle.notice_model.specs.Entries.{first_above}
use Rattle.notice_laws.proofs.Lists.{Each, Each-weaker}
use Rattle.notice_laws.proofs.Maps.{Rising, all-above}
use Rattle.notice_laws.proofs.Numbers.{book-rising, effects-each, each-from_all}
use Rattle.notice_book.specs.Tables.{Tables}
use Rattle.notice_book.specs.Gains.{IsKept}
use Rattle.notice_book.specs.Outages.{outage_of, IsUtcOutage, at_leap_zero}
use Rattle.notice_book.specs.RunCauses.{IsListed}

-- the entries above a number
abbrev above : ℕ → List Live → List Live
above number es = filter (λ e. nat_lt number e.number) es

-- where no entry is the first above a number, none is above it
none-above : (number : ℕ) (es : List Live) → None ≡ first_above number es → above number es ≡ []
none-above number [] none = refl
none-above number (e ∷ es) none = by_test (nat_lt number e.number) none (none-above number es)
  where
    by_test : (b : Bool) → None ≡ cond b (Some e) (first_above number es) → (None ≡ first_above number es → above number es ≡ []) → cond b (e ∷ above number es) (above number es) ≡ []
    by_test true n rest = absurd cc
    by_test false n rest = rest n

-- what holds of each entry holds of the first above a number
first-holds : (P : Live → Type 0) (number : ℕ) (es : List Live) (x : Live) → Each P es → Some x ≡ first_above number es → P x
first-holds P number [] x each found = absurd cc
first-holds P number (e ∷ es) x each found = by_test (nat_lt number e.number) found (first-holds P number es x each.1)
  where
    by_test : (b : Bool) → Some x ≡ cond b (Some e) (first_above number es) → (Some x ≡ first_above number es → P x) → P x
    by_test true f rest = let same : e ≡ x = cc in subst P same each.0
    by_test false f rest = rest f

-- where the numbers rise, the first above a number is followed by those above its own
first-above : (number : ℕ) (es : List Live) (x : Live) → Rising es → Some x ≡ first_above number es → above number es ≡ x ∷ above x.number es
first-above number [] x rising found = absurd cc
first-above number (e ∷ es) x rising found = by_test (nat_lt number e.number) refl found (first-above number es x rising.1)
  where
    above_own : Each (λ y. e.number < y.number) es → above e.number (e ∷ es) ≡ es
    above_own each =
        let not_above : nat_lt e.number e.number ≡ false = le-ltb e.number e.number (omega arith) in
        rw not_above (all-above e.number es each)

    by_test : (b : Bool) → nat_lt number e.number ≡ b → Some x ≡ cond b (Some e) (first_above number es) → (Some x ≡ first_above number es → above number es ≡ x ∷ above x.number es)
        → cond b (e ∷ above number es) (above number es) ≡ x ∷ above x.number (e ∷ es)
    by_test true q f rest =
        let same : e ≡ x = cc in
        let low : number < e.number = ltb-true number e.number q in
        let tail : above number es ≡ es = all-above number es (Each-weaker _ _ (λ y l. omega (arith, l, low)) es rising.0) in
        subst (λ y. e ∷ above number es ≡ y ∷ above y.number (e ∷ es)) same (ap (λ l. e ∷ l) (tail ∙ sym (above_own rising.0)))
    by_test false q f rest =
        let later : e.number < x.number = first-holds (λ y. e.number < y.number) number es x rising.0 f in
        let not_above : nat_lt x.number e.number ≡ false = le-ltb x.number e.number (omega (arith, later)) in
        rw not_above (rest f)

-- The same at the tables of a keeper, where it tells them.

-- numbers begin with 1
one-at-least : (notice : Notice) → IsWellFormed notice → 0 < number_in notice
one-at-least (Add number prn start end) formed = omega (arith, formed.0)
one-at-least (Reschedule number target start end) formed = omega (arith, formed.0)
one-at-least (Cancel number target) formed = omega (arith, formed.0)

-- kept entries stand by rising number
kept-rising : (t : Tables) → IsKept t → Rising t.live
kept-rising t kept = subst Rising (sym kept.live) (book-rising t.held kept.book)

-- all of them are above 0
all-kept : (t : Tables) → IsKept t → above 0 t.live ≡ t.live
all-kept t kept =
    let formed : Each (λ n. 0 < number_in n) t.held = Each-weaker _ _ one-at-least t.held (each-from_all IsWellFormed t.held kept.book.formed) in
    subst (λ es. above 0 es ≡ es) (sym kept.live) (all-above 0 (in_effect t.held) (effects-each (λ k. 0 < k) t.held t.held formed))

-- these outages are those of the entries up to a number
abbrev pub UpTo : ℕ → List UtcOutage → Tables → Type 0
UpTo number outages t = map outage_of t.live ≡ outages ++ map outage_of (filter (λ e. nat_lt number e.number) t.live)

-- at first no entry is listed
pub told_first : (told : Option Tables) (outages : List UtcOutage) → IfSome told IsKept → outages ≡ [] → IfSome told (UpTo 0 outages)
told_first None outages kept none = tt
told_first (Some t) outages kept none = rw (none, all-kept t kept) refl

-- the next entry is the one above those that are listed
pub told_next : (told now : Option Tables) (number : ℕ) (outages after : List UtcOutage) (o : UtcOutage) (e : Live) → IfSome told IsKept → now ≡ told → IfSome told (UpTo number outages)
    → IfSome now (λ t. Some e ≡ first_above number t.live) → o ≡ outage_of e → after ≡ outages ++ o ∷ [] → IfSome told (UpTo e.number after)
told_next None now number outages after o e kept same before found is pushed = tt
told_next (Some t) now number outages after o e kept same before found is pushed =
    let f : Some e ≡ first_above number t.live = subst (λ n. IfSome n (λ t. Some e ≡ first_above number t.live)) same found in
    let next : above number t.live ≡ e ∷ above e.number t.live = first-above number t.live e (kept-rising t kept) f in
    before ∙ ap (λ es. outages ++ map outage_of es) next ∙ sym (append_assoc outages (outage_of e ∷ []) (map outage_of (above e.number t.live)))
    ∙ ap (λ p. outages ++ p ∷ [] ++ map outage_of (above e.number t.live)) (sym is) ∙ ap (λ l. l ++ map outage_of (above e.number t.live)) (sym pushed)

-- at last all are listed
pub told_last : (told now : Option Tables) (number : ℕ) (outages : List UtcOutage) → IfSome told IsKept → now ≡ told → IfSome told (UpTo number outages)
    → IfSome now (λ t. None ≡ first_above number t.live) → IfSome told (λ t. outages ≡ map outage_of (in_effect t.held))
told_last None now number outages kept same before none = tt
told_last (Some t) now number outages kept same before none =
    let n : None ≡ first_above number t.live = subst (λ n. IfSome n (λ t. None ≡ first_above number t.live)) same none in
    let end : above number t.live ≡ [] = none-above number t.live n in
    sym (append-nil outages) ∙ ap (λ es. outages ++ map outage_of es) (sym end) ∙ sym before ∙ ap (map outage_of) kept.live

ends-printable : (start : ℤ) (end : Option ℤ) → IfSome end (λ e. (start <ℤ e) × IsUtc e) → IfSome end (IsInstant 0)
ends-printable start None ends = tt
ends-printable start (Some e) ends = (ends.1.0, ends.1.1)

-- an outage of UTC has a line where no leap second was counted
pub printable-at_zero : (o : UtcOutage) → IsUtcOutage o → IsPrintable 0 (at_leap_zero o)
printable-at_zero o is = record { prn = is.0; start = (is.1.starts.0, is.1.starts.1); end = ends-printable o.start o.end is.1.ends }

-- what is printed of these outages lists them
pub listed : (told : Option Tables) (outages : List UtcOutage) (gps : List Outage) (text : Text) → All IsUtcOutage outages → IfSome told (λ t. outages ≡ map outage_of (in_effect t.held))
    → gps ≡ map at_leap_zero outages → ListsOutages 0 gps text → IsListed told text
listed told outages gps text ranges current same printed = record {
  outages = outages;
  ranges = ranges;
  current = current;
  printed = subst (λ (l : List Outage). ListsOutages 0 l text) same printed;
}
