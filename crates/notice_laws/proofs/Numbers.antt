-- The numbers of notices, and of what they have in effect.
use Rattle.std.proofs.Common.{◌≡◌, refl, sym, ap, subst, ℕ, suc, zero, ◌<◌, ◌≤◌, Bool, true, false, cond, List, [], ◌∷◌, ◌++◌, length, get_or, Option, Some, None, arith}
use Rattle.std.specs.Prelude.{filter_map, All, AllPairs}
use Rattle.std.specs.List.{cons_option}
use Rattle.std.proofs.lemmas.List.Elements.{All-head, All-tail}
use Rattle.notice_model.specs.declared.notice.Notice.{Notice}
use Rattle.notice_model.specs.declared.notice.Notice.TheVariants.{Add, Reschedule, Cancel}
use Rattle.notice_model.specs.declared.notice.Live.{Live}
use Rattle.notice_model.specs.Notices.{number_in}
use Rattle.notice_model.specs.InEffect.{is_cancelled, times_of, entry, effect_in, in_effect}
use Rattle.notice_model.specs.Book.{IsBook, greatest}
use Rattle.notice_model.specs.Entries.{AreRising}
use Rattle.notice_laws.proofs.Lists.{Each}
use Rattle.notice_laws.proofs.Maps.{Rising}

-- The greatest number.

-- a notice of a list has at most the greatest number
pub greatest-cut : (before : List Notice) (x : Notice) (after : List Notice) → number_in x ≤ greatest (before ++ x ∷ after)
greatest-cut [] x after = omega arith
greatest-cut (b ∷ bs) x after = omega (arith, greatest-cut bs x after)

-- numbers above the greatest are above each
pub each-below : (k : ℕ) (notices : List Notice) → greatest notices < k → Each (λ n. number_in n < k) notices
each-below k [] l = tt
each-below k (n ∷ ns) l = (omega (arith, l), each-below k ns (omega (arith, l)))

-- what holds of all elements, said by recursion
pub each-from_all : {X : Type 0} (P : X → Type 0) (xs : List X) → All P xs → Each P xs
each-from_all P [] all = tt
each-from_all P (x ∷ xs) all = (All-head P x xs all, each-from_all P xs (All-tail P x xs all))

-- and of the one at a place
pub each-at : {X : Type 0} (P : X → Type 0) (xs : List X) (k : ℕ) (d : X) → Each P xs → k < length xs → P (get_or xs k d)
each-at P [] k d each l = absurd (omega (arith, l))
each-at P (x ∷ xs) zero d each l = each.0
each-at P (x ∷ xs) (suc k) d each l = each-at P xs k d each.1 (omega (arith, l))

-- The numbers of the entries in effect.

-- what a notice has in effect has its number
effect-number : (all : List Notice) (n : Notice) (e : Live) → effect_in all n ≡ Some e → e.number ≡ number_in n
effect-number all (Add number prn start end) e is = by_test (is_cancelled all number) is
  where
    by_test : (b : Bool) → cond b None (Some (entry number prn (times_of all number (start, end)))) ≡ Some e → e.number ≡ number
    by_test true q = absurd cc
    by_test false q =
        let same : entry number prn (times_of all number (start, end)) ≡ e = cc in
        ap (λ x. x.number) (sym same)
effect-number all (Reschedule number target start end) e is = absurd cc
effect-number all (Cancel number target) e is = absurd cc

-- what holds of the numbers of notices holds of those of their effects
pub effects-each : (P : ℕ → Type 0) (all notices : List Notice) → Each (λ n. P (number_in n)) notices → Each (λ e. P e.number) (filter_map (effect_in all) notices)
effects-each P all [] each = tt
effects-each P all (n ∷ ns) each = by_effect (effect_in all n) (effect-number all n) (effects-each P all ns each.1)
  where
    by_effect : (o : Option Live) → ((e : Live) → o ≡ Some e → e.number ≡ number_in n) → Each (λ e. P e.number) (filter_map (effect_in all) ns)
        → Each (λ e. P e.number) (cons_option o (filter_map (effect_in all) ns))
    by_effect None h rest = rest
    by_effect (Some e) h rest = (subst P (sym (h e refl)) each.0, rest)

abbrev pub RisingNotices : List Notice → Type 0
RisingNotices [] = Unit {0}
RisingNotices (n ∷ ns) = Each (λ x. number_in n < number_in x) ns × RisingNotices ns

-- numbers that rise, said by recursion
pub rising-from_pairs : (notices : List Notice) → AllPairs (λ a b. number_in a < number_in b) notices → RisingNotices notices
rising-from_pairs [] pairs = tt
rising-from_pairs (n ∷ ns) pairs = (
  each-from_all (λ x. number_in n < number_in x) ns (λ k d l. pairs 0 (suc k) d (omega arith) (omega (arith, l))),
  rising-from_pairs ns (λ i j d l m. pairs (suc i) (suc j) d (omega (arith, l)) (omega (arith, m))),
)

-- the effects of notices with rising numbers have rising numbers
rising-effects : (all notices : List Notice) → RisingNotices notices → Rising (filter_map (effect_in all) notices)
rising-effects all [] rising = tt
rising-effects all (n ∷ ns) rising = by_effect (effect_in all n) (effect-number all n) (rising-effects all ns rising.1)
  where
    by_effect : (o : Option Live) → ((e : Live) → o ≡ Some e → e.number ≡ number_in n) → Rising (filter_map (effect_in all) ns)
        → Rising (cons_option o (filter_map (effect_in all) ns))
    by_effect None h rest = rest
    by_effect (Some e) h rest =
        let later : Each (λ x. number_in n < x.number) (filter_map (effect_in all) ns) = effects-each (λ k. number_in n < k) all ns rising.0 in
        (subst (λ m. Each (λ x. m < x.number) (filter_map (effect_in all) ns)) (sym (h e refl)) later, rest)

-- so do those of a book
pub book-rising : (notices : List Notice) → IsBook notices → Rising (in_effect notices)
book-rising notices book = rising-effects notices notices (rising-from_pairs notices book.rising)

-- the same, said of pairs
pub rising-pairs : (es : List Live) → Rising es → AreRising es
rising-pairs [] rising i j d l m = absurd (omega (arith, m))
rising-pairs (e ∷ es) rising i zero d l m = absurd (omega (arith, l))
rising-pairs (e ∷ es) rising zero (suc j) d l m = each-at (λ x. e.number < x.number) es j d rising.0 (omega (arith, m))
rising-pairs (e ∷ es) rising (suc i) (suc j) d l m = rising-pairs es rising.1 i j d (omega (arith, l)) (omega (arith, m))
