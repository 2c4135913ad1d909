-- Entries by rising number.
use Rattle.std.proofs.Common.{◌≡◌, ◌∙◌, refl, sym, ap, subst, ℕ, ◌<◌, ◌≤◌, ◌==◌, ℤ, Bool, true, false, cond, List, [], ◌∷◌, ◌++◌, Option, Some, ◌⊎◌, inl, inr, arith}
use Rattle.std.specs.Prelude.{filter, map, nat_lt}
use Rattle.std.proofs.lemmas.Bool.{eqb-true, eq-eqb, ne_eqb, lt-ltb, le-ltb, cases_eq}
use Rattle.notice_model.specs.declared.notice.Live.{Live}
use Rattle.notice_model.specs.Entries.{moved, entry_at, with_entry}
use Rattle.notice_laws.proofs.Lists.{Each, Each-weaker}
use Rattle.notice_laws.proofs.Effects.{moved_if}

-- the numbers rise, said by recursion
abbrev pub Rising : List Live → Type 0
Rising [] = Unit {0}
Rising (e ∷ es) = Each (λ x. e.number < x.number) es × Rising es

-- entries that are all below a number are those below it
pub all-below : (number : ℕ) (es : List Live) → Each (λ x. x.number < number) es → filter (λ x. nat_lt x.number number) es ≡ es
all-below number [] each = refl
all-below number (e ∷ es) each =
    let test : nat_lt e.number number ≡ true = lt-ltb e.number number each.0 in
    rw (test, all-below number es each.1) refl

-- of entries that are not, none is
none-below : (number : ℕ) (es : List Live) → Each (λ x. number ≤ x.number) es → filter (λ x. nat_lt x.number number) es ≡ []
none-below number [] each = refl
none-below number (e ∷ es) each =
    let test : nat_lt e.number number ≡ false = le-ltb e.number number each.0 in
    rw (test, none-below number es each.1) refl

-- entries that are all above a number are those above it
pub all-above : (number : ℕ) (es : List Live) → Each (λ x. number < x.number) es → filter (λ x. nat_lt number x.number) es ≡ es
all-above number [] each = refl
all-above number (e ∷ es) each =
    let test : nat_lt number e.number ≡ true = lt-ltb number e.number each.0 in
    rw (test, all-above number es each.1) refl

-- of entries that are not, none is
none-above : (number : ℕ) (es : List Live) → Each (λ x. x.number ≤ number) es → filter (λ x. nat_lt number x.number) es ≡ []
none-above number [] each = refl
none-above number (e ∷ es) each =
    let test : nat_lt number e.number ≡ false = le-ltb number e.number each.0 in
    rw (test, none-above number es each.1) refl

-- an entry above all goes to the end
pub with_entry-last : (e : Live) (es : List Live) → Each (λ x. x.number < e.number) es → with_entry e es ≡ es ++ e ∷ []
with_entry-last e es each =
    let low : filter (λ x. nat_lt x.number e.number) es ≡ es = all-below e.number es each in
    let high : filter (λ x. nat_lt e.number x.number) es ≡ [] = none-above e.number es (Each-weaker _ _ (λ x l. omega (arith, l)) es each) in
    rw (low, high) refl

-- entries above a number are not moved with it
none-moved : (number : ℕ) (start : ℤ) (end : Option ℤ) (es : List Live) → Each (λ x. number < x.number) es → map (moved_if number start end) es ≡ es
none-moved number start end [] each = refl
none-moved number start end (e ∷ es) each =
    let test : (e.number == number) ≡ false = ne_eqb e.number number (λ q. omega (arith, q, each.0)) in
    rw (test, none-moved number start end es each.1) refl

-- the entry that is found has the number, and stands in the list
found-number : (number : ℕ) (es : List Live) (x : Live) → entry_at number es ≡ Some x → x.number ≡ number
found-number number [] x found = absurd cc
found-number number (e ∷ es) x found = by_test (e.number == number) refl found (found-number number es x)
  where
    by_test : (b : Bool) → (e.number == number) ≡ b → cond b (Some e) (entry_at number es) ≡ Some x → (entry_at number es ≡ Some x → x.number ≡ number) → x.number ≡ number
    by_test true q f rest = let same : e ≡ x = cc in ap (λ y. y.number) (sym same) ∙ eqb-true e.number number q
    by_test false q f rest = rest f

-- what holds of each entry holds of the one that is found
found-holds : (P : Live → Type 0) (number : ℕ) (es : List Live) (x : Live) → Each P es → entry_at number es ≡ Some x → P x
found-holds P number [] x each found = absurd cc
found-holds P number (e ∷ es) x each found = by_test (e.number == number) found (found-holds P number es x each.1)
  where
    by_test : (b : Bool) → cond b (Some e) (entry_at number es) ≡ Some x → (entry_at number es ≡ Some x → P x) → P x
    by_test true f rest = let same : e ≡ x = cc in subst P same each.0
    by_test false f rest = rest f

-- an entry put in the place of the one that is found changes that one alone
put-found : (number : ℕ) (start : ℤ) (end : Option ℤ) (es : List Live) (x : Live) → Rising es → entry_at number es ≡ Some x
    → filter (λ y. nat_lt y.number number) es ++ moved start end x ∷ filter (λ y. nat_lt number y.number) es ≡ map (moved_if number start end) es
put-found number start end [] x rising found = absurd cc
put-found number start end (e ∷ es) x rising found = by_case (cases_eq e.number number) (put-found number start end es x rising.1)
  where
    here : (q : e.number ≡ number) → e ≡ x
    here q =
        let test : (e.number == number) ≡ true = eq-eqb e.number number q in
        let f : cond true (Some e) (entry_at number es) ≡ Some x = subst (λ b. cond b (Some e) (entry_at number es) ≡ Some x) test found in
        cc

    later : (e.number ≡ number → ⊥) → entry_at number es ≡ Some x
    later n =
        let test : (e.number == number) ≡ false = ne_eqb e.number number n in
        subst (λ b. cond b (Some e) (entry_at number es) ≡ Some x) test found

    by_case : (e.number ≡ number) ⊎ (e.number ≡ number → ⊥)
        → (entry_at number es ≡ Some x → filter (λ y. nat_lt y.number number) es ++ moved start end x ∷ filter (λ y. nat_lt number y.number) es ≡ map (moved_if number start end) es)
        → filter (λ y. nat_lt y.number number) (e ∷ es) ++ moved start end x ∷ filter (λ y. nat_lt number y.number) (e ∷ es) ≡ map (moved_if number start end) (e ∷ es)
    by_case (inl q) more =
        let above : Each (λ y. number < y.number) es = Each-weaker _ _ (λ y l. omega (arith, l, q)) es rising.0 in
        let test : (e.number == number) ≡ true = eq-eqb e.number number q in
        let not_low : nat_lt e.number number ≡ false = le-ltb e.number number (omega (arith, q)) in
        let not_high : nat_lt number e.number ≡ false = le-ltb number e.number (omega (arith, q)) in
        let low : filter (λ y. nat_lt y.number number) es ≡ [] = none-below number es (Each-weaker _ _ (λ y l. omega (arith, l)) es above) in
        let high : filter (λ y. nat_lt number y.number) es ≡ es = all-above number es above in
        let rest : map (moved_if number start end) es ≡ es = none-moved number start end es above in
        let same : x ≡ e = sym (here q) in
        rw (not_low, not_high, low, high, rest, test, same) refl
    by_case (inr n) more =
        let f : entry_at number es ≡ Some x = later n in
        let number_x : x.number ≡ number = found-number number es x f in
        let before : e.number < x.number = found-holds (λ y. e.number < y.number) number es x rising.0 f in
        let low : nat_lt e.number number ≡ true = lt-ltb e.number number (omega (arith, before, number_x)) in
        let not_high : nat_lt number e.number ≡ false = le-ltb number e.number (omega (arith, before, number_x)) in
        let test : (e.number == number) ≡ false = ne_eqb e.number number n in
        let rest : filter (λ y. nat_lt y.number number) es ++ moved start end x ∷ filter (λ y. nat_lt number y.number) es ≡ map (moved_if number start end) es = more f in
        rw (low, not_high, test) (ap (λ ys. e ∷ ys) rest)

-- an entry put in its own place with other times
pub with_entry-moved : (number : ℕ) (start : ℤ) (end : Option ℤ) (es : List Live) (x : Live) → Rising es → entry_at number es ≡ Some x
    → with_entry (moved start end x) es ≡ map (moved_if number start end) es
with_entry-moved number start end es x rising found =
    let same : x.number ≡ number = found-number number es x found in
    subst (λ n. filter (λ y. nat_lt y.number n) es ++ moved start end x ∷ filter (λ y. nat_lt n y.number) es ≡ map (moved_if number start end) es)
    (sym same) (put-found number start end es x rising found)
