-- The times of an entry are those of the Reschedule of greatest number.
use Rattle.std.proofs.Common.{◌≡◌, ◌∙◌, refl, sym, ap, subst, ℕ, ◌<◌, ◌≤◌, ◌==◌, ℤ, true, false, cond, List, [], ◌∷◌, ◌++◌, Option, Some, None, arith, append_assoc}
use Rattle.std.specs.Prelude.{filter_map}
use Rattle.std.specs.List.{cons_option}
use Rattle.std.proofs.lemmas.Bool.{eq-eqb, ne_eqb, cases_eq}
use Rattle.std.proofs.lemmas.List.Elements.{filter_map-append}
use Rattle.std.specs.Prelude.{◌⊎◌}
use Rattle.std.proofs.Common.{inl, inr}
use Rattle.notice_model.specs.declared.notice.Notice.{Notice}
use Rattle.notice_model.specs.declared.notice.Notice.TheVariants.{Add, Reschedule, Cancel}
use Rattle.notice_model.specs.Notices.{number_in}
use Rattle.notice_model.specs.InEffect.{Times, times_for, times_of, last_or}
use Rattle.notice_model.specs.Book.{IsBook}
use Rattle.notice_laws.specs.Greatest.{IsMovedLast, IsNeverMoved}
use Rattle.notice_laws.proofs.Lists.{Each, nothing-from_cuts, last_or-push}
use Rattle.notice_laws.proofs.Numbers.{RisingNotices, rising-from_pairs}

-- what holds of each holds at a cut
each-cut : {X : Type 0} (P : X → Type 0) (before : List X) (x : X) (after : List X) → Each P (before ++ x ∷ after) → P x
each-cut P [] x after each = each.0
each-cut P (b ∷ bs) x after each = each-cut P bs x after each.1

-- what stands behind a notice has greater numbers
rising-after : (before : List Notice) (x : Notice) (after : List Notice) → RisingNotices (before ++ x ∷ after) → Each (λ y. number_in x < number_in y) after
rising-after [] x after rising = rising.0
rising-after (b ∷ bs) x after rising = rising-after bs x after rising.1

-- a Reschedule that names the number gives it its times
moves-here : (number m : ℕ) (s : ℤ) (e : Option ℤ) → times_for number (Reschedule m number s e) ≡ Some (s, e)
moves-here number m s e = let test : (number == number) ≡ true = eq-eqb number number refl in rw test refl

-- nothing moves the number where no Reschedule of the list names it
no_time : (number : ℕ) (x : Notice) → ((k : ℕ) (s : ℤ) (e : Option ℤ) → x ≡ Reschedule k number s e → ⊥) → times_for number x ≡ None
no_time number (Add k p s e) none = refl
no_time number (Cancel k t) none = refl
no_time number (Reschedule k t s e) none = by_case (cases_eq t number)
  where
    by_case : (t ≡ number) ⊎ (t ≡ number → ⊥) → cond {A = Option Times} (t == number) (Some (s, e)) None ≡ None
    by_case (inl q) = absurd (none k s e (ap (λ n. Reschedule k n s e) q))
    by_case (inr n) = let test : (t == number) ≡ false = ne_eqb t number n in rw test refl

-- a number that no Reschedule names has its own times
pub never-moved : (notices : List Notice) (number : ℕ) (own : Times) → IsNeverMoved notices number → times_of notices number own ≡ own
never-moved notices number own never =
    let nothing : filter_map (times_for number) notices ≡ [] =
    nothing-from_cuts (times_for number) notices (λ before x after cut. no_time number x (λ k s e is.
    never k s e before after (cut ∙ ap (λ y. before ++ y ∷ after) is))) in
    ap (last_or own) nothing

-- one that is named has the times of the greatest that names it
pub moved-last : (notices : List Notice) (number : ℕ) (own : Times) (m : ℕ) (s : ℤ) (e : Option ℤ) → IsBook notices → IsMovedLast notices number m s e → times_of notices number own ≡ (s, e)
moved-last notices number own m s e book last =
    let move : Notice = Reschedule m number s e in
    let rising : RisingNotices (last.before ++ Reschedule m number s e ∷ last.after) = subst RisingNotices last.split (rising-from_pairs notices book.rising) in
    let later : Each (λ y. m < number_in y) last.after = rising-after last.before (Reschedule m number s e) last.after rising in
    let none : filter_map (times_for number) last.after ≡ [] =
    nothing-from_cuts (times_for number) last.after (λ before x after cut. no_time number x (λ k t f is.
    let above : m < number_in x = each-cut (λ y. m < number_in y) before x after (subst (Each (λ y. m < number_in y)) cut later) in
    let own_number : number_in x ≡ k = ap number_in is in
    let whole : notices ≡ (last.before ++ Reschedule m number s e ∷ before) ++ Reschedule k number t f ∷ after =
    last.split ∙ ap (λ l. last.before ++ Reschedule m number s e ∷ l) (cut ∙ ap (λ y. before ++ y ∷ after) is)
    ∙ sym (append_assoc last.before (Reschedule m number s e ∷ before) (Reschedule k number t f ∷ after)) in
    let most : k ≤ m = last.greatest k t f (last.before ++ Reschedule m number s e ∷ before) after whole in
    omega (arith, above, own_number, most))) in
    let here : filter_map (times_for number) (Reschedule m number s e ∷ last.after) ≡ (s, e) ∷ [] =
    ap (λ o. cons_option o (filter_map (times_for number) last.after)) (moves-here number m s e) ∙ ap (λ l. (s, e) ∷ l) none in
    ap (λ l. last_or own (filter_map (times_for number) l)) last.split
    ∙ ap (last_or own) (filter_map-append (times_for number) last.before (Reschedule m number s e ∷ last.after) ∙ ap (λ l. filter_map (times_for number) last.before ++ l) here)
    ∙ last_or-push own (filter_map (times_for number) last.before) (s, e)
