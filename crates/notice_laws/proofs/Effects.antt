-- What one more notice does to the effect of each notice before it.
use Rattle.std.proofs.Common.{◌≡◌, ◌∙◌, refl, sym, ap, ℕ, ◌==◌, ℤ, Bool, true, false, cond, not, List, [], ◌∷◌, ◌++◌, Option, Some, None}
use Rattle.std.specs.Prelude.{filter_map, option_map}
use Rattle.std.proofs.lemmas.Bool.{eqb-true, eqb-false, eq-eqb, ne_eqb}
use Rattle.notice_model.specs.declared.notice.Notice.{Notice}
use Rattle.notice_model.specs.declared.notice.Notice.TheVariants.{Add, Reschedule, Cancel}
use Rattle.notice_model.specs.declared.notice.Live.{Live}
use Rattle.notice_model.specs.InEffect.{Times, cancels, is_cancelled, times_for, times_of, last_or, entry, effect_in}
use Rattle.notice_model.specs.Entries.{moved}
use Rattle.notice_laws.proofs.Lists.{any-push_false, any-push_true, last_or-push, filter_map-push_none, filter_map-push_some, kept}

abbrev effect : Bool → ℕ → ℕ → Times → Option Live
effect cancelled number prn times = cond cancelled None (Some (entry number prn times))

-- the same test and the same times have the same effect
same_effect : (b c : Bool) (number prn : ℕ) (t u : Times) → b ≡ c → t ≡ u → effect b number prn t ≡ effect c number prn u
same_effect b c number prn t u e f = rw (e, f) refl

-- what is cancelled has none
none_effect : (b : Bool) (number prn : ℕ) (t : Times) → b ≡ true → effect b number prn t ≡ None
none_effect b number prn t e = rw e refl

-- where the last notice neither cancels the number nor moves it
unchanged : (notices : List Notice) (last : Notice) (number prn : ℕ) (own : Times) → cancels number last ≡ false → times_for number last ≡ None
    → effect (is_cancelled (notices ++ last ∷ []) number) number prn (times_of (notices ++ last ∷ []) number own)
    ≡ effect (is_cancelled notices number) number prn (times_of notices number own)
unchanged notices last number prn own cancels moves =
    same_effect _ _ number prn _ _
    (any-push_false _ notices last cancels)
    (ap (last_or own) (filter_map-push_none (times_for number) notices last moves))

-- one more Add changes the effect of no other notice
pub effect-add : (notices : List Notice) (k p : ℕ) (s : ℤ) (e : Option ℤ) (x : Notice) → effect_in (notices ++ Add k p s e ∷ []) x ≡ effect_in notices x
effect-add notices k p s e (Add number prn start end) = unchanged notices (Add k p s e) number prn (start, end) refl refl
effect-add notices k p s e (Reschedule number target start end) = refl
effect-add notices k p s e (Cancel number target) = refl

-- an entry has not the number
abbrev pub is_other : ℕ → Live → Bool
is_other number e = not (e.number == number)

-- the effect of the number that is cancelled is gone
kept-none : (c : Bool) (t number prn : ℕ) (times : Times) → (number == t) ≡ true → None ≡ kept (is_other t) (effect c number prn times)
kept-none true t number prn times e = refl
kept-none false t number prn times e = rw e refl

-- that of another number is kept
kept-all : (c : Bool) (t number prn : ℕ) (times : Times) → (number == t) ≡ false → effect c number prn times ≡ kept (is_other t) (effect c number prn times)
kept-all true t number prn times e = refl
kept-all false t number prn times e = rw e refl

-- equality of numbers either way
swapped : (a b : ℕ) (r : Bool) → (a == b) ≡ r → (b == a) ≡ r
swapped a b true e = eq-eqb b a (sym (eqb-true a b e))
swapped a b false e = ne_eqb b a (λ q. eqb-false a b e (sym q))

-- one more Cancel takes away the effect of its target alone
pub effect-cancel : (notices : List Notice) (k t : ℕ) (x : Notice) → effect_in (notices ++ Cancel k t ∷ []) x ≡ kept (is_other t) (effect_in notices x)
effect-cancel notices k t (Add number prn start end) = by_test (t == number) refl
  where
    by_test : (b : Bool) → (t == number) ≡ b
        → effect (is_cancelled (notices ++ Cancel k t ∷ []) number) number prn (times_of (notices ++ Cancel k t ∷ []) number (start, end))
        ≡ kept (is_other t) (effect (is_cancelled notices number) number prn (times_of notices number (start, end)))
    by_test true e =
        none_effect (is_cancelled (notices ++ Cancel k t ∷ []) number) number prn _ (any-push_true _ notices (Cancel k t) e)
        ∙ kept-none (is_cancelled notices number) t number prn _ (swapped t number true e)
    by_test false e =
        unchanged notices (Cancel k t) number prn (start, end) e refl
        ∙ kept-all (is_cancelled notices number) t number prn _ (swapped t number false e)
effect-cancel notices k t (Reschedule number target start end) = refl
effect-cancel notices k t (Cancel number target) = refl

-- an entry at new times where it has the number
abbrev pub moved_if : ℕ → ℤ → Option ℤ → Live → Live
moved_if number start end e = cond (e.number == number) (moved start end e) e

-- the effect of the number that is moved has the new times
moved-here : (c : Bool) (t : ℕ) (s : ℤ) (e : Option ℤ) (number prn : ℕ) (times : Times) → (number == t) ≡ true
    → effect c number prn (s, e) ≡ option_map (moved_if t s e) (effect c number prn times)
moved-here true t s e number prn times q = refl
moved-here false t s e number prn times q = rw q refl

-- that of another number is as it was
moved-other : (c : Bool) (t : ℕ) (s : ℤ) (e : Option ℤ) (number prn : ℕ) (times : Times) → (number == t) ≡ false
    → effect c number prn times ≡ option_map (moved_if t s e) (effect c number prn times)
moved-other true t s e number prn times q = refl
moved-other false t s e number prn times q = rw q refl

-- a choice whose test is true
cond-at_true : {A : Type 0} (b : Bool) (x y : A) → b ≡ true → cond b x y ≡ x
cond-at_true b x y e = rw e refl

-- and one whose test is false
cond-at_false : {A : Type 0} (b : Bool) (x y : A) → b ≡ false → cond b x y ≡ y
cond-at_false b x y e = rw e refl

-- one more Reschedule moves the effect of its target alone
pub effect-move : (notices : List Notice) (k t : ℕ) (s : ℤ) (e : Option ℤ) (x : Notice) → effect_in (notices ++ Reschedule k t s e ∷ []) x ≡ option_map (moved_if t s e) (effect_in notices x)
effect-move notices k t s e (Add number prn start end) = by_test (t == number) refl
  where
    by_test : (b : Bool) → (t == number) ≡ b
        → effect (is_cancelled (notices ++ Reschedule k t s e ∷ []) number) number prn (times_of (notices ++ Reschedule k t s e ∷ []) number (start, end))
        ≡ option_map (moved_if t s e) (effect (is_cancelled notices number) number prn (times_of notices number (start, end)))
    by_test true q =
        same_effect _ (is_cancelled notices number) number prn _ (s, e)
        (any-push_false _ notices (Reschedule k t s e) refl)
        (ap (last_or (start, end)) (filter_map-push_some (times_for number) notices (Reschedule k t s e) (s, e) (cond-at_true (t == number) (Some (s, e)) None q))
        ∙ last_or-push (start, end) (filter_map (times_for number) notices) (s, e))
        ∙ moved-here (is_cancelled notices number) t s e number prn _ (swapped t number true q)
    by_test false q =
        unchanged notices (Reschedule k t s e) number prn (start, end) refl (cond-at_false (t == number) (Some (s, e)) None q)
        ∙ moved-other (is_cancelled notices number) t s e number prn _ (swapped t number false q)
effect-move notices k t s e (Reschedule number target start end) = refl
effect-move notices k t s e (Cancel number target) = refl
