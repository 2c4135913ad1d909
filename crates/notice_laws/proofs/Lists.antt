-- Lists of any kind.
use Rattle.std.proofs.Common.{◌≡◌, ◌∙◌, refl, sym, ap, Bool, true, false, cond, ◌||◌, List, [], ◌∷◌, ◌++◌, Option, Some, None, ◌⊎◌, inl, inr}
use Rattle.std.specs.Prelude.{filter_map, filter, map, option_map}
use Rattle.std.specs.List.{list_any, cons_option}
use Rattle.std.proofs.lemmas.List.Folds.{list_any-append}
use Rattle.std.proofs.lemmas.List.Elements.{filter_map-append}
use Rattle.std.proofs.lemmas.Bool.{or_right}
use Rattle.std.proofs.lemmas.List.{append-nil}
use Rattle.notice_model.specs.InEffect.{last_or}

-- P holds of each element
abbrev pub Each : {X : Type 0} → (X → Type 0) → List X → Type 0
Each P [] = Unit {0}
Each P (x ∷ xs) = P x × Each P xs

pub Each-weaker : {X : Type 0} (P Q : X → Type 0) → ((x : X) → P x → Q x) → (xs : List X) → Each P xs → Each Q xs
Each-weaker P Q h [] each = tt
Each-weaker P Q h (x ∷ xs) each = (h x each.0, Each-weaker P Q h xs each.1)

-- a test or nothing
or_false : (b : Bool) → (b || false) ≡ b
or_false true = refl
or_false false = refl

-- one more element that fails a test changes nothing
pub any-push_false : {X : Type 0} (p : X → Bool) (xs : List X) (x : X) → p x ≡ false → list_any p (xs ++ x ∷ []) ≡ list_any p xs
any-push_false p xs x e =
    let last : list_any p (x ∷ []) ≡ false = or_false (p x) ∙ e in
    list_any-append p xs (x ∷ []) ∙ ap (λ b. list_any p xs || b) last ∙ or_false (list_any p xs)

-- and one that passes it is enough
pub any-push_true : {X : Type 0} (p : X → Bool) (xs : List X) (x : X) → p x ≡ true → list_any p (xs ++ x ∷ []) ≡ true
any-push_true p xs x e =
    let last : list_any p (x ∷ []) ≡ true = or_false (p x) ∙ e in
    list_any-append p xs (x ∷ []) ∙ or_right (list_any p xs) (list_any p (x ∷ [])) last

-- the last of a list with one more is that one
pub last_or-push : {A : Type 0} (first : A) (xs : List A) (x : A) → last_or first (xs ++ x ∷ []) ≡ x
last_or-push first [] x = refl
last_or-push first (y ∷ ys) x = last_or-push y ys x

-- one more element that gives nothing
pub filter_map-push_none : {X Y : Type 0} (h : X → Option Y) (xs : List X) (x : X) → h x ≡ None → filter_map h (xs ++ x ∷ []) ≡ filter_map h xs
filter_map-push_none h xs x e =
    filter_map-append h xs (x ∷ []) ∙ ap (λ o. filter_map h xs ++ cons_option o []) e ∙ append-nil (filter_map h xs)

-- and one that gives something
pub filter_map-push_some : {X Y : Type 0} (h : X → Option Y) (xs : List X) (x : X) (y : Y) → h x ≡ Some y → filter_map h (xs ++ x ∷ []) ≡ filter_map h xs ++ y ∷ []
filter_map-push_some h xs x y e =
    filter_map-append h xs (x ∷ []) ∙ ap (λ o. filter_map h xs ++ cons_option o []) e

-- two functions that agree give one list
pub filter_map-agree : {X Y : Type 0} (f g : X → Option Y) → ((x : X) → f x ≡ g x) → (xs : List X) → filter_map f xs ≡ filter_map g xs
filter_map-agree f g h [] = refl
filter_map-agree f g h (x ∷ xs) = rw (h x, filter_map-agree f g h xs) refl

-- what a filter leaves of an option
abbrev pub kept : {Y : Type 0} → (Y → Bool) → Option Y → Option Y
kept p None = None
kept p (Some y) = cond (p y) (Some y) None

-- a filter of a list with what an option has in front
kept-cons : {Y : Type 0} (p : Y → Bool) (o : Option Y) (ys : List Y) → cons_option (kept p o) (filter p ys) ≡ filter p (cons_option o ys)
kept-cons p None ys = refl
kept-cons p (Some y) ys = at_test (p y)
  where
    at_test : (b : Bool) → cons_option (cond b (Some y) None) (filter p ys) ≡ cond b (y ∷ filter p ys) (filter p ys)
    at_test true = refl
    at_test false = refl

-- a function that keeps what passes gives the filtered list
pub filter_map-kept : {X Y : Type 0} (f g : X → Option Y) (p : Y → Bool) → ((x : X) → f x ≡ kept p (g x)) → (xs : List X) → filter_map f xs ≡ filter p (filter_map g xs)
filter_map-kept f g p h [] = refl
filter_map-kept f g p h (x ∷ xs) =
    rw (h x, filter_map-kept f g p h xs) (kept-cons p (g x) (filter_map g xs))

-- a map of a list with what an option has in front
mapped-cons : {Y : Type 0} (m : Y → Y) (o : Option Y) (ys : List Y) → cons_option (option_map m o) (map m ys) ≡ map m (cons_option o ys)
mapped-cons m None ys = refl
mapped-cons m (Some y) ys = refl

-- a function that changes what is given gives the changed list
pub filter_map-mapped : {X Y : Type 0} (f g : X → Option Y) (m : Y → Y) → ((x : X) → f x ≡ option_map m (g x)) → (xs : List X) → filter_map f xs ≡ map m (filter_map g xs)
filter_map-mapped f g m h [] = refl
filter_map-mapped f g m h (x ∷ xs) =
    rw (h x, filter_map-mapped f g m h xs) (mapped-cons m (g x) (filter_map g xs))

-- Facts that hold of an element wherever the list is cut before it.

-- a test that no element passes
pub none-from_cuts : {X : Type 0} (p : X → Bool) (xs : List X) → ((before : List X) (x : X) (after : List X) → xs ≡ before ++ x ∷ after → p x ≡ false) → list_any p xs ≡ false
none-from_cuts p [] cuts = refl
none-from_cuts p (x ∷ xs) cuts =
    let here : p x ≡ false = cuts [] x xs refl in
    let rest : list_any p xs ≡ false = none-from_cuts p xs (λ before y after e. cuts (x ∷ before) y after (ap (λ ys. x ∷ ys) e)) in
    rw (here, rest) refl

-- a function that gives nothing of any element
pub nothing-from_cuts : {X Y : Type 0} (h : X → Option Y) (xs : List X) → ((before : List X) (x : X) (after : List X) → xs ≡ before ++ x ∷ after → h x ≡ None) → filter_map h xs ≡ []
nothing-from_cuts h [] cuts = refl
nothing-from_cuts h (x ∷ xs) cuts =
    let here : h x ≡ None = cuts [] x xs refl in
    let rest : filter_map h xs ≡ [] = nothing-from_cuts h xs (λ before y after e. cuts (x ∷ before) y after (ap (λ ys. x ∷ ys) e)) in
    rw (here, rest) refl

abbrev tail_of : {X : Type 0} → List X → List X
tail_of [] = []
tail_of (x ∷ xs) = xs

abbrev head_or : {X : Type 0} → X → List X → X
head_or d [] = d
head_or d (x ∷ xs) = x

-- a list with one more element is cut before that element or before one of the list
pub record IsCutLast {X : Type 0} (xs before after : List X) (last x : X) : Type 0 where
  pub none : after ≡ []
  pub all : before ≡ xs
  pub same : x ≡ last

pub record IsCutBefore {X : Type 0} (xs before after : List X) (last x : X) : Type 0 where
  pub rest : List X
  pub more : after ≡ rest ++ last ∷ []
  pub cut : xs ≡ before ++ x ∷ rest

-- an empty list is not cut before an element
no_cut : {X : Type 0} (before : List X) (x : X) (after : List X) → [] ≡ before ++ x ∷ after → ⊥
no_cut [] x after e = cc
no_cut (b ∷ bs) x after e = cc

-- where a list with one more element is cut
pub cut_push : {X : Type 0} (xs : List X) (last : X) (before : List X) (x : X) (after : List X) → xs ++ last ∷ [] ≡ before ++ x ∷ after
    → IsCutLast xs before after last x ⊎ IsCutBefore xs before after last x
cut_push [] last [] x after e =
    inl (record { none = sym (ap tail_of e); all = refl; same = sym (ap (head_or x) e) })
cut_push [] last (b ∷ bs) x after e = absurd (no_cut bs x after (ap tail_of e))
cut_push (y ∷ ys) last [] x after e =
    let heads : y ≡ x = ap (head_or x) e in
    let tails : ys ++ last ∷ [] ≡ after = ap tail_of e in
    inr (record { rest = ys; more = sym tails; cut = ap (λ z. z ∷ ys) heads })
cut_push (y ∷ ys) last (b ∷ bs) x after e =
    let heads : y ≡ b = ap (head_or y) e in
    let tails : ys ++ last ∷ [] ≡ bs ++ x ∷ after = ap tail_of e in
    elim (cut_push ys last bs x after tails) [
      | inl l ↦ inl (record { none = l.none; all = rw (sym heads, l.all) refl; same = l.same })
      | inr r ↦ inr (record { rest = r.rest; more = r.more; cut = rw (heads, r.cut) refl })
    ]
