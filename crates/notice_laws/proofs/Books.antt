-- Books with one more notice.
use Rattle.std.proofs.Common.{◌≡◌, ◌∙◌, refl, sym, ap, subst, ℕ, ◌<◌, ◌≤◌, ◌==◌, ◌+◌, ℤ, Bool, true, false, cond, ◌||◌, List, [], ◌∷◌, ◌++◌, length, Option, Some, None, inl, inr, arith, append_assoc, length-append}
use Rattle.std.specs.Prelude.{filter_map, filter, map, option_map, IsSome, IfSome}
use Rattle.std.specs.List.{cons_option}
use Rattle.std.proofs.lemmas.Bool.{eqb-true, ne_eqb, or_parts}
use Rattle.std.proofs.lemmas.List.{append-nil, length-map}
use Rattle.std.proofs.lemmas.List.Elements.{All-push}
use Rattle.std.proofs.lemmas.List.Quantifiers.{all_pairs_push}
use Rattle.std.proofs.lemmas.List.Sums.{length-filter, count_by-le-length}
use Rattle.std.proofs.lemmas.List.Folds.{list_any-append}
use Rattle.notice_model.specs.declared.notice.Notice.{Notice}
use Rattle.notice_model.specs.declared.notice.Notice.TheVariants.{Add, Reschedule, Cancel}
use Rattle.notice_model.specs.declared.notice.Live.{Live}
use Rattle.notice_model.specs.Notices.{number_in, target_in, IsWellFormed}
use Rattle.notice_model.specs.InEffect.{cancels, is_cancelled, times_for, times_of, entry, effect_in, in_effect}
use Rattle.notice_model.specs.Book.{IsBook, Announces, NamesOne, greatest}
use Rattle.notice_model.specs.Next.{IsNext}
use Rattle.notice_model.specs.Entries.{moved, entry_at, entries_after, change_of}
use Rattle.notice_laws.proofs.Lists.{none-from_cuts, nothing-from_cuts, filter_map-push_some, filter_map-push_none, filter_map-agree, filter_map-kept, filter_map-mapped, cut_push}
use Rattle.notice_laws.proofs.Effects.{effect-add, effect-cancel, effect-move, is_other, moved_if}
use Rattle.notice_laws.proofs.Maps.{with_entry-last, with_entry-moved}
use Rattle.notice_laws.proofs.Numbers.{greatest-cut, each-below, each-at, effects-each, book-rising}

-- What a book says of a number above all its own.

-- a book names no number above its greatest
named-below : (notices : List Notice) → IsBook notices → (before : List Notice) (x : Notice) (after : List Notice) → notices ≡ before ++ x ∷ after
    → (t : ℕ) → target_in x ≡ Some t → t ≤ greatest notices
named-below notices book before x after cut t names =
    let a : Announces before t = subst (λ (o : Option ℕ). IfSome o (Announces before)) names (book.named before x after cut) in
    let front : before ++ x ∷ after ≡ a.before ++ Add t a.prn a.start a.end ∷ (a.after ++ x ∷ after) =
    ap (λ l. l ++ x ∷ after) a.split ∙ append_assoc a.before (Add t a.prn a.start a.end ∷ a.after) (x ∷ after) in
    subst (λ l. t ≤ greatest l) (sym (cut ∙ front)) (greatest-cut a.before (Add t a.prn a.start a.end) (a.after ++ x ∷ after))

-- so a notice of it cancels no number above
not_cancels : (k : ℕ) (x : Notice) → ((t : ℕ) → target_in x ≡ Some t → t < k) → cancels k x ≡ false
not_cancels k (Add number prn start end) h = refl
not_cancels k (Reschedule number target start end) h = refl
not_cancels k (Cancel number target) h = let l : target < k = h target refl in ne_eqb target k (λ q. omega (arith, l, q))

-- and moves none
not_moves : (k : ℕ) (x : Notice) → ((t : ℕ) → target_in x ≡ Some t → t < k) → times_for k x ≡ None
not_moves k (Add number prn start end) h = refl
not_moves k (Reschedule number target start end) h =
    let l : target < k = h target refl in
    let test : (target == k) ≡ false = ne_eqb target k (λ q. omega (arith, l, q)) in
    rw test refl
not_moves k (Cancel number target) h = refl

-- a number above all of a book is not cancelled
no_cancel : (notices : List Notice) (k : ℕ) → IsBook notices → greatest notices < k → is_cancelled notices k ≡ false
no_cancel notices k book l =
    none-from_cuts (cancels k) notices (λ before x after cut. not_cancels k x (λ t names.
    let m : t ≤ greatest notices = named-below notices book before x after cut t names in omega (arith, l, m)))

-- and not moved
no_move : (notices : List Notice) (k : ℕ) → IsBook notices → greatest notices < k → filter_map (times_for k) notices ≡ []
no_move notices k book l =
    nothing-from_cuts (times_for k) notices (λ before x after cut. not_moves k x (λ t names.
    let m : t ≤ greatest notices = named-below notices book before x after cut t names in omega (arith, l, m)))

-- an Add of such a number has its own times
effect-new : (notices : List Notice) (k p : ℕ) (s : ℤ) (e : Option ℤ) → IsBook notices → greatest notices < k
    → effect_in notices (Add k p s e) ≡ Some (entry k p (s, e))
effect-new notices k p s e book l =
    let none : is_cancelled notices k ≡ false = no_cancel notices k book l in
    let own : filter_map (times_for k) notices ≡ [] = no_move notices k book l in
    rw (none, own) refl

-- The entries after one more notice.

-- after an Add its entry stands behind the others
change-add : (notices : List Notice) (k p : ℕ) (s : ℤ) (e : Option ℤ) → IsBook notices → greatest notices < k
    → in_effect (notices ++ Add k p s e ∷ []) ≡ in_effect notices ++ entry k p (s, e) ∷ []
change-add notices k p s e book l =
    filter_map-push_some (effect_in (notices ++ Add k p s e ∷ [])) notices (Add k p s e) (entry k p (s, e))
    (effect-add notices k p s e (Add k p s e) ∙ effect-new notices k p s e book l)
    ∙ ap (λ es. es ++ entry k p (s, e) ∷ []) (filter_map-agree (effect_in (notices ++ Add k p s e ∷ [])) (effect_in notices) (effect-add notices k p s e) notices)

-- after a Cancel the entries are those of other numbers
change-cancel : (notices : List Notice) (k t : ℕ) → in_effect (notices ++ Cancel k t ∷ []) ≡ filter (is_other t) (in_effect notices)
change-cancel notices k t =
    filter_map-push_none (effect_in (notices ++ Cancel k t ∷ [])) notices (Cancel k t) refl
    ∙ filter_map-kept (effect_in (notices ++ Cancel k t ∷ [])) (effect_in notices) (is_other t) (effect-cancel notices k t) notices

-- after a Reschedule the entry of the target has other times
change-move : (notices : List Notice) (k t : ℕ) (s : ℤ) (e : Option ℤ) → in_effect (notices ++ Reschedule k t s e ∷ []) ≡ map (moved_if t s e) (in_effect notices)
change-move notices k t s e =
    filter_map-push_none (effect_in (notices ++ Reschedule k t s e ∷ [])) notices (Reschedule k t s e) refl
    ∙ filter_map-mapped (effect_in (notices ++ Reschedule k t s e ∷ [])) (effect_in notices) (moved_if t s e) (effect-move notices k t s e) notices

-- after one more notice the entries are changed as that notice says
pub one_more-change : (notices : List Notice) (notice : Notice) → IsBook notices → IsNext notices notice
    → in_effect (notices ++ notice ∷ []) ≡ entries_after notice (change_of (in_effect notices) notice) (in_effect notices)
one_more-change notices (Add k p s e) book next =
    change-add notices k p s e book next.above
    ∙ sym (with_entry-last (entry k p (s, e)) (in_effect notices) (effects-each (λ m. m < k) notices notices (each-below k notices next.above)))
one_more-change notices (Reschedule k t s e) book next = by_found (entry_at t (in_effect notices)) refl next.named
  where
    by_found : (o : Option Live) → entry_at t (in_effect notices) ≡ o → IsSome o
        → in_effect (notices ++ Reschedule k t s e ∷ []) ≡ entries_after (Reschedule k t s e) (option_map (moved s e) o) (in_effect notices)
    by_found None found some = absurd cc
    by_found (Some x) found some =
        change-move notices k t s e ∙ sym (with_entry-moved t s e (in_effect notices) x (book-rising notices book) found)
one_more-change notices (Cancel k t) book next = change-cancel notices k t

-- What is in effect was announced.

pub record IsFound (all notices : List Notice) (t : ℕ) : Type 0 where
  pub before : List Notice
  pub prn : ℕ
  pub start : ℤ
  pub end : Option ℤ
  pub after : List Notice
  pub split : notices ≡ before ++ Add t prn start end ∷ after
  pub standing : is_cancelled all t ≡ false

-- what is found in a list is found with one more notice in front
further : (all notices : List Notice) (n : Notice) (t : ℕ) → IsFound all notices t → IsFound all (n ∷ notices) t
further all notices n t f = record {
  before = n ∷ f.before;
  prn = f.prn;
  start = f.start;
  end = f.end;
  after = f.after;
  split = ap (λ l. n ∷ l) f.split;
  standing = f.standing;
}

-- a number in effect has an Add that no Cancel names
is_found : (all notices : List Notice) (t : ℕ) → IsSome (entry_at t (filter_map (effect_in all) notices)) → IsFound all notices t
is_found all [] t some = absurd cc
is_found all (Add number prn start end ∷ ns) t some = by_cancel (is_cancelled all number) refl some (is_found all ns t)
  where
    rest : List Live
    rest = filter_map (effect_in all) ns

    by_number : (c : Bool) → (number == t) ≡ c → is_cancelled all number ≡ false → IsSome (cond c (Some (entry number prn (times_of all number (start, end)))) (entry_at t (filter_map (effect_in all) ns)))
        → (IsSome (entry_at t (filter_map (effect_in all) ns)) → IsFound all ns t) → IsFound all (Add number prn start end ∷ ns) t
    by_number true q standing s later =
        let same : number ≡ t = eqb-true number t q in
        record {
          before = [];
          prn = prn;
          start = start;
          end = end;
          after = ns;
          split = ap (λ m. Add m prn start end ∷ ns) same;
          standing = subst (λ m. is_cancelled all m ≡ false) same standing;
        }
    by_number false q standing s later = further all ns (Add number prn start end) t (later s)

    by_cancel : (b : Bool) → is_cancelled all number ≡ b → IsSome (entry_at t (cons_option (cond b None (Some (entry number prn (times_of all number (start, end))))) (filter_map (effect_in all) ns)))
        → (IsSome (entry_at t (filter_map (effect_in all) ns)) → IsFound all ns t) → IsFound all (Add number prn start end ∷ ns) t
    by_cancel true q s later = further all ns (Add number prn start end) t (later s)
    by_cancel false q s later = by_number (number == t) refl q s later
is_found all (Reschedule number target start end ∷ ns) t some = further all ns (Reschedule number target start end) t (is_found all ns t some)
is_found all (Cancel number target ∷ ns) t some = further all ns (Cancel number target) t (is_found all ns t some)

-- so it is announced
pub announced : (notices : List Notice) (t : ℕ) → IsSome (entry_at t (in_effect notices)) → Announces notices t
announced notices t some =
    let f : IsFound notices notices t = is_found notices notices t some in
    let whole : is_cancelled (f.before ++ Add t f.prn f.start f.end ∷ f.after) t ≡ false = subst (λ l. is_cancelled l t ≡ false) f.split f.standing in
    let parts : (is_cancelled f.before t || is_cancelled (Add t f.prn f.start f.end ∷ f.after) t) ≡ false = sym (list_any-append (cancels t) f.before (Add t f.prn f.start f.end ∷ f.after)) ∙ whole in
    record {
      before = f.before;
      prn = f.prn;
      start = f.start;
      end = f.end;
      after = f.after;
      split = f.split;
      standing = (or_parts _ _ parts).1;
    }

-- a notice that may come next names what is announced
names-next : (notices : List Notice) (notice : Notice) → IsNext notices notice → NamesOne notices notice
names-next notices (Add k p s e) next = tt
names-next notices (Reschedule k t s e) next = announced notices t next.named
names-next notices (Cancel k t) next = announced notices t next.named

-- One more notice leaves at most 256 entries.

-- a book has at most 256 outages in effect
pub few-now : (notices : List Notice) → IsBook notices → length (in_effect notices) ≤ 256
few-now notices book = book.few notices [] (sym (append-nil notices))

-- and so has one with one more notice
few-next : (notices : List Notice) (notice : Notice) → IsBook notices → IsNext notices notice → length (in_effect (notices ++ notice ∷ [])) ≤ 256
few-next notices (Add k p s e) book next =
    let room : length (in_effect notices) < 256 = next.room refl in
    let longer : length (in_effect (notices ++ Add k p s e ∷ [])) ≡ length (in_effect notices) + 1 =
    ap length (change-add notices k p s e book next.above) ∙ length-append (in_effect notices) (entry k p (s, e) ∷ []) in
    omega (arith, room, longer)
few-next notices (Reschedule k t s e) book next =
    let same : length (in_effect (notices ++ Reschedule k t s e ∷ [])) ≡ length (in_effect notices) =
    ap length (change-move notices k t s e) ∙ length-map (in_effect notices) (moved_if t s e) in
    omega (arith, same, few-now notices book)
few-next notices (Cancel k t) book next =
    let same : length (in_effect (notices ++ Cancel k t ∷ [])) ≡ length (filter (is_other t) (in_effect notices)) = ap length (change-cancel notices k t) in
    omega (arith, same, few-now notices book, length-filter (is_other t) (in_effect notices), count_by-le-length (is_other t) (in_effect notices))

-- after each front of it
few-all : (notices : List Notice) (notice : Notice) → IsBook notices → IsNext notices notice
    → (before after : List Notice) → notices ++ notice ∷ [] ≡ before ++ after → length (in_effect before) ≤ 256
few-all notices notice book next before [] cut =
    subst (λ l. length (in_effect l) ≤ 256) (cut ∙ append-nil before) (few-next notices notice book next)
few-all notices notice book next before (x ∷ after) cut = elim (cut_push notices notice before x after cut) [
  | inl l ↦ subst (λ l. length (in_effect l) ≤ 256) (sym l.all) (few-now notices book)
  | inr r ↦ book.few before (x ∷ r.rest) r.cut
]

-- each notice of it names what is announced before
named-all : (notices : List Notice) (notice : Notice) → IsBook notices → IsNext notices notice
    → (before : List Notice) (x : Notice) (after : List Notice) → notices ++ notice ∷ [] ≡ before ++ x ∷ after → NamesOne before x
named-all notices notice book next before x after cut = elim (cut_push notices notice before x after cut) [
  | inl l ↦ subst (λ b. NamesOne b x) (sym l.all) (subst (λ n. NamesOne notices n) (sym l.same) (names-next notices notice next))
  | inr r ↦ book.named before x r.rest r.cut
]

-- so it is a book again
pub one_more-book : (notices : List Notice) (notice : Notice) → IsBook notices → IsNext notices notice → IsBook (notices ++ notice ∷ [])
one_more-book notices notice book next = record {
  formed = All-push IsWellFormed notices notice book.formed next.formed;
  rising = all_pairs_push (λ a b. number_in a < number_in b) notices notice book.rising
      (λ k d l. each-at (λ n. number_in n < number_in notice) notices k d (each-below (number_in notice) notices next.above) l);
  named = named-all notices notice book next;
  few = few-all notices notice book next;
}

-- no notices are not cut before one
no_first : (before : List Notice) (x : Notice) (after : List Notice) → [] ≡ before ++ x ∷ after → ⊥
no_first [] x after cut = cc
no_first (b ∷ bs) x after cut = cc

-- after no notices nothing is in effect
few-empty : (before after : List Notice) → [] ≡ before ++ after → length (in_effect before) ≤ 256
few-empty [] after cut = omega arith
few-empty (b ∷ bs) after cut = absurd cc

-- no notices are a book
pub empty_book : IsBook []
empty_book = record {
  formed = λ k d l. absurd (omega (arith, l));
  rising = λ i j d l m. absurd (omega (arith, m));
  named = λ before x after cut. absurd (no_first before x after cut);
  few = few-empty;
}
