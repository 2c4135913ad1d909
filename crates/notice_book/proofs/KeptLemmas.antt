-- A kept book after one more notice.
use Rattle.std.proofs.Common.{◌≡◌, ◌∙◌, refl, sym, ap, subst, ℕ, ◌<◌, List, [], ◌∷◌, ◌++◌, length, Option, Some, None, Ok, append_assoc}
use Rattle.std.proofs.lemmas.List.{append-nil}
use Rattle.std.specs.Prelude.{IfSome, IsSome, option_map}
use Rattle.notice_model.specs.declared.notice.Notice.{Notice}
use Rattle.notice_model.specs.declared.notice.Live.{Live}
use Rattle.notice_model.specs.Notices.{number_in, target_in, IsWellFormed}
use Rattle.notice_model.specs.InEffect.{in_effect}
use Rattle.notice_model.specs.Book.{greatest}
use Rattle.notice_model.specs.Next.{IsNext}
use Rattle.notice_model.specs.Entries.{entry_at, entries_after, change_of}
use Rattle.notice_laws.proofs.Books.{one_more-book, one_more-change}
use Rattle.notice_book.specs.Tables.{Tables, tables_after}
use Rattle.notice_book.specs.Gains.{IsKept, Gains}
use Rattle.notice_book.specs.Changes.{IsChange}

-- a notice that passes the tests may come next
next_of : (t : Tables) (notice : Notice) (change : Option Live) → IsKept t → IsWellFormed notice → greatest t.held < number_in notice → IsChange t.live notice (Ok change) → IsNext t.held notice
next_of t notice change kept formed above is = record {
  formed = formed;
  above = above;
  named = subst (λ live. IfSome (target_in notice) (λ number. IsSome (entry_at number live))) kept.live is.1;
  room = subst (λ live. target_in notice ≡ None → length live < 256) kept.live is.2;
}

-- the tables after it are kept
kept_after : (t : Tables) (notice : Notice) (change : Option Live) → IsKept t → IsNext t.held notice → change ≡ change_of t.live notice → IsKept (tables_after notice change t)
kept_after t notice change kept next is =
    let now : change ≡ change_of (in_effect t.held) notice = subst (λ live. change ≡ change_of live notice) kept.live is in
    let here : entries_after notice change t.live ≡ entries_after notice (change_of (in_effect t.held) notice) (in_effect t.held) =
    rw (now, kept.live) refl in
    record {
      book = one_more-book t.held notice kept.book next;
      live = here ∙ sym (one_more-change t.held notice kept.book next);
    }

-- and have gained it
gained : (t : Tables) (notice : Notice) (change : Option Live) (new : Option Tables) → IsKept t → IsWellFormed notice → greatest t.held < number_in notice
    → IsChange t.live notice (Ok change) → new ≡ Some (tables_after notice change t) → Gains (Some t) (notice ∷ []) new
gained t notice change new kept formed above is now =
    let next : IsNext t.held notice = next_of t notice change kept formed above is in
    let after : IsKept (tables_after notice change t) = kept_after t notice change kept next is.0 in
    subst (λ o. Gains (Some t) (notice ∷ []) o) (sym now) (refl, after)

-- the same through the keeper's calls: its tables at first, after two calls that kept them, and at last
pub told_gained : (old mid before new : Option Tables) (notice : Notice) (last : ℕ) (change : Option Live) → IfSome old IsKept → mid ≡ old → before ≡ mid → IsWellFormed notice
    → IfSome old (λ t. last ≡ greatest t.held) → last < number_in notice → IfSome mid (λ t. IsChange t.live notice (Ok change))
    → new ≡ option_map (tables_after notice change) before → Gains old (notice ∷ []) new
told_gained None mid before new notice last change kept m b formed greatest_is above is now = now ∙ ap (option_map (tables_after notice change)) (b ∙ m)
told_gained (Some t) mid before new notice last change kept m b formed greatest_is above is now =
    gained t notice change new kept formed
    (subst (λ n. n < number_in notice) greatest_is above)
    (subst (λ o. IfSome o (λ t. IsChange t.live notice (Ok change))) m is)
    (now ∙ ap (option_map (tables_after notice change)) (b ∙ m))

-- what was gained is kept
pub gains_kept : (old : Option Tables) (more : List Notice) (new : Option Tables) → Gains old more new → IfSome new IsKept
gains_kept None more None gains = tt
gains_kept None more (Some u) gains = absurd cc
gains_kept (Some t) more None gains = tt
gains_kept (Some t) more (Some u) gains = gains.1

-- nothing is gained where the tables stay
pub gains_none : (old new : Option Tables) → IfSome old IsKept → new ≡ old → Gains old [] new
gains_none None new kept same = same
gains_none (Some t) new kept same = subst (λ o. Gains (Some t) [] o) (sym same) (sym (append-nil t.held), kept)

-- what was gained in turn was gained together
pub gains_more : (old mid new : Option Tables) (first second : List Notice) → Gains old first mid → Gains mid second new → Gains old (first ++ second) new
gains_more None None new first second a b = b
gains_more None (Some u) new first second a b = absurd cc
gains_more (Some t) None new first second a b = absurd a
gains_more (Some t) (Some u) None first second a b = absurd b
gains_more (Some t) (Some u) (Some v) first second a b =
    (b.0 ∙ ap (λ l. l ++ second) a.0 ∙ append_assoc t.held first second, b.1)
