-- A store of determinants, by place, and one more in it.
use Rattle.std.specs.Prelude.{ℕ, zero, suc, ◌<◌, List, [], ◌∷◌, None, length, slice_index_or, slice_set, refl}
use Rattle.std.specs.declared.option.Option.{Option}
use Rattle.std.proofs.Common.{arith, sym, subst, inl, inr}
use Rattle.std.proofs.lemmas.List.{get_or-set_other}
use Rattle.std.proofs.lemmas.Grind.{get_or-set_at}
use Rattle.fix_interval.specs.declared.Iv64.{Iv64}
use Rattle.geom_laws.specs.Rows.{RowEnds}
use Rattle.slope_test.specs.Determinants.{IsDeterminant}
use Rattle.slope_test.proofs.MarkLemmas.{same_or_not}

-- so many places, at none of them an entry
abbrev pub empty_places : ℕ → List (Option Iv64)
empty_places zero = []
empty_places (suc n) = None ∷ empty_places n

pub none_known : (n i : ℕ) (rows : List RowEnds) → IsDeterminant (slice_index_or (empty_places n) i None) rows
none_known zero i rows = tt
none_known (suc n) zero rows = tt
none_known (suc n) (suc i) rows = none_known n i rows

-- what holds of the entry at each place holds where one is replaced by such an entry
pub each_set : {A : Type 0} (P : ℕ → A → Type 0) (xs : List A) (p : ℕ) (x d : A) → p < length xs → P p x → ((i : ℕ) → P i (slice_index_or xs i d)) → (i : ℕ) → P i (slice_index_or (slice_set xs p x) i d)
each_set P xs p x d n e h i =
    elim (same_or_not i p) [
      | inl q ↦ subst (λ k. P k (slice_index_or (slice_set xs p x) k d)) (sym q) (subst (λ y. P p y) (sym (get_or-set_at xs p p x d refl n)) e)
      | inr q ↦ subst (λ y. P i y) (sym (get_or-set_other xs p i x d (λ f. absurd (omega (arith, f, q))))) (h i)
    ]
