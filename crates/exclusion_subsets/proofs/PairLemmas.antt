-- Determinants of lists without two rows, and one more in their store.
use Rattle.std.specs.Prelude.{◌≡◌, ℕ, zero, suc, ◌+◌, ◌*◌, ◌<◌, ◌≤◌, List, [], ◌∷◌, None, length, slice_set, refl}
use Rattle.std.specs.declared.option.Option.{Option}
use Rattle.std.proofs.Common.{arith, ap, ap₂, sym, subst, inl, inr, ◌∙◌}
use Rattle.std.proofs.lemmas.List.{get_or-set_other}
use Rattle.std.proofs.lemmas.Grind.{get_or-set_at}
use Rattle.fix_interval.specs.declared.Iv64.{Iv64}
use Rattle.geometry_laws.specs.Without.{without}
use Rattle.geom_laws.specs.Rows.{RowEnds}
use Rattle.slope_test.specs.Determinants.{IsDeterminant}
use Rattle.slope_test.proofs.MarkLemmas.{same_or_not}
use Rattle.exclusion_subsets.specs.Pairs.{ArePairs}

-- of two entries it is the same which one is left out first
without_two : {A : Type 0} (i k : ℕ) (xs : List A) → i ≤ k → without k (without i xs) ≡ without i (without (suc k) xs)
unfolding without
without_two i k [] h = refl
without_two zero k (x ∷ xs) h = refl
without_two (suc i) zero (x ∷ xs) h = absurd (omega (arith, h))
without_two (suc i) (suc k) (x ∷ xs) h = ap (λ t. x ∷ t) (without_two i k xs (omega (arith, h)))

-- that of the list without the row at place j, without the i-th of the others, in the line of the list behind it
pub one_more : (places : List (Option Iv64)) (rows : List RowEnds) (i j : ℕ) (x : Option Iv64) → length places ≡ 256 → j ≤ i → i < 15 → IsDeterminant x (without i (without j rows)) → ArePairs places rows → ArePairs (slice_set places (16 * (i + 1) + j) x) rows
one_more places rows i j x n h l known pairs a b s =
    elim (same_or_not (16 * b + a) (16 * (i + 1) + j)) [
      | inl q ↦
          let e : j ≡ a = omega (arith, q, s, h, l) in
          let f : suc i ≡ b = omega (arith, q, s, h, l) in
          subst (λ y. IsDeterminant y (without a (without b rows))) (sym (get_or-set_at places (16 * (i + 1) + j) (16 * b + a) x None q (omega (arith, n, h, l))))
          (subst (λ ys. IsDeterminant x ys) (without_two j i rows h ∙ ap₂ (λ m k. without m (without k rows)) e f) known)
      | inr q ↦ subst (λ y. IsDeterminant y (without a (without b rows))) (sym (get_or-set_other places (16 * (i + 1) + j) (16 * b + a) x None (λ g. absurd (omega (arith, g, q))))) (pairs a b s)
    ]
