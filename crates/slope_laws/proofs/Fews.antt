-- A test answers Few exactly where there are too few rows.
use Rattle.std.specs.Prelude.{◌≡◌, ℕ, suc, ◌<◌, ◌≤◌, Bool, true, false, if◌then◌else◌, List, [], ◌∷◌, length, map, Some, None, refl}
use Rattle.std.specs.List.{AllByRecursion}
use Rattle.std.specs.declared.option.Option.{Option}
use Rattle.std.proofs.Common.{arith, ap, inl, inr}
use Rattle.std.proofs.lemmas.Bool.{lt-ltb, le-ltb, cases_lt}
use Rattle.raim_model.specs.declared.verdict.Why.TheVariants as why
use Rattle.raim_model.specs.declared.verdict.Cmp.TheVariants as cmp
use Rattle.fix_interval.specs.Ends.{Ends}
use Rattle.raim_model.specs.declared.verdict.Verdict.{Verdict}
use Rattle.raim_model.specs.declared.verdict.Verdict.TheVariants.{Available, Unavailable, Undecided, Overflow}
use Rattle.slope_laws.specs.Rows.{NamedRow, Removal, behind, removals}
use Rattle.slope_laws.specs.Slopes.{SlopeTest, of_slopes, detect_by}
use Rattle.slope_laws.specs.Subsets.{named_without, unless_passes, first_open, exclude_by}

pub detect_few : (test : SlopeTest) (rows : List NamedRow) (kappa : Ends) → length rows < 5 → detect_by test rows kappa ≡ Unavailable why.Few
unfolding detect_by
detect_few test rows kappa p = rw (lt-ltb (length rows) 5 p) refl

pub exclude_few : (test : SlopeTest) (rows : List NamedRow) (kappa kappa_less : Ends) → length rows < 6 → exclude_by test rows kappa kappa_less ≡ Unavailable why.Few
unfolding exclude_by
exclude_few test rows kappa kappa_less p = rw (lt-ltb (length rows) 6 p) refl

-- the slopes and the determinant never say that there are too few
no_few_slopes : (a b c : Option ℕ) → of_slopes a b c ≡ Unavailable why.Few → ⊥
no_few_slopes (Some p) b c e = cc
no_few_slopes None (Some p) c e = cc
no_few_slopes None None (Some p) e = cc
no_few_slopes None None None e = cc

no_few_determinant : (t u : Bool) (v : Verdict) → (v ≡ Unavailable why.Few → ⊥) → (if t then Unavailable why.Singular else if u then Undecided cmp.Det else v) ≡ Unavailable why.Few → ⊥
no_few_determinant true u v n e = cc
no_few_determinant false true v n e = cc
no_few_determinant false false v n e = n e

detect_not_few : (test : SlopeTest) (rows : List NamedRow) (kappa : Ends) → 5 ≤ length rows → detect_by test rows kappa ≡ Unavailable why.Few → ⊥
unfolding detect_by
detect_not_few test rows kappa q e = no_few_determinant _ _ _ (no_few_slopes _ _ _) (rw (le-ltb (length rows) 5 q) at e)

pub detect_few_only : (test : SlopeTest) (rows : List NamedRow) (kappa : Ends) → detect_by test rows kappa ≡ Unavailable why.Few → length rows < 5
detect_few_only test rows kappa e = elim (cases_lt (length rows) 5) [
  | inl p ↦ p
  | inr p ↦ absurd (detect_not_few test rows kappa p e)
]

-- each list without one row is one row shorter
mapped_rests : (row : NamedRow) (n : ℕ) (xs : List Removal) → AllByRecursion (λ x. suc (length x.rest) ≡ n) xs → AllByRecursion (λ x. suc (length x.rest) ≡ suc n) (map (behind row) xs)
mapped_rests row n [] h = tt
mapped_rests row n (x ∷ xs) h = (ap suc h.0, mapped_rests row n xs h.1)

rests : (rows : List NamedRow) → AllByRecursion (λ x. suc (length x.rest) ≡ length rows) (removals rows)
rests [] = tt
rests (row ∷ rows) = (refl, mapped_rests row (length rows) (removals rows) (rests rows))

first_not_few : (v next : Verdict) (prn : ℕ) → (v ≡ Unavailable why.Few → ⊥) → (next ≡ Unavailable why.Few → ⊥) → unless_passes (named_without prn v) next ≡ Unavailable why.Few → ⊥
first_not_few Available next prn n m e = m e
first_not_few (Unavailable w) next prn n m e = n e
first_not_few (Undecided c) next prn n m e = cc
first_not_few (Overflow p) next prn n m e = cc

subsets_not_few : (test : SlopeTest) (kappa : Ends) (n : ℕ) (xs : List Removal) → 6 ≤ n → AllByRecursion (λ x. suc (length x.rest) ≡ n) xs → first_open (λ rest. detect_by test rest kappa) xs ≡ Unavailable why.Few → ⊥
subsets_not_few test kappa n [] p h e = cc
subsets_not_few test kappa n (x ∷ xs) p h e =
    let l : suc (length x.rest) ≡ n = h.0 in
    let q : 5 ≤ length x.rest = omega arith in
    first_not_few (detect_by test x.rest kappa) _ x.row.prn (detect_not_few test x.rest kappa q) (subsets_not_few test kappa n xs p h.1) e

whole_not_few : (v next : Verdict) → (v ≡ Unavailable why.Few → ⊥) → (next ≡ Unavailable why.Few → ⊥) → unless_passes v next ≡ Unavailable why.Few → ⊥
whole_not_few Available next n m e = m e
whole_not_few (Unavailable w) next n m e = n e
whole_not_few (Undecided c) next n m e = cc
whole_not_few (Overflow p) next n m e = cc

exclude_not_few : (test : SlopeTest) (rows : List NamedRow) (kappa kappa_less : Ends) → 6 ≤ length rows → exclude_by test rows kappa kappa_less ≡ Unavailable why.Few → ⊥
unfolding exclude_by
exclude_not_few test rows kappa kappa_less q e =
    whole_not_few (detect_by test rows kappa) _ (detect_not_few test rows kappa (omega arith)) (subsets_not_few test kappa_less (length rows) (removals rows) q (rests rows))
    (rw (le-ltb (length rows) 6 q) at e)

pub exclude_few_only : (test : SlopeTest) (rows : List NamedRow) (kappa kappa_less : Ends) → exclude_by test rows kappa kappa_less ≡ Unavailable why.Few → length rows < 6
exclude_few_only test rows kappa kappa_less e = elim (cases_lt (length rows) 6) [
  | inl p ↦ p
  | inr p ↦ absurd (exclude_not_few test rows kappa kappa_less p e)
]
