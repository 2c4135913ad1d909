-- What is known of slopes and of lists that pass.
use Rattle.std.specs.Prelude.{◌≡◌, ℕ, zero, suc, ◌<◌, ◌⊎◌, Bool, true, false, List, [], ◌∷◌, length, slice_index_or, refl}
use Rattle.std.proofs.Common.{◌≢◌, arith, ap, sym, subst, inl, inr, ◌∙◌}
use Rattle.std.proofs.lemmas.List.{get_or_default, length-map}
use Rattle.fix_interval.specs.Ends.{Ends, IsInside}
use Rattle.geometry_laws.specs.Without.{without}
use Rattle.geom_laws.specs.Symmetric.{SymEnds}
use Rattle.geom_laws.specs.Gram.{gram_of}
use Rattle.geom_laws.specs.Adjugate.{adjugate_of}
use Rattle.slope_laws.specs.declared.Outcome.{Outcome}
use Rattle.slope_laws.specs.declared.Outcome.TheVariants.{Passes}
use Rattle.slope_laws.specs.declared.Shift.{Shift}
use Rattle.slope_laws.specs.Rows.{NamedRow, NamedInside, NamedRowsInside}
use Rattle.slope_laws.specs.Hold.{LeavesOutcome, LeavesVerdict}
use Rattle.slope_laws.specs.ShiftSlopes.{outcome_of, determinant_of, slopes_for, detect_of}
use Rattle.slope_laws.proofs.Kept.{inside_length, detect_left}
use Rattle.slope_laws.proofs.ShiftSlopes.{shift_holds}
use Rattle.geom_inverse.specs.declared.Row.{Row}
use Rattle.geom_inverse.specs.Views.{row_ends, rows_ends}
use Rattle.slope_test.specs.Marks.{removed, SlopesPass, ListsPass}
use Rattle.slope_test.specs.Named.{named_row, named, slopes_over}
use Rattle.slope_test.proofs.RowRemovals.{removal_of, slope_over_at, named_at}

pub same_or_not : (m n : ℕ) → (m ≡ n) ⊎ (m ≢ n)
same_or_not zero zero = inl refl
same_or_not zero (suc n) = inr (omega arith)
same_or_not (suc m) zero = inr (omega arith)
same_or_not (suc m) (suc n) = elim (same_or_not m n) [ inl e ↦ inl (ap suc e) | inr d ↦ inr (omega arith) ]

-- the slope of the row at a place, whichever row stands for a missing one
slope_removed : (shift : Shift) (rows : List Row) (kappa : Ends) (i : ℕ) (d : NamedRow) (row : Row) → i < length rows
    → (slopes_for shift).outcome (named rows) (removed (named rows) i d) kappa ≡ slopes_over shift rows kappa (removal_of rows i row)
slope_removed shift rows kappa i d row p =
    let n : length (named rows) ≡ length rows = length-map rows named_row in
    let e : slice_index_or (named rows) i d ≡ named_row (slice_index_or rows i row) = get_or_default (named rows) i d (named_row row) (omega arith) ∙ named_at rows i row p in
    ap (λ r. (slopes_for shift).outcome (named rows) (record { row = r; rest = without i (named rows) }) kappa) e

-- how it compares, by the adjugate and the determinant at hand
slope_at_hand : (shift : Shift) (rows : List Row) (kappa : Ends) (i : ℕ) (d : NamedRow) (row : Row) (adj : SymEnds) (det : Ends) → i < length rows → adj ≡ adjugate_of (gram_of (rows_ends rows)) → det ≡ determinant_of (rows_ends rows)
    → (slopes_for shift).outcome (named rows) (removed (named rows) i d) kappa ≡ outcome_of shift adj det (determinant_of (without i (rows_ends rows))) (row_ends (slice_index_or rows i row)) kappa
slope_at_hand shift rows kappa i d row adj det p a b =
    slope_removed shift rows kappa i d row p
    ∙ slope_over_at shift rows i row kappa
    ∙ ap (λ m. outcome_of shift m (determinant_of (rows_ends rows)) (determinant_of (without i (rows_ends rows))) (row_ends (slice_index_or rows i row)) kappa) (sym a)
    ∙ ap (λ m. outcome_of shift adj m (determinant_of (without i (rows_ends rows))) (row_ends (slice_index_or rows i row)) kappa) (sym b)

-- one that is known to pass
pub marked_passes : (shift : Shift) (rows : List Row) (kappa : Ends) (marks : List Bool) (i : ℕ) (row : Row) (adj : SymEnds) (det : Ends) → SlopesPass shift (named rows) kappa marks → i < length rows → slice_index_or marks i false ≡ true
    → adj ≡ adjugate_of (gram_of (rows_ends rows)) → det ≡ determinant_of (rows_ends rows) → Passes ≡ outcome_of shift adj det (determinant_of (without i (rows_ends rows))) (row_ends (slice_index_or rows i row)) kappa
marked_passes shift rows kappa marks i row adj det h p t a b =
    let n : length (named rows) ≡ length rows = length-map rows named_row in
    sym (h i (named_row row) (omega arith) t) ∙ slope_at_hand shift rows kappa i (named_row row) row adj det p a b

-- how one compares that is worked out
pub worked_out : (shift : Shift) (rows : List Row) (kappa : Ends) (i : ℕ) (r row : Row) (adj : SymEnds) (det less : Ends) (o : Outcome) → o ≡ outcome_of shift adj det less (row_ends r) kappa → less ≡ determinant_of (without i (rows_ends rows))
    → r ≡ slice_index_or rows i r → i < length rows → o ≡ outcome_of shift adj det (determinant_of (without i (rows_ends rows))) (row_ends (slice_index_or rows i row)) kappa
worked_out shift rows kappa i r row adj det less o e l here p =
    e ∙ ap (λ (t : Ends). outcome_of shift adj det t (row_ends r) kappa) l
    ∙ ap (λ (q : Row). outcome_of shift adj det (determinant_of (without i (rows_ends rows))) (row_ends q) kappa) (here ∙ get_or_default rows i r row p)

-- one more that passes
pub marks_more : (shift : Shift) (rows : List Row) (kappa : Ends) (old new : List Bool) (i : ℕ) (row : Row) (adj : SymEnds) (det : Ends) → SlopesPass shift (named rows) kappa old → i < length rows
    → adj ≡ adjugate_of (gram_of (rows_ends rows)) → det ≡ determinant_of (rows_ends rows) → outcome_of shift adj det (determinant_of (without i (rows_ends rows))) (row_ends (slice_index_or rows i row)) kappa ≡ Passes
    → ((k : ℕ) → k ≢ i → slice_index_or new k false ≡ slice_index_or old k false) → SlopesPass shift (named rows) kappa new
marks_more shift rows kappa old new i row adj det h p a b e others k d l t =
    elim (same_or_not k i) [
      | inl q ↦ ap (λ m. (slopes_for shift).outcome (named rows) (removed (named rows) m d) kappa) q ∙ slope_at_hand shift rows kappa i d row adj det p a b ∙ e
      | inr q ↦ h k d l (sym (others k q) ∙ t)
    ]

-- ---- of none
-- so many places, none of them marked
abbrev pub unmarked_places : ℕ → List Bool
unmarked_places zero = []
unmarked_places (suc n) = false ∷ unmarked_places n

pub unmarked : (n k : ℕ) → slice_index_or (unmarked_places n) k false ≡ false
unmarked zero k = refl
unmarked (suc n) zero = refl
unmarked (suc n) (suc k) = unmarked n k

-- none is marked where each has no mark
pub none_marked : (marks : List Bool) → ((k : ℕ) → slice_index_or marks k false ≡ false) → (i : ℕ) → slice_index_or marks i false ≡ true → ⊥
none_marked marks h i t = let e : true ≡ false = sym t ∙ h i in cc

-- ---- on rows inside
-- rows inside without the same one
pub without_inside : (i : ℕ) (rows wide : List NamedRow) → NamedRowsInside rows wide → NamedRowsInside (without i rows) (without i wide)
unfolding without
without_inside i [] [] h = tt
without_inside zero (r ∷ rs) (w ∷ ws) h = h.1
without_inside (suc i) (r ∷ rs) (w ∷ ws) h = (h.0, without_inside i rs ws h.1)
without_inside i [] (w ∷ ws) h = absurd h
without_inside i (r ∷ rs) [] h = absurd h

row_inside : (i : ℕ) (d : NamedRow) (rows wide : List NamedRow) → NamedRowsInside rows wide → i < length rows → NamedInside (slice_index_or rows i d) (slice_index_or wide i d)
row_inside i d [] [] h p = absurd (omega (arith, p))
row_inside zero d (r ∷ rs) (w ∷ ws) h p = h.0
row_inside (suc i) d (r ∷ rs) (w ∷ ws) h p = row_inside i d rs ws h.1 (omega (arith, p))
row_inside i d [] (w ∷ ws) h p = absurd h
row_inside i d (r ∷ rs) [] h p = absurd h

-- a slope that passes passes on rows inside
pub slopes_stay : (shift : Shift) (rows wide : List NamedRow) (kappa : Ends) (marks : List Bool) → IsInside kappa kappa → NamedRowsInside rows wide → SlopesPass shift wide kappa marks → SlopesPass shift rows kappa marks
slopes_stay shift rows wide kappa marks own inside h i row p t =
    let n : length rows ≡ length wide = inside_length rows wide inside in
    subst (λ o. LeavesOutcome o ((slopes_for shift).outcome rows (removed rows i row) kappa)) (h i row (omega arith) t)
    ((shift_holds shift).outcome_isotone rows wide (removed rows i row) (removed wide i row) kappa kappa inside (row_inside i row rows wide inside p) (without_inside i rows wide inside) own)

-- and so does a list without a row
pub lists_stay : (shift : Shift) (rows wide : List NamedRow) (kappa_less : Ends) (marks : List Bool) → IsInside kappa_less kappa_less → NamedRowsInside rows wide → ListsPass shift wide kappa_less marks → ListsPass shift rows kappa_less marks
lists_stay shift rows wide kappa_less marks own inside h i p t =
    let n : length rows ≡ length wide = inside_length rows wide inside in
    subst (λ v. LeavesVerdict v (detect_of shift (without i rows) kappa_less)) (h i (omega arith) t)
    (detect_left (slopes_for shift) (shift_holds shift) (without i rows) (without i wide) kappa_less kappa_less (without_inside i rows wide inside) own)
