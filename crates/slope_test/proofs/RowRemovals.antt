-- The row at a place of a list, and the others.
use Rattle.std.specs.Prelude.{◌≡◌, ℕ, zero, suc, ◌+◌, ◌<◌, List, [], ◌∷◌, ◌++◌, map, take, length, slice_index_or, refl}
use Rattle.std.proofs.Common.{arith, ap, ◌∙◌}
use Rattle.std.proofs.lemmas.List.{take_more, length-map}
use Rattle.fix_interval.specs.Ends.{Ends}
use Rattle.geometry_laws.specs.Without.{without}
use Rattle.geom_laws.specs.Gram.{gram_of}
use Rattle.geom_laws.specs.Adjugate.{adjugate_of}
use Rattle.slope_laws.specs.Rows.{NamedRow, Removal, behind, removals}
use Rattle.slope_laws.specs.declared.Shift.{Shift}
use Rattle.slope_laws.specs.ShiftSlopes.{outcome_of, ends_of, determinant_of, slopes_for}
use Rattle.geom_inverse.specs.declared.Row.{Row}
use Rattle.geom_inverse.specs.Views.{row_ends, rows_ends}
use Rattle.slope_test.specs.Named.{named_row, named, slopes_over}
use Rattle.slope_test.proofs.Withouts.{map-without}

pub length-removals : (rows : List NamedRow) → length (removals rows) ≡ length rows
length-removals [] = refl
length-removals (r ∷ rs) = ap suc (length-map (removals rs) (behind r) ∙ length-removals rs)

mapped : (r : NamedRow) (xs : List Removal) (i : ℕ) (d : Removal) → i < length xs → slice_index_or (map (behind r) xs) i d ≡ behind r (slice_index_or xs i d)
mapped r [] i d p = absurd (omega arith)
mapped r (x ∷ xs) zero d p = refl
mapped r (x ∷ xs) (suc i) d p = mapped r xs i d (omega arith)

pub removal_at : (rows : List NamedRow) (i : ℕ) (d : Removal) (e : NamedRow) → i < length rows → slice_index_or (removals rows) i d ≡ record { row = slice_index_or rows i e; rest = without i rows }
unfolding without
removal_at [] i d e p = absurd (omega arith)
removal_at (r ∷ rs) zero d e p = refl
removal_at (r ∷ rs) (suc i) d e p =
    let n : length (removals rs) ≡ length rs = length-removals rs in
    mapped r (removals rs) i d (omega arith) ∙ ap (behind r) (removal_at rs i d e (omega arith))

pub ends-named : (rows : List Row) → ends_of (named rows) ≡ rows_ends rows
ends-named [] = refl
ends-named (r ∷ rs) = ap (λ t. row_ends r ∷ t) (ends-named rs)

pub named_at : (rows : List Row) (i : ℕ) (d : Row) → i < length rows → slice_index_or (named rows) i (named_row d) ≡ named_row (slice_index_or rows i d)
named_at [] i d p = absurd (omega arith)
named_at (r ∷ rs) zero d p = refl
named_at (r ∷ rs) (suc i) d p = named_at rs i d (omega arith)

-- the row at a place and the others
abbrev pub removal_of : List Row → ℕ → Row → Removal
removal_of rows i d = record { row = named_row (slice_index_or rows i d); rest = without i (named rows) }

pub named_removal : (rows : List Row) (i : ℕ) (d : Row) (e : Removal) → i < length rows → slice_index_or (removals (named rows)) i e ≡ removal_of rows i d
named_removal rows i d e p =
    let n : length (named rows) ≡ length rows = length-map rows named_row in
    removal_at (named rows) i e (named_row d) (omega arith) ∙ ap (λ r. record { row = r; rest = without i (named rows) }) (named_at rows i d p)

-- how the slope of that row compares
pub slope_over_at : (shift : Shift) (rows : List Row) (i : ℕ) (d : Row) (kappa : Ends) →
    slopes_over shift rows kappa (removal_of rows i d) ≡ outcome_of shift (adjugate_of (gram_of (rows_ends rows))) (determinant_of (rows_ends rows)) (determinant_of (without i (rows_ends rows))) (row_ends (slice_index_or rows i d)) kappa
unfolding slopes_for
slope_over_at shift rows i d kappa =
    let a : ends_of (named rows) ≡ rows_ends rows = ends-named rows in
    let b : ends_of (without i (named rows)) ≡ without i (rows_ends rows) = map-without (λ (r : NamedRow). r.ends) i (named rows) ∙ ap (λ t. without i t) a in
    rw (b, a) refl

-- one removal more
pub removals_more : (rows : List Row) (i : ℕ) (d : Row) → i < length rows → take (i + 1) (removals (named rows)) ≡ take i (removals (named rows)) ++ removal_of rows i d ∷ []
removals_more rows i d p =
    let n : length (removals (named rows)) ≡ length rows = length-removals (named rows) ∙ length-map rows named_row in
    let e : Removal = removal_of rows i d in
    take_more (removals (named rows)) i e (omega arith) ∙ ap (λ x. take i (removals (named rows)) ++ x ∷ []) (named_removal rows i d e p)
