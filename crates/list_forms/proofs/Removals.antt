-- The row at a place of a list of forms, and the others.
use Rattle.std.specs.Prelude.{◌≡◌, ℕ, zero, suc, ◌<◌, List, [], ◌∷◌, map, length, slice_index_or, refl}
use Rattle.std.proofs.Common.{arith, ap, ◌∙◌}
use Rattle.std.proofs.lemmas.List.{length-map}
use Rattle.geometry_laws.specs.Without.{without}
use Rattle.geometry_forms.specs.Rows.{RowForm}
use Rattle.matrix_forms.specs.declared.FormRow.{FormRow}
use Rattle.matrix_forms.specs.Views.{row_of, rows_of}
use Rattle.slope_forms.specs.Slopes.{RemovalForm, form_behind, form_removals}
use Rattle.list_forms.specs.Lines.{removal_of}

length-removals : (rows : List RowForm) → length (form_removals rows) ≡ length rows
length-removals [] = refl
length-removals (r ∷ rs) = ap suc (length-map (form_removals rs) (form_behind r) ∙ length-removals rs)

mapped : (r : RowForm) (xs : List RemovalForm) (i : ℕ) (d : RemovalForm) → i < length xs → slice_index_or (map (form_behind r) xs) i d ≡ form_behind r (slice_index_or xs i d)
mapped r [] i d p = absurd (omega (arith, p))
mapped r (x ∷ xs) zero d p = refl
mapped r (x ∷ xs) (suc i) d p = mapped r xs i d (omega (arith, p))

removal_at : (rows : List RowForm) (i : ℕ) (d : RemovalForm) (e : RowForm) → i < length rows → slice_index_or (form_removals rows) i d ≡ record { row = slice_index_or rows i e; rest = without i rows }
unfolding without
removal_at [] i d e p = absurd (omega (arith, p))
removal_at (r ∷ rs) zero d e p = refl
removal_at (r ∷ rs) (suc i) d e p =
    let n : length (form_removals rs) ≡ length rs = length-removals rs in
    mapped r (form_removals rs) i d (omega (arith, n, p)) ∙ ap (form_behind r) (removal_at rs i d e (omega (arith, p)))

row_at : (rows : List FormRow) (i : ℕ) (d : FormRow) → slice_index_or (rows_of rows) i (row_of d) ≡ row_of (slice_index_or rows i d)
row_at [] i d = refl
row_at (r ∷ rs) zero d = refl
row_at (r ∷ rs) (suc i) d = row_at rs i d

pub count : (rows : List FormRow) → length (form_removals (rows_of rows)) ≡ length rows
count rows = length-removals (rows_of rows) ∙ length-map rows row_of

pub removal_is : (rows : List FormRow) (i : ℕ) (d : FormRow) (e : RemovalForm) → i < length rows → slice_index_or (form_removals (rows_of rows)) i e ≡ removal_of rows i d
removal_is rows i d e p =
    let n : length (rows_of rows) ≡ length rows = length-map rows row_of in
    removal_at (rows_of rows) i e (row_of d) (omega (arith, n, p)) ∙ ap (λ (r : RowForm). record { row = r; rest = without i (rows_of rows) }) (row_at rows i d)
