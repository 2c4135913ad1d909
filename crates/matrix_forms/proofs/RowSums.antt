-- The sums over the rows of the program, row by row.
use Rattle.std.specs.Prelude.{◌≡◌, ℕ, zero, suc, ◌+◌, ◌*◌, ◌^◌, ◌<◌, ◌≤◌, List, [], ◌∷◌, length, slice_index_or, take, refl}
use Rattle.std.proofs.Common.{arith, ap, sym, subst, ◌∙◌}
use Rattle.std.proofs.lemmas.Int.{ints}
use Rattle.raim_model.specs.Geometry.{Axis, East, North, Up, Clock}
use Rattle.geometry_laws.specs.Without.{without}
use Rattle.time_forms.specs.Forms.{Form}
use Rattle.time_forms.specs.Operations.{bounded_of, add_form, less_form, wide_form}
use Rattle.time_forms.specs.Programs.{IsFormWithin}
use Rattle.time_forms.proofs.FormSums.{add_form-comm, add_form-assoc}
use Rattle.time_forms.proofs.Bits.{add_within}
use Rattle.time_forms.proofs.WideBounds.{wide_within}
use Rattle.geometry_forms.specs.Rows.{form_part}
use Rattle.geometry_forms.specs.Matrices.{SymForm}
use Rattle.geometry_forms.specs.Geometry.{product_form, sum_form, form_table}
use Rattle.geometry_forms.proofs.Grams.{less-without}
use Rattle.matrix_forms.specs.declared.row.FormRow.{FormRow}
use Rattle.matrix_forms.specs.declared.matrix.WideMatrix.{WideMatrix}
use Rattle.matrix_forms.specs.Views.{row_of, rows_of, wide_matrix_of}
use Rattle.matrix_forms.specs.Sums.{IsMatrixWithin, products_of, matrix_sum, matrix_less}
use Rattle.matrix_forms.proofs.Bounds.{weaken}

-- matrices are equal where their entries are
pub same_matrix : {a b : SymForm} → a.a11 ≡ b.a11 → a.a12 ≡ b.a12 → a.a13 ≡ b.a13 → a.a14 ≡ b.a14 → a.a22 ≡ b.a22 → a.a23 ≡ b.a23 → a.a24 ≡ b.a24 → a.a33 ≡ b.a33 → a.a34 ≡ b.a34 → a.a44 ≡ b.a44 → a ≡ b
same_matrix p1 p2 p3 p4 p5 p6 p7 p8 p9 p10 = λ i. record { a11 = p1 i; a12 = p2 i; a13 = p3 i; a14 = p4 i; a22 = p5 i; a23 = p6 i; a24 = p7 i; a33 = p8 i; a34 = p9 i; a44 = p10 i }

-- ---- one row more
next_sum : (rows : List FormRow) (n : ℕ) (d : FormRow) (j k : Axis) → n < length rows
    → sum_form (rows_of (take (suc n) rows)) j k ≡ add_form (sum_form (rows_of (take n rows)) j k) (product_form (row_of (slice_index_or rows n d)) j k)
unfolding sum_form
next_sum [] n d j k p = absurd (omega (arith, p))
next_sum (r ∷ rs) zero d j k p = add_form-comm (product_form (row_of r) j k) (bounded_of 0)
next_sum (r ∷ rs) (suc n) d j k p =
    ap (λ t. add_form (product_form (row_of r) j k) t) (next_sum rs n d j k (omega (arith, p)))
    ∙ sym (add_form-assoc (product_form (row_of r) j k) (sum_form (rows_of (take n rs)) j k) (product_form (row_of (slice_index_or rs n d)) j k))

next_sums : (rows : List FormRow) (n : ℕ) (d : FormRow) → n < length rows
    → form_table (sum_form (rows_of (take (suc n) rows))) ≡ matrix_sum (form_table (sum_form (rows_of (take n rows)))) (products_of (row_of (slice_index_or rows n d)))
next_sums rows n d p = same_matrix (next_sum rows n d East East p) (next_sum rows n d East North p) (next_sum rows n d East Up p) (next_sum rows n d East Clock p) (next_sum rows n d North North p) (next_sum rows n d North Up p) (next_sum rows n d North Clock p) (next_sum rows n d Up Up p) (next_sum rows n d Up Clock p) (next_sum rows n d Clock Clock p)

-- the same of a row that stands at place n
pub next_row : (rows : List FormRow) (n : ℕ) (r : FormRow) → n < length rows → r ≡ slice_index_or rows n r
    → form_table (sum_form (rows_of (take (n + 1) rows))) ≡ matrix_sum (form_table (sum_form (rows_of (take n rows)))) (products_of (row_of r))
next_row rows n r p e =
    let one : n + 1 ≡ suc n = omega arith in
    ap (λ m. form_table (sum_form (rows_of (take m rows)))) one
    ∙ next_sums rows n r p
    ∙ ap (λ (t : FormRow). matrix_sum (form_table (sum_form (rows_of (take n rows)))) (products_of (row_of t))) (sym e)

-- ---- bounds
part_within : (r : FormRow) (j : Axis) → IsFormWithin (form_part (row_of r) j) (2 ^ 58)
part_within r East = r.e_small
part_within r North = r.n_small
part_within r Up = r.u_small
part_within r Clock = r.k_small

product_within : (r : FormRow) (j k : Axis) → IsFormWithin (product_form (row_of r) j k) (2 ^ 119)
unfolding product_form
product_within r j k = weaken (wide_form (form_part (row_of r) j) (form_part (row_of r) k)) (6 * (2 ^ 58 * 2 ^ 58) + 1) (2 ^ 119) (omega arith) (wide_within (form_part (row_of r) j) (form_part (row_of r) k) (2 ^ 58) (2 ^ 58) (part_within r j) (part_within r k))

zero_within : IsFormWithin (bounded_of 0) 0
unfolding bounded_of
zero_within = record { centre_low = omega (arith, ints); centre_high = omega (arith, ints); turning_low = omega (arith, ints); turning_high = omega (arith, ints); remainder_low = omega (arith, ints); remainder_high = omega (arith, ints) }

sum_within : (rs : List FormRow) (j k : Axis) → IsFormWithin (sum_form (rows_of rs) j k) (length rs * 2 ^ 119)
unfolding sum_form
sum_within [] j k = zero_within
sum_within (r ∷ rs) j k =
    weaken (add_form (product_form (row_of r) j k) (sum_form (rows_of rs) j k)) (2 ^ 119 + length rs * 2 ^ 119) (suc (length rs) * 2 ^ 119) (omega arith)
    (add_within (product_form (row_of r) j k) (sum_form (rows_of rs) j k) (2 ^ 119) (length rs * 2 ^ 119) (product_within r j k) (sum_within rs j k))

length_take : (n : ℕ) (rows : List FormRow) → length (take n rows) ≤ length rows
length_take zero rows = omega arith
length_take (suc n) [] = omega arith
length_take (suc n) (r ∷ rs) = let h = length_take n rs in omega arith

few_within : (rs : List FormRow) (j k : Axis) → length rs ≤ 32 → IsFormWithin (sum_form (rows_of rs) j k) (2 ^ 124)
few_within rs j k h = weaken (sum_form (rows_of rs) j k) (length rs * 2 ^ 119) (2 ^ 124) (omega (arith, h)) (sum_within rs j k)

pub all_within : (a : WideMatrix) (rs : List FormRow) → length rs ≤ 32 → wide_matrix_of a ≡ form_table (sum_form (rows_of rs)) → IsMatrixWithin a (2 ^ 124)
all_within a rs h e = record {
  a11 = subst (λ (t : Form). IsFormWithin t (2 ^ 124)) (sym (ap (λ (t : SymForm). t.a11) e)) (few_within rs East East h);
  a12 = subst (λ (t : Form). IsFormWithin t (2 ^ 124)) (sym (ap (λ (t : SymForm). t.a12) e)) (few_within rs East North h);
  a13 = subst (λ (t : Form). IsFormWithin t (2 ^ 124)) (sym (ap (λ (t : SymForm). t.a13) e)) (few_within rs East Up h);
  a14 = subst (λ (t : Form). IsFormWithin t (2 ^ 124)) (sym (ap (λ (t : SymForm). t.a14) e)) (few_within rs East Clock h);
  a22 = subst (λ (t : Form). IsFormWithin t (2 ^ 124)) (sym (ap (λ (t : SymForm). t.a22) e)) (few_within rs North North h);
  a23 = subst (λ (t : Form). IsFormWithin t (2 ^ 124)) (sym (ap (λ (t : SymForm). t.a23) e)) (few_within rs North Up h);
  a24 = subst (λ (t : Form). IsFormWithin t (2 ^ 124)) (sym (ap (λ (t : SymForm). t.a24) e)) (few_within rs North Clock h);
  a33 = subst (λ (t : Form). IsFormWithin t (2 ^ 124)) (sym (ap (λ (t : SymForm). t.a33) e)) (few_within rs Up Up h);
  a34 = subst (λ (t : Form). IsFormWithin t (2 ^ 124)) (sym (ap (λ (t : SymForm). t.a34) e)) (few_within rs Up Clock h);
  a44 = subst (λ (t : Form). IsFormWithin t (2 ^ 124)) (sym (ap (λ (t : SymForm). t.a44) e)) (few_within rs Clock Clock h);
}

pub taken_within : (a : WideMatrix) (n : ℕ) (rows : List FormRow) → length rows ≤ 32 → wide_matrix_of a ≡ form_table (sum_form (rows_of (take n rows))) → IsMatrixWithin a (2 ^ 124)
taken_within a n rows h e = let m = length_take n rows in all_within a (take n rows) (omega (arith, h)) e

-- ---- one row less
less_sum : (rows : List FormRow) (i : ℕ) (r : FormRow) (j k : Axis) → i < length rows → r ≡ slice_index_or rows i r
    → less_form (sum_form (rows_of rows) j k) (product_form (row_of r) j k) ≡ sum_form (without i (rows_of rows)) j k
less_sum rows i r j k p e =
    ap (λ t. less_form (sum_form (rows_of rows) j k) (product_form t j k)) (ap row_of e ∙ sym (index_map rows i r))
    ∙ less-without (rows_of rows) i (row_of r) j k (rw (length_map rows) p)
  where
    length_map : (rows : List FormRow) → length (rows_of rows) ≡ length rows
    length_map [] = refl
    length_map (x ∷ xs) = ap suc (length_map xs)

    index_map : (rows : List FormRow) (i : ℕ) (d : FormRow) → slice_index_or (rows_of rows) i (row_of d) ≡ row_of (slice_index_or rows i d)
    index_map [] i d = refl
    index_map (x ∷ xs) zero d = refl
    index_map (x ∷ xs) (suc i) d = index_map xs i d

pub less_row : (rows : List FormRow) (i : ℕ) (r : FormRow) → i < length rows → r ≡ slice_index_or rows i r
    → matrix_less (form_table (sum_form (rows_of rows))) (products_of (row_of r)) ≡ form_table (sum_form (without i (rows_of rows)))
less_row rows i r p e = same_matrix (less_sum rows i r East East p e) (less_sum rows i r East North p e) (less_sum rows i r East Up p e) (less_sum rows i r East Clock p e) (less_sum rows i r North North p e) (less_sum rows i r North Up p e) (less_sum rows i r North Clock p e) (less_sum rows i r Up Up p e) (less_sum rows i r Up Clock p e) (less_sum rows i r Clock Clock p e)
