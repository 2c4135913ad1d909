-- The test of a list of forms by its cases, and the lists without one row.
use Rattle.std.specs.Prelude.{◌≡◌, ℕ, zero, suc, ◌+◌, ◌<◌, ◌≤◌, Bool, true, false, if◌then◌else◌, List, [], ◌∷◌, length, slice_index_or, refl}
use Rattle.std.proofs.Common.{arith, ap, sym, subst, ◌∙◌, inl, inr, below_more}
use Rattle.std.proofs.lemmas.Bool.{lt-ltb, le-ltb}
use Rattle.std.proofs.lemmas.List.{length-map}
use lib.Signed.{lt_z}
use Rattle.raim_model.specs.declared.verdict.Why.{Why}
use Rattle.raim_model.specs.declared.verdict.Why.TheVariants as why
use Rattle.geometry_laws.specs.Without.{without}
use Rattle.slope_laws.specs.declared.Shift.{Shift}
use Rattle.slope_laws.specs.Slopes.{least_units}
use Rattle.time_forms.specs.Forms.{Form, least_of, greatest_of}
use Rattle.geometry_forms.specs.Rows.{RowForm}
use Rattle.geometry_forms.specs.Matrices.{SymForm}
use Rattle.geometry_forms.specs.Geometry.{form_table, sum_form, gram_form, det_form, adjugate_form}
use Rattle.matrix_forms.specs.declared.FormRow.{FormRow}
use Rattle.matrix_forms.specs.Views.{row_of, rows_of}
use Rattle.matrix_forms.specs.Sums.{narrowed_of}
use Rattle.slope_forms.specs.Told.{Told, passing, failing, unknown, unless_told}
use Rattle.slope_forms.specs.Slopes.{squared_form, slope_told, slopes_told, determinant_told, detect_told, first_told, exclude_told, RemovalForm, form_removals}
use Rattle.list_forms.specs.declared.lines.Lines.{Lines}
use Rattle.list_forms.specs.Views.{is_passing, IsOrUnknown}
use Rattle.list_forms.specs.Lines.{squared_along, slope_along, removal_of}
use Rattle.list_forms.proofs.Removals.{count, removal_is}
use Rattle.list_forms.proofs.Slopes.{along_shift}

-- the normal matrix from the sums
pub matrix_is : {s : SymForm} {m : SymForm} (rows : List RowForm) → m ≡ narrowed_of s → s ≡ form_table (sum_form rows) → m ≡ gram_form rows
unfolding gram_form
matrix_is rows e f = e ∙ ap narrowed_of f

same_length : (rows : List FormRow) → length (rows_of rows) ≡ length rows
same_length rows = length-map rows row_of

pass_is : (t : Told) → is_passing t ≡ true → t ≡ passing
pass_is passing e = refl
pass_is (failing w) e = absurd (cc)
pass_is unknown e = absurd (cc)

stops : (t next : Told) → is_passing t ≡ false → unless_told t next ≡ t
stops passing next e = absurd (cc)
stops (failing w) next e = refl
stops unknown next e = refl

-- ---- detection
pub detect_few : (shift : Shift) (rows : List FormRow) (kappa : Form) → length rows < 5 → failing why.Few ≡ detect_told shift (rows_of rows) kappa
unfolding detect_told
detect_few shift rows kappa p = let e = same_length rows in let q : length (rows_of rows) < 5 = omega (arith, e, p) in rw (lt-ltb (length (rows_of rows)) 5 q) refl

-- what is told of the slopes, where they decide
abbrev pub slopes_of_list : Shift → List RowForm → Form → Told
slopes_of_list shift rows kappa = slopes_told (λ x. slope_told shift (adjugate_form (gram_form rows)) (det_form (gram_form rows)) (det_form (gram_form x.rest)) x.row kappa) (form_removals rows)

detect_enough : (shift : Shift) (rows : List FormRow) (kappa : Form) → 5 ≤ length rows → detect_told shift (rows_of rows) kappa ≡ determinant_told (det_form (gram_form (rows_of rows))) (slopes_of_list shift (rows_of rows) kappa)
unfolding detect_told
detect_enough shift rows kappa p = let e = same_length rows in let q : 5 ≤ length (rows_of rows) = omega (arith, e, p) in rw (le-ltb (length (rows_of rows)) 5 q) refl

determinant_first : (d : Form) (s : Told) → determinant_told d s ≡ unless_told (determinant_told d passing) s
determinant_first d s = chosen (lt_z (greatest_of d) least_units) (lt_z (least_of d) least_units)
  where
    chosen : (b c : Bool) → (if b then failing why.Singular else if c then unknown else s) ≡ unless_told (if b then failing why.Singular else if c then unknown else passing) s
    chosen true c = refl
    chosen false true = refl
    chosen false false = refl

detect_both : (shift : Shift) (rows : List FormRow) (kappa d : Form) (t : Told) → 5 ≤ length rows → d ≡ det_form (gram_form (rows_of rows)) → t ≡ determinant_told d passing
    → detect_told shift (rows_of rows) kappa ≡ unless_told t (slopes_of_list shift (rows_of rows) kappa)
detect_both shift rows kappa d t p e f =
    detect_enough shift rows kappa p ∙ ap (λ (x : Form). determinant_told x (slopes_of_list shift (rows_of rows) kappa)) (sym e)
    ∙ determinant_first d (slopes_of_list shift (rows_of rows) kappa) ∙ ap (λ (u : Told). unless_told u (slopes_of_list shift (rows_of rows) kappa)) (sym f)

pub detect_irregular : (shift : Shift) (rows : List FormRow) (kappa d : Form) (t : Told) → 5 ≤ length rows → d ≡ det_form (gram_form (rows_of rows)) → t ≡ determinant_told d passing → is_passing t ≡ false
    → t ≡ detect_told shift (rows_of rows) kappa
detect_irregular shift rows kappa d t p e f n = sym (detect_both shift rows kappa d t p e f ∙ stops t (slopes_of_list shift (rows_of rows) kappa) n)

pub detect_regular : (shift : Shift) (rows : List FormRow) (kappa d : Form) (h : SymForm) (lines : Lines) (t s : Told) → 5 ≤ length rows → h ≡ gram_form (rows_of rows) → d ≡ det_form h → t ≡ determinant_told d passing → is_passing t ≡ true
    → ((r : RowForm) → squared_along lines r ≡ squared_form shift (adjugate_form h) r)
    → IsOrUnknown s (slopes_told (slope_along lines d kappa) (form_removals (rows_of rows))) → IsOrUnknown s (detect_told shift (rows_of rows) kappa)
detect_regular shift rows kappa d h lines t s p g e f n l o =
    let whole : detect_told shift (rows_of rows) kappa ≡ slopes_of_list shift (rows_of rows) kappa =
    detect_both shift rows kappa d t p (e ∙ ap det_form g) f ∙ ap (λ (u : Told). unless_told u (slopes_of_list shift (rows_of rows) kappa)) (pass_is t n) in
    let along : slopes_told (slope_along lines d kappa) (form_removals (rows_of rows)) ≡ slopes_of_list shift (rows_of rows) kappa =
    ap (λ (k : RemovalForm → Told). slopes_told k (form_removals (rows_of rows))) (along_shift shift (adjugate_form h) lines d kappa l)
    ∙ ap (λ (m : SymForm). slopes_told (λ (x : RemovalForm). slope_told shift (adjugate_form m) d (det_form (gram_form x.rest)) x.row kappa) (form_removals (rows_of rows))) g
    ∙ ap (λ (m : Form). slopes_told (λ (x : RemovalForm). slope_told shift (adjugate_form (gram_form (rows_of rows))) m (det_form (gram_form x.rest)) x.row kappa) (form_removals (rows_of rows))) (e ∙ ap det_form g) in
    subst (λ (u : Told). IsOrUnknown s u) (along ∙ sym whole) o

-- ---- the lists without one row
all_pass : (f : List RowForm → Told) (xs : List RemovalForm) → ((k : ℕ) (d : RemovalForm) → k < length xs → f (slice_index_or xs k d).rest ≡ passing) → first_told f xs ≡ passing
all_pass f [] h = refl
all_pass f (x ∷ xs) h = rw (h 0 x (omega arith)) (all_pass f xs (λ k d p. h (suc k) d (omega (arith, p))))

one_fails : (f : List RowForm → Told) (xs : List RemovalForm) (i : ℕ) (d : RemovalForm) (w : Why) → i < length xs → ((k : ℕ) → k < i → f (slice_index_or xs k d).rest ≡ passing) → f (slice_index_or xs i d).rest ≡ failing w → first_told f xs ≡ failing w
one_fails f [] i d w p h e = absurd (omega (arith, p))
one_fails f (x ∷ xs) zero d w p h e = rw e refl
one_fails f (x ∷ xs) (suc i) d w p h e = rw (h 0 (omega arith)) (one_fails f xs i d w (omega (arith, p)) (λ k q. h (suc k) (omega (arith, q))) e)

pub lists_all : (f : List RowForm → Told) (rows : List FormRow) (j : ℕ) → length rows ≤ j → ((k : ℕ) → k < j → f (without k (rows_of rows)) ≡ passing) → passing ≡ first_told f (form_removals (rows_of rows))
lists_all f [] j p g = refl
lists_all f (r ∷ rs) j p g =
    let n = count (r ∷ rs) in
    sym (all_pass f (form_removals (rows_of (r ∷ rs))) (λ k d q. ap (λ (x : RemovalForm). f x.rest) (removal_is (r ∷ rs) k r d (omega (arith, n, q))) ∙ g k (omega (arith, n, p, q))))

pub lists_stop : (s : Told) (f : List RowForm → Told) (rows : List FormRow) (j : ℕ) (d : FormRow) → j < length rows → is_passing s ≡ false → IsOrUnknown s (f (without j (rows_of rows))) → ((k : ℕ) → k < j → f (without k (rows_of rows)) ≡ passing)
    → IsOrUnknown s (first_told f (form_removals (rows_of rows)))
lists_stop passing f rows j d p n a g = absurd (cc)
lists_stop unknown f rows j d p n a g = inl refl
lists_stop (failing w) f rows j d p n a g = elim a [
  | inl u ↦ absurd (cc)
  | inr e ↦
      let x : RemovalForm = removal_of rows j d in
      let m = count rows in
      inr (sym (one_fails f (form_removals (rows_of rows)) j x w (omega (arith, m, p))
      (λ k q. ap (λ (y : RemovalForm). f y.rest) (removal_is rows k d x (omega (arith, p, q))) ∙ g k q)
      (ap (λ (y : RemovalForm). f y.rest) (removal_is rows j d x p) ∙ sym e)))
]

pub lists_more : (s : Told) (f : List RowForm → Told) (rows : List FormRow) (j : ℕ) → is_passing s ≡ true → IsOrUnknown s (f (without j (rows_of rows))) → ((k : ℕ) → k < j → f (without k (rows_of rows)) ≡ passing)
    → (k : ℕ) → k < j + 1 → f (without k (rows_of rows)) ≡ passing
lists_more s f rows j n a g = below_more (λ k. f (without k (rows_of rows)) ≡ passing) j g (same s n a)
  where
    same : (s : Told) → is_passing s ≡ true → {u : Told} → IsOrUnknown s u → u ≡ passing
    same passing n (inl u) = absurd (cc)
    same passing n (inr u) = sym u
    same (failing w) n a = absurd (cc)
    same unknown n a = absurd (cc)

-- ---- exclusion
pub exclude_few : (shift : Shift) (rows : List FormRow) (kappa kappa_less : Form) → length rows < 6 → failing why.Few ≡ exclude_told shift (rows_of rows) kappa kappa_less
unfolding exclude_told
exclude_few shift rows kappa kappa_less p = let e = same_length rows in let q : length (rows_of rows) < 6 = omega (arith, e, p) in rw (lt-ltb (length (rows_of rows)) 6 q) refl

exclude_enough : (shift : Shift) (rows : List FormRow) (kappa kappa_less : Form) → 6 ≤ length rows
    → exclude_told shift (rows_of rows) kappa kappa_less ≡ unless_told (detect_told shift (rows_of rows) kappa) (first_told (λ rest. detect_told shift rest kappa_less) (form_removals (rows_of rows)))
unfolding exclude_told
exclude_enough shift rows kappa kappa_less p = let e = same_length rows in let q : 6 ≤ length (rows_of rows) = omega (arith, e, p) in rw (le-ltb (length (rows_of rows)) 6 q) refl

pub exclude_whole : (shift : Shift) (rows : List FormRow) (kappa kappa_less : Form) (t : Told) → 6 ≤ length rows → IsOrUnknown t (detect_told shift (rows_of rows) kappa) → is_passing t ≡ false
    → IsOrUnknown t (exclude_told shift (rows_of rows) kappa kappa_less)
exclude_whole shift rows kappa kappa_less t p a n = elim a [
  | inl u ↦ inl u
  | inr e ↦ inr (sym (exclude_enough shift rows kappa kappa_less p ∙ ap (λ (u : Told). unless_told u (first_told (λ rest. detect_told shift rest kappa_less) (form_removals (rows_of rows)))) (sym e)
      ∙ stops t (first_told (λ rest. detect_told shift rest kappa_less) (form_removals (rows_of rows))) n))
]

pub exclude_lists : (shift : Shift) (rows : List FormRow) (kappa kappa_less : Form) (t s : Told) → 6 ≤ length rows → IsOrUnknown t (detect_told shift (rows_of rows) kappa) → is_passing t ≡ true
    → IsOrUnknown s (first_told (λ rest. detect_told shift rest kappa_less) (form_removals (rows_of rows))) → IsOrUnknown s (exclude_told shift (rows_of rows) kappa kappa_less)
exclude_lists shift rows kappa kappa_less t s p a n o = elim a [
  | inl u ↦ let e : t ≡ passing = pass_is t n in absurd (cc)
  | inr e ↦ subst (λ (u : Told). IsOrUnknown s u) (sym (exclude_enough shift rows kappa kappa_less p ∙ ap (λ (u : Told). unless_told u (first_told (λ rest. detect_told shift rest kappa_less) (form_removals (rows_of rows)))) (sym e ∙ pass_is t n))) o
]
