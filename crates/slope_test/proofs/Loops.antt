-- The steps of the loops over rows.
use Rattle.std.specs.Prelude.{◌≡◌, ℕ, ◌+◌, ◌<◌, ◌≤◌, true, false, List, [], ◌∷◌, ◌++◌, take, length, slice_index_or}
use Rattle.std.proofs.Common.{arith, ap, sym, subst, ◌∙◌}
use Rattle.std.proofs.lemmas.List.{take_all, length-map}
use Rattle.fix_interval.specs.Ends.{Ends}
use Rattle.geometry_laws.specs.Without.{without}
use Rattle.geom_laws.specs.Symmetric.{SymEnds}
use Rattle.geom_laws.specs.Gram.{gram_of}
use Rattle.geom_laws.specs.Adjugate.{adjugate_of}
use Rattle.slope_laws.specs.declared.Outcome.{Outcome}
use Rattle.raim_model.specs.declared.Verdict.{Verdict}
use Rattle.raim_model.specs.declared.Verdict.TheVariants.{Available}
use Rattle.slope_laws.specs.Rows.{Removal, removals}
use Rattle.slope_laws.specs.Subsets.{named_without, first_open}
use Rattle.slope_laws.specs.declared.Shift.{Shift}
use Rattle.slope_laws.specs.ShiftSlopes.{outcome_of, determinant_of, detect_of}
use Rattle.geom_inverse.specs.declared.Row.{Row}
use Rattle.slope_test.specs.declared.tally.Tally.{Tally}
use Rattle.geom_inverse.specs.Views.{row_ends, rows_ends}
use Rattle.slope_test.specs.Named.{named_row, named, slopes_over, is_pass}
use Rattle.slope_test.specs.Tallies.{IsTally}
use Rattle.slope_test.proofs.RowRemovals.{length-removals, removal_of, removals_more, slope_over_at}
use Rattle.slope_test.proofs.Opens.{open_more, open_stops, pass_is}

-- ---- slopes
pub tally_more : (shift : Shift) (rows : List Row) (kappa : Ends) (i : ℕ) (d : Row) (old new : Tally) (prn : ℕ) (o : Outcome) (adj : SymEnds) (det : Ends) → i < length rows
    → ((outcome : Removal → Outcome) (xs : List Removal) (x : Removal) → IsTally old outcome xs → x.row.prn ≡ prn → outcome x ≡ o → IsTally new outcome (xs ++ x ∷ []))
    → (slice_index_or rows i d).prn ≡ prn → adj ≡ adjugate_of (gram_of (rows_ends rows)) → det ≡ determinant_of (rows_ends rows)
    → o ≡ outcome_of shift adj det (determinant_of (without i (rows_ends rows))) (row_ends (slice_index_or rows i d)) kappa
    → IsTally old (slopes_over shift rows kappa) (take i (removals (named rows))) → IsTally new (slopes_over shift rows kappa) (take (i + 1) (removals (named rows)))
tally_more shift rows kappa i d old new prn o adj det p step e a b h t =
    let f : Removal → Outcome = slopes_over shift rows kappa in
    let g : f (removal_of rows i d) ≡ o = slope_over_at shift rows i d kappa
    ∙ ap (λ m. outcome_of shift m (determinant_of (rows_ends rows)) (determinant_of (without i (rows_ends rows))) (row_ends (slice_index_or rows i d)) kappa) (sym a)
    ∙ ap (λ m. outcome_of shift adj m (determinant_of (without i (rows_ends rows))) (row_ends (slice_index_or rows i d)) kappa) (sym b)
    ∙ sym h in
    subst (λ ys. IsTally new f ys) (sym (removals_more rows i d p)) (step f (take i (removals (named rows))) (removal_of rows i d) t e g)

count : (rows : List Row) → length (removals (named rows)) ≡ length rows
count rows = length-removals (named rows) ∙ length-map rows named_row

pub tally_all : (shift : Shift) (rows : List Row) (kappa : Ends) (i : ℕ) (t : Tally) → length rows ≤ i → IsTally t (slopes_over shift rows kappa) (take i (removals (named rows))) → IsTally t (slopes_over shift rows kappa) (removals (named rows))
tally_all shift rows kappa i t p h =
    let n = count rows in
    subst (λ ys. IsTally t (slopes_over shift rows kappa) ys) (take_all i (removals (named rows)) (omega arith)) h

-- ---- the subsets
pub subsets_stop : (shift : Shift) (rows : List Row) (j : ℕ) (d : Row) (kappa : Ends) (v : Verdict) → j < length rows → v ≡ named_without (removal_of rows j d).row.prn (detect_of shift (removal_of rows j d).rest kappa) → is_pass v ≡ false
    → first_open (λ rest. detect_of shift rest kappa) (take j (removals (named rows))) ≡ Available → v ≡ first_open (λ rest. detect_of shift rest kappa) (removals (named rows))
subsets_stop shift rows j d kappa v p e f h =
    e ∙ sym (open_stops (λ rest. detect_of shift rest kappa) (removals (named rows)) j (removal_of rows j d) (removals_more rows j d p) h (subst (λ u. is_pass u ≡ false) e f))

pub subsets_more : (shift : Shift) (rows : List Row) (j : ℕ) (d : Row) (kappa : Ends) (v : Verdict) → j < length rows → v ≡ named_without (removal_of rows j d).row.prn (detect_of shift (removal_of rows j d).rest kappa) → is_pass v ≡ true
    → first_open (λ rest. detect_of shift rest kappa) (take j (removals (named rows))) ≡ Available → first_open (λ rest. detect_of shift rest kappa) (take (j + 1) (removals (named rows))) ≡ Available
subsets_more shift rows j d kappa v p e f h =
    ap (first_open (λ rest. detect_of shift rest kappa)) (removals_more rows j d p)
    ∙ open_more (λ rest. detect_of shift rest kappa) (take j (removals (named rows))) (removal_of rows j d) h (sym e ∙ pass_is v f)

pub subsets_all : (shift : Shift) (rows : List Row) (j : ℕ) (kappa : Ends) → length rows ≤ j → first_open (λ rest. detect_of shift rest kappa) (take j (removals (named rows))) ≡ Available → Available ≡ first_open (λ rest. detect_of shift rest kappa) (removals (named rows))
subsets_all shift rows j kappa p h =
    let n = count rows in
    sym h ∙ ap (first_open (λ rest. detect_of shift rest kappa)) (take_all j (removals (named rows)) (omega arith))
