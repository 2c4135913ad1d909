-- The cases of the test of a list of rows.
use Rattle.std.specs.Prelude.{◌≡◌, ℕ, ◌<◌, ◌≤◌, ℤ, ◌≤ℤ◌, ◌<ℤ◌, true, false, List, length, refl}
use Rattle.std.proofs.Common.{arith, ap, sym, subst, ◌∙◌}
use Rattle.std.proofs.lemmas.Int.{ints}
use Rattle.std.proofs.lemmas.Bool.{lt-ltb, le-ltb}
use Rattle.std.proofs.lemmas.List.{length-map}
use lib.Signed.{lt_z}
use Rattle.raim_model.specs.declared.Why.TheVariants.{Few, Singular}
use Rattle.raim_model.specs.declared.Cmp.TheVariants.{Det}
use Rattle.fix_interval.specs.Ends.{Ends}
use Rattle.geometry_laws.specs.Without.{without}
use Rattle.geom_laws.specs.Rows.{RowEnds}
use Rattle.geom_laws.specs.Symmetric.{SymEnds}
use Rattle.geom_laws.specs.Gram.{gram_of, gram_without_of}
use Rattle.geom_laws.specs.Determinant.{det_of}
use Rattle.raim_model.specs.declared.Verdict.{Verdict}
use Rattle.raim_model.specs.declared.Verdict.TheVariants.{Unavailable, Undecided}
use Rattle.slope_laws.specs.Rows.{removals}
use Rattle.slope_laws.proofs.Fews.{detect_few_only, exclude_few_only}
use Rattle.slope_laws.specs.Slopes.{slopes_of, least_units, detect_by}
use Rattle.slope_laws.specs.Subsets.{first_open, exclude_by}
use Rattle.slope_laws.specs.declared.Shift.{Shift}
use Rattle.slope_laws.specs.ShiftSlopes.{ends_of, determinant_of, slopes_for, detect_of, exclude_of}
use Rattle.geom_inverse.specs.declared.Row.{Row}
use Rattle.geom_inverse.specs.Views.{rows_ends}
use Rattle.slope_test.specs.Named.{named_row, named, slopes_over, is_pass}
use Rattle.slope_test.proofs.RowRemovals.{ends-named}
use Rattle.slope_test.proofs.Opens.{pass_is, stops}

pub determinant_is : (d : Ends) (h : SymEnds) (rows : List RowEnds) → d ≡ det_of h → h ≡ gram_of rows → d ≡ determinant_of rows
unfolding determinant_of
determinant_is d h rows e f = e ∙ ap det_of f

-- the determinant of the rows without one
pub less_determinant : (x : Ends) (rows : List RowEnds) (i : ℕ) → x ≡ det_of (gram_without_of rows i) → x ≡ determinant_of (without i rows)
unfolding determinant_of gram_without_of
less_determinant x rows i e = e

same_length : (rows : List Row) → length (named rows) ≡ length rows
same_length rows = length-map rows named_row

pub detect_few : (shift : Shift) (rows : List Row) (kappa : Ends) → length rows < 5 → Unavailable Few ≡ detect_of shift (named rows) kappa
unfolding detect_by
detect_few shift rows kappa p = let e = same_length rows in let q : length (named rows) < 5 = omega arith in rw (lt-ltb (length (named rows)) 5 q) refl

pub few_below : (shift : Shift) (rows : List Row) (kappa : Ends) → detect_of shift (named rows) kappa ≡ Unavailable Few → length rows < 5
few_below shift rows kappa e = let l = same_length rows in let h = detect_few_only (slopes_for shift) (named rows) kappa e in omega arith

below : (z : ℤ) → z <ℤ least_units → lt_z z least_units ≡ true
below z h = grind (arith, ints)

above : (z : ℤ) → least_units ≤ℤ z → lt_z z least_units ≡ false
above z h = grind (arith, ints)

pub detect_singular : (shift : Shift) (rows : List Row) (kappa d : Ends) → 5 ≤ length rows → d ≡ determinant_of (rows_ends rows) → d.hi <ℤ least_units → Unavailable Singular ≡ detect_of shift (named rows) kappa
unfolding detect_by slopes_for
detect_singular shift rows kappa d p e h =
    let l = same_length rows in
    let q : 5 ≤ length (named rows) = omega arith in
    rw (le-ltb (length (named rows)) 5 q, ends-named rows, ← e, below d.hi h) refl

pub detect_undecided : (shift : Shift) (rows : List Row) (kappa d : Ends) → 5 ≤ length rows → d ≡ determinant_of (rows_ends rows) → least_units ≤ℤ d.hi → d.lo <ℤ least_units → Undecided Det ≡ detect_of shift (named rows) kappa
unfolding detect_by slopes_for
detect_undecided shift rows kappa d p e h k =
    let l = same_length rows in
    let q : 5 ≤ length (named rows) = omega arith in
    rw (le-ltb (length (named rows)) 5 q, ends-named rows, ← e, above d.hi h, below d.lo k) refl

pub detect_regular : (shift : Shift) (rows : List Row) (kappa d : Ends) (v : Verdict) → 5 ≤ length rows → d ≡ determinant_of (rows_ends rows) → least_units ≤ℤ d.hi → least_units ≤ℤ d.lo
    → v ≡ slopes_of (slopes_over shift rows kappa) (removals (named rows)) → v ≡ detect_of shift (named rows) kappa
unfolding detect_by slopes_for
detect_regular shift rows kappa d v p e h k f =
    let l = same_length rows in
    let q : 5 ≤ length (named rows) = omega arith in
    let g : d ≡ determinant_of (ends_of (named rows)) = e ∙ ap determinant_of (sym (ends-named rows)) in
    let a : lt_z (determinant_of (ends_of (named rows))).hi least_units ≡ false = subst (λ (x : Ends). lt_z x.hi least_units ≡ false) g (above d.hi h) in
    let b : lt_z (determinant_of (ends_of (named rows))).lo least_units ≡ false = subst (λ (x : Ends). lt_z x.lo least_units ≡ false) g (above d.lo k) in
    rw (le-ltb (length (named rows)) 5 q, a, b) f

pub exclude_few : (shift : Shift) (rows : List Row) (kappa kappa_less : Ends) → length rows < 6 → Unavailable Few ≡ exclude_of shift (named rows) kappa kappa_less
unfolding exclude_by
exclude_few shift rows kappa kappa_less p = let e = same_length rows in let q : length (named rows) < 6 = omega arith in rw (lt-ltb (length (named rows)) 6 q) refl

pub exclude_whole : (shift : Shift) (rows : List Row) (kappa kappa_less : Ends) (v : Verdict) → 6 ≤ length rows → v ≡ detect_of shift (named rows) kappa → is_pass v ≡ false → v ≡ exclude_of shift (named rows) kappa kappa_less
unfolding exclude_by
exclude_whole shift rows kappa kappa_less v p e h =
    let l = same_length rows in
    let q : 6 ≤ length (named rows) = omega arith in
    rw (le-ltb (length (named rows)) 6 q, ← e, stops v _ h) refl

pub exclude_subsets : (shift : Shift) (rows : List Row) (kappa kappa_less : Ends) (v w : Verdict) → 6 ≤ length rows → v ≡ detect_of shift (named rows) kappa → is_pass v ≡ true
    → w ≡ first_open (λ rest. detect_of shift rest kappa_less) (removals (named rows)) → w ≡ exclude_of shift (named rows) kappa kappa_less
unfolding exclude_by
exclude_subsets shift rows kappa kappa_less v w p e h f =
    let l = same_length rows in
    let q : 6 ≤ length (named rows) = omega arith in
    rw (le-ltb (length (named rows)) 6 q, ← e, pass_is v h) f

pub few_below_six : (shift : Shift) (rows : List Row) (kappa kappa_less : Ends) → exclude_of shift (named rows) kappa kappa_less ≡ Unavailable Few → length rows < 6
few_below_six shift rows kappa kappa_less e = let l = same_length rows in let h = exclude_few_only (slopes_for shift) (named rows) kappa kappa_less e in omega arith
