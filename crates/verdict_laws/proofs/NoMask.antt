-- The tests of rows never name the mask.
use Rattle.std.specs.Prelude.{◌≡◌, ◌≢◌, ℕ, ◌-◌, Bool, true, false, if◌then◌else◌, nat_lt, List, [], ◌∷◌, length, Some, None}
use Rattle.std.specs.declared.option.Option.{Option}
use lib.Signed.{lt_z}
use Rattle.fix_interval.specs.Ends.{Ends}
use Rattle.raim_model.specs.declared.limits.Limits.{Limits}
use Rattle.raim_model.specs.declared.verdict.Why.{Why}
use Rattle.raim_model.specs.declared.verdict.Why.TheVariants.{Few, Singular}
use Rattle.raim_model.specs.declared.verdict.Cmp.{Cmp}
use Rattle.raim_model.specs.declared.verdict.Cmp.TheVariants.{Mask, Det, Slope, DetWithout, SlopeWithout}
use Rattle.raim_model.specs.declared.verdict.Verdict.TheVariants as verdict
use Rattle.raim_model.specs.declared.verdict.Verdict.{Verdict}
use Rattle.slope_laws.specs.Rows.{NamedRow, Removal, removals}
use Rattle.slope_laws.specs.Slopes.{SlopeTest, of_slopes, least_units, detect_by}
use Rattle.slope_laws.specs.Subsets.{comparison_without, named_without, unless_passes, first_open, exclude_by}
use Rattle.verdict_laws.specs.PieceVerdict.{kappa_over, test_by}

-- the verdict on a list is not undecided by the mask
abbrev pub IsNoMask : Verdict → Type 0
IsNoMask v = (prn : ℕ) → v ≢ verdict.Undecided (Mask prn)

-- passing does not
pass_no_mask : IsNoMask verdict.Available
pass_no_mask prn e = cc

-- failing does not
fail_no_mask : (why : Why) → IsNoMask (verdict.Unavailable why)
fail_no_mask why prn e = cc

-- the slopes do not
slopes_no_mask : (a b c : Option ℕ) → IsNoMask (of_slopes a b c)
slopes_no_mask (Some p) b c prn e = cc
slopes_no_mask None (Some p) c prn e = cc
slopes_no_mask None None (Some p) prn e = cc
slopes_no_mask None None None prn e = cc

-- a choice between two that do not
if_no_mask : (b : Bool) (v w : Verdict) → IsNoMask v → IsNoMask w → IsNoMask (if b then v else w)
if_no_mask true v w h k = h
if_no_mask false v w h k = k

-- the determinant does not
det_no_mask : IsNoMask (verdict.Undecided Det)
det_no_mask prn e = cc

-- so fault detection does not
detect_no_mask : (test : SlopeTest) (rows : List NamedRow) (kappa : Ends) → IsNoMask (detect_by test rows kappa)
unfolding detect_by
detect_no_mask test rows kappa =
    if_no_mask (nat_lt (length rows) 5) (verdict.Unavailable Few) _ (fail_no_mask Few)
    (if_no_mask (lt_z (test.determinant rows).hi least_units) (verdict.Unavailable Singular) _ (fail_no_mask Singular)
    (if_no_mask (lt_z (test.determinant rows).lo least_units) (verdict.Undecided Det) _ det_no_mask
    (slopes_no_mask _ _ _)))

-- a comparison stays another one where a satellite is left out
without_no_mask : (prn : ℕ) (c : Cmp) → IsNoMask (verdict.Undecided c) → IsNoMask (verdict.Undecided (comparison_without prn c))
without_no_mask prn Det h p e = cc
without_no_mask prn (Slope q) h p e = cc
without_no_mask prn (Mask q) h p e = h p e
without_no_mask prn (DetWithout q) h p e = cc
without_no_mask prn (SlopeWithout q r) h p e = cc

-- and so a verdict
named_no_mask : (prn : ℕ) (v : Verdict) → IsNoMask v → IsNoMask (named_without prn v)
named_no_mask prn verdict.Available h = h
named_no_mask prn (verdict.Unavailable w) h = h
named_no_mask prn (verdict.Undecided c) h = without_no_mask prn c h
named_no_mask prn (verdict.Overflow p) h = h

-- the first of two that does not pass
unless_no_mask : (v w : Verdict) → IsNoMask v → IsNoMask w → IsNoMask (unless_passes v w)
unless_no_mask verdict.Available w h k = k
unless_no_mask (verdict.Unavailable y) w h k = h
unless_no_mask (verdict.Undecided c) w h k = h
unless_no_mask (verdict.Overflow p) w h k = h

-- the first of a list that does not pass
open_no_mask : (detected : List NamedRow → Verdict) → ((rest : List NamedRow) → IsNoMask (detected rest)) → (xs : List Removal) → IsNoMask (first_open detected xs)
open_no_mask detected each [] = pass_no_mask
open_no_mask detected each (x ∷ xs) =
    unless_no_mask (named_without x.row.prn (detected x.rest)) (first_open detected xs) (named_no_mask x.row.prn (detected x.rest) (each x.rest)) (open_no_mask detected each xs)

-- so fault exclusion does not
exclude_no_mask : (test : SlopeTest) (rows : List NamedRow) (kappa kappa_less : Ends) → IsNoMask (exclude_by test rows kappa kappa_less)
unfolding exclude_by
exclude_no_mask test rows kappa kappa_less =
    if_no_mask (nat_lt (length rows) 6) (verdict.Unavailable Few) _ (fail_no_mask Few)
    (unless_no_mask (detect_by test rows kappa) _ (detect_no_mask test rows kappa)
    (open_no_mask (λ rest. detect_by test rest kappa_less) (λ rest. detect_no_mask test rest kappa_less) (removals rows)))

-- nor the test in either mode
pub test_no_mask : (test : SlopeTest) (limits : Limits) (alert_mm : ℕ) (rows : List NamedRow) → IsNoMask (test_by test limits alert_mm rows)
test_no_mask test limits alert_mm rows = if_no_mask limits.exclude _ _ (exclude_no_mask test rows (kappa_over limits alert_mm (length rows)) (kappa_over limits alert_mm (length rows - 1))) (detect_no_mask test rows (kappa_over limits alert_mm (length rows)))
