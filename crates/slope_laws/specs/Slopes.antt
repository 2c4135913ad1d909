-- The test of one list of rows over a piece of time: its determinant against the least one, and the slope of each row
-- against the limit. How a determinant and a slope are computed is left to a `SlopeTest`.
use Rattle.std.specs.Prelude.{ℕ, ℤ, pos, ◌^◌, Bool, true, false, if◌then◌else◌, nat_lt, List, [], ◌∷◌, length, Some, None}
use Rattle.std.specs.declared.option.Option.{Option}
use lib.Signed.{lt_z}
use Rattle.raim_model.specs.declared.verdict.Why.TheVariants as why
use Rattle.raim_model.specs.declared.verdict.Cmp.TheVariants as cmp
use Rattle.fix_interval.specs.Ends.{Ends}
use Rattle.slope_laws.specs.declared.outcome.Outcome.{Outcome}
use Rattle.slope_laws.specs.declared.outcome.Outcome.TheVariants.{Fails, Straddles, Overflows}
use Rattle.raim_model.specs.declared.verdict.Verdict.{Verdict}
use Rattle.raim_model.specs.declared.verdict.Verdict.TheVariants.{Available, Unavailable, Undecided, Overflow}
use Rattle.slope_laws.specs.Rows.{NamedRow, Removal, removals}

-- the determinant of a list of rows at scale 38, and how the slope of one of its rows compares under a factor
pub record SlopeTest : Type 0 where
  pub determinant : List NamedRow → Ends
  pub outcome : List NamedRow → Removal → (kappa : Ends) → Outcome

abbrev pub is_fails : Outcome → Bool
is_fails Fails = true
is_fails outcome = false

abbrev pub is_straddles : Outcome → Bool
is_straddles Straddles = true
is_straddles outcome = false

abbrev pub is_overflows : Outcome → Bool
is_overflows Overflows = true
is_overflows outcome = false

-- the satellite of the first row whose outcome is such
abbrev pub first_such : (Outcome → Bool) → (Removal → Outcome) → List Removal → Option ℕ
first_such is outcome [] = None
first_such is outcome (x ∷ xs) = if is (outcome x) then Some x.row.prn else first_such is outcome xs

-- what the first row that overflows, the first that fails and the first that straddles make of the list
abbrev pub of_slopes : (overflows fails straddles : Option ℕ) → Verdict
of_slopes (Some prn) fails straddles = Overflow prn
of_slopes None (Some prn) straddles = Unavailable why.Slope
of_slopes None None (Some prn) = Undecided (cmp.Slope prn)
of_slopes None None None = Available

-- all slopes of a list
abbrev pub slopes_of : (Removal → Outcome) → List Removal → Verdict
slopes_of outcome xs = of_slopes (first_such is_overflows outcome xs) (first_such is_fails outcome xs) (first_such is_straddles outcome xs)

-- the least determinant of a geometry that counts as regular, 2^-10 at scale 38
abbrev pub least_units : ℤ
least_units = pos (2 ^ 28)

-- what a determinant that may be too small makes of the list, and else the slopes
abbrev pub of_determinant : Ends → Verdict → Verdict
of_determinant d slopes = if lt_z d.hi least_units then Unavailable why.Singular else if lt_z d.lo least_units then Undecided cmp.Det else slopes

-- the test of a list of rows, in rising PRN, for fault detection under the factor kappa
unfoldable pub detect_by : SlopeTest → List NamedRow → (kappa : Ends) → Verdict
detect_by test rows kappa =
    if nat_lt (length rows) 5 then Unavailable why.Few
    else of_determinant (test.determinant rows) (slopes_of (λ x. test.outcome rows x kappa) (removals rows))
