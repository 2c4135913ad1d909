-- The test of a list of rows over a piece of time, and of each list without one of them.
use Rattle.std.specs.Prelude.{ℕ, if◌then◌else◌, nat_lt, List, [], ◌∷◌, length}
use Rattle.raim_model.specs.declared.verdict.Why.TheVariants as why
use Rattle.raim_model.specs.declared.verdict.Cmp.{Cmp}
use Rattle.raim_model.specs.declared.verdict.Cmp.TheVariants.{Det, Slope, DetWithout, SlopeWithout}
use Rattle.fix_interval.specs.Ends.{Ends}
use Rattle.raim_model.specs.declared.verdict.Verdict.{Verdict}
use Rattle.raim_model.specs.declared.verdict.Verdict.TheVariants.{Available, Unavailable, Undecided}
use Rattle.slope_laws.specs.Rows.{NamedRow, Removal, removals}
use Rattle.slope_laws.specs.Slopes.{SlopeTest, detect_by}

-- the comparison, with the satellite prn left out
abbrev pub comparison_without : (prn : ℕ) → Cmp → Cmp
comparison_without prn Det = DetWithout prn
comparison_without prn (Slope tested) = SlopeWithout prn tested
comparison_without prn other = other

-- the verdict of a list without the satellite prn
abbrev pub named_without : (prn : ℕ) → Verdict → Verdict
named_without prn (Undecided comparison) = Undecided (comparison_without prn comparison)
named_without prn verdict = verdict

-- the first verdict, unless it passes
abbrev pub unless_passes : Verdict → Verdict → Verdict
unless_passes Available next = next
unless_passes verdict next = verdict

-- the first verdict on a list without one row that does not pass
abbrev pub first_open : (List NamedRow → Verdict) → List Removal → Verdict
first_open detected [] = Available
first_open detected (x ∷ xs) = unless_passes (named_without x.row.prn (detected x.rest)) (first_open detected xs)

-- the test of a list of rows, in rising PRN, for fault exclusion: kappa is the factor for all rows, and kappa_less that for
-- one row fewer
unfoldable pub exclude_by : SlopeTest → List NamedRow → (kappa kappa_less : Ends) → Verdict
exclude_by test rows kappa kappa_less =
    if nat_lt (length rows) 6 then Unavailable why.Few
    else unless_passes (detect_by test rows kappa) (first_open (λ rest. detect_by test rest kappa_less) (removals rows))
