-- The rows of the program with their satellites' numbers.
use Rattle.std.specs.Prelude.{Bool, true, false, List, map}
use Rattle.raim_model.specs.declared.Verdict.{Verdict}
use Rattle.raim_model.specs.declared.Verdict.TheVariants.{Available}
use Rattle.fix_interval.specs.Ends.{Ends}
use Rattle.geom_inverse.specs.declared.Row.{Row}
use Rattle.slope_laws.specs.declared.Outcome.{Outcome}
use Rattle.slope_laws.specs.Rows.{NamedRow, Removal}
use Rattle.slope_laws.specs.declared.Shift.{Shift}
use Rattle.slope_laws.specs.ShiftSlopes.{slopes_for}
use Rattle.geom_inverse.specs.Views.{row_ends}

abbrev pub named_row : Row → NamedRow
named_row r = record { prn = r.prn; ends = row_ends r }

abbrev pub named : List Row → List NamedRow
named rows = map named_row rows

-- how the slopes of the rows compare
abbrev pub slopes_over : Shift → List Row → (kappa : Ends) → Removal → Outcome
slopes_over shift rows kappa x = (slopes_for shift).outcome (named rows) x kappa

abbrev pub is_pass : Verdict → Bool
is_pass Available = true
is_pass verdict = false
