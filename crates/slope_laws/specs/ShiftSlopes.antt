-- The test of the slopes of a shift, horizontal or vertical, with no division: the determinant, and one slope held against the
-- limit.
use Rattle.std.specs.Prelude.{if◌then◌else◌, List, map, Some, None}
use Rattle.std.specs.declared.option.Option.{Option}
use lib.Signed.{le_z, lt_z}
use Rattle.raim_model.specs.Geometry.{East, North, Up, SquaredShift, horizontal, vertical}
use Rattle.fix_interval.specs.Ends.{Ends}
use Rattle.fix_interval.specs.Products.{mul_wide_of, checked_mul_of}
use Rattle.geom_laws.specs.Rows.{RowEnds}
use Rattle.geom_laws.specs.Symmetric.{SymEnds}
use Rattle.geom_laws.specs.Gram.{gram_of}
use Rattle.geom_laws.specs.Determinant.{det_of}
use Rattle.geom_laws.specs.Adjugate.{adjugate_of, alpha_of, horizontal_of, vertical_of}
use Rattle.slope_laws.specs.declared.outcome.Outcome.{Outcome}
use Rattle.slope_laws.specs.declared.outcome.Outcome.TheVariants.{Passes, Fails, Straddles, Overflows}
use Rattle.slope_laws.specs.declared.shift.Shift.{Shift}
use Rattle.slope_laws.specs.declared.shift.Shift.TheVariants.{Horizontal, Vertical}
use Rattle.raim_model.specs.declared.verdict.Verdict.{Verdict}
use Rattle.slope_laws.specs.Rows.{NamedRow}
use Rattle.slope_laws.specs.Slopes.{SlopeTest, detect_by}
use Rattle.slope_laws.specs.Subsets.{exclude_by}

-- the model's shift
abbrev pub squared_shift : Shift → SquaredShift
squared_shift Horizontal = horizontal
squared_shift Vertical = vertical

-- alpha_1^2 + alpha_2^2, or alpha_3^2, of a row, for the adjugate adj
abbrev pub squared_of : Shift → (adj : SymEnds) → RowEnds → Ends
squared_of Horizontal adj row = horizontal_of (alpha_of adj row East) (alpha_of adj row North)
squared_of Vertical adj row = vertical_of (alpha_of adj row Up)

-- the comparison of left with right, where left may have left its range
abbrev pub compared : (left : Option Ends) → (right : Ends) → Outcome
compared None right = Overflows
compared (Some left) right = if le_z left.hi right.lo then Passes else if lt_z right.hi left.lo then Fails else Straddles

-- kappa times the squared shift against D D_i, at scale 76, for the determinants d and d_less of all rows and of those without
-- this one
unfoldable pub outcome_of : Shift → (adj : SymEnds) (d d_less : Ends) (row : RowEnds) (kappa : Ends) → Outcome
outcome_of shift adj d d_less row kappa = compared (checked_mul_of kappa (squared_of shift adj row)) (mul_wide_of d d_less)

-- the rows without their names
abbrev pub ends_of : List NamedRow → List RowEnds
ends_of rows = map (λ row. row.ends) rows

-- the determinant of a list of rows
unfoldable pub determinant_of : List RowEnds → Ends
determinant_of rows = det_of (gram_of rows)

-- the test of the slopes of a shift
unfoldable pub slopes_for : Shift → SlopeTest
slopes_for shift = record {
  determinant = λ rows. determinant_of (ends_of rows);
  outcome = λ rows x kappa. outcome_of shift (adjugate_of (gram_of (ends_of rows))) (determinant_of (ends_of rows)) (determinant_of (ends_of x.rest)) x.row.ends kappa;
}

-- fault detection, of the rows in rising PRN
abbrev pub detect_of : Shift → List NamedRow → (kappa : Ends) → Verdict
detect_of shift rows kappa = detect_by (slopes_for shift) rows kappa

-- fault exclusion: kappa is the factor for all rows, and kappa_less that for one row fewer
abbrev pub exclude_of : Shift → List NamedRow → (kappa kappa_less : Ends) → Verdict
exclude_of shift rows kappa kappa_less = exclude_by (slopes_for shift) rows kappa kappa_less
