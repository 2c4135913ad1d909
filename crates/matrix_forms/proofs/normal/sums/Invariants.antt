-- the sums are those over the rows so far
use Rattle.std.proofs.Common.{◌≡◌, ◌≤◌, take, length}
use Rattle.geometry_forms.specs.Geometry.{form_table, sum_form}
use Rattle.matrix_forms.specs.Views.{rows_of, wide_matrix_of}
use Rattle.matrix_forms.proofs.normal.sums.Given as goal

abbrev pub invariant-loop-row : goal.invariant-loop-row
invariant-loop-row l = record {
  few : length l.rows ≤ 32;
  sum : wide_matrix_of l.all ≡ form_table (sum_form (rows_of (take l.row-index l.rows)));
}
