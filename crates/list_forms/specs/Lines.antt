-- The slope of a row by the rows of the adjugate that a shift needs.
use Rattle.std.specs.Prelude.{ℕ, List, slice_index_or}
use Rattle.geometry_laws.specs.Without.{without}
use Rattle.time_forms.specs.Forms.{Form}
use Rattle.time_forms.specs.Programs.{form}
use Rattle.geometry_forms.specs.Rows.{RowForm}
use Rattle.geometry_forms.specs.Geometry.{gram_form, det_form, inner_form, horizontal_form, vertical_form}
use Rattle.matrix_forms.specs.declared.FormRow.{FormRow}
use Rattle.matrix_forms.specs.Views.{row_of, rows_of}
use Rattle.slope_forms.specs.Told.{Told}
use Rattle.slope_forms.specs.Slopes.{RemovalForm, margin_form, margin_told}
use Rattle.list_forms.specs.declared.lines.Lines.{Lines}
use Rattle.list_forms.specs.declared.lines.Lines.TheVariants.{Across, Upward}

-- what a row has of a row of the adjugate
abbrev pub share_of : FormRow → RowForm → Form
share_of line row = inner_form (form line.e) (form line.n) (form line.u) (form line.k) row

-- the squared shift of a row
abbrev pub squared_along : Lines → RowForm → Form
squared_along (Across east north) row = horizontal_form (share_of east row) (share_of north row)
squared_along (Upward up) row = vertical_form (share_of up row)

-- what is told of the slope of a row, for the determinant of all rows and the factor
abbrev pub slope_along : Lines → (d kappa : Form) → RemovalForm → Told
slope_along lines d kappa x = margin_told (margin_form kappa (squared_along lines x.row) d (det_form (gram_form x.rest)))

-- the row at a place, and the others
abbrev pub removal_of : List FormRow → ℕ → FormRow → RemovalForm
removal_of rows i d = record { row = row_of (slice_index_or rows i d); rest = without i (rows_of rows) }
