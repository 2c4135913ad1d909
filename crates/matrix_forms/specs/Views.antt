-- How contracts see the rows, the matrices and the minors of the program: as forms.
use Rattle.std.specs.Prelude.{List, map}
use Rattle.time_forms.specs.Programs.{form, wide}
use Rattle.geometry_forms.specs.Rows.{RowForm}
use Rattle.geometry_forms.specs.Matrices.{SymForm}
use Rattle.geometry_forms.specs.Geometry.{MinorForms}
use Rattle.matrix_forms.specs.declared.row.FormRow.{FormRow}
use Rattle.matrix_forms.specs.declared.matrix.FormMatrix.{FormMatrix}
use Rattle.matrix_forms.specs.declared.matrix.WideMatrix.{WideMatrix}
use Rattle.matrix_forms.specs.declared.minor.Minors.{Minors}

abbrev pub row_of : FormRow → RowForm
row_of r = record { e = form r.e; n = form r.n; u = form r.u; k = form r.k }

abbrev pub rows_of : List FormRow → List RowForm
rows_of rows = map row_of rows

abbrev pub matrix_of : FormMatrix → SymForm
matrix_of h = record {
  a11 = form h.a11;
  a12 = form h.a12;
  a13 = form h.a13;
  a14 = form h.a14;
  a22 = form h.a22;
  a23 = form h.a23;
  a24 = form h.a24;
  a33 = form h.a33;
  a34 = form h.a34;
  a44 = form h.a44;
}

abbrev pub wide_matrix_of : WideMatrix → SymForm
wide_matrix_of h = record {
  a11 = wide h.a11;
  a12 = wide h.a12;
  a13 = wide h.a13;
  a14 = wide h.a14;
  a22 = wide h.a22;
  a23 = wide h.a23;
  a24 = wide h.a24;
  a33 = wide h.a33;
  a34 = wide h.a34;
  a44 = wide h.a44;
}

abbrev pub minors_of : Minors → MinorForms
minors_of m = record { m12 = form m.m12; m13 = form m.m13; m14 = form m.m14; m23 = form m.m23; m24 = form m.m24; m34 = form m.m34 }
