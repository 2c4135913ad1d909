-- Sums of products of the parts of rows, entry by entry.
use Rattle.std.specs.Prelude.{ℕ}
use Rattle.time_forms.specs.Operations.{add_form, less_form, narrow_form}
use Rattle.time_forms.specs.Programs.{wide, IsFormWithin}
use Rattle.geometry_forms.specs.Matrices.{SymForm}
use Rattle.geometry_forms.specs.Rows.{RowForm}
use Rattle.geometry_forms.specs.Geometry.{form_table, product_form}
use Rattle.matrix_forms.specs.declared.matrix.WideMatrix.{WideMatrix}

-- the entries of h have a magnitude of at most m
pub record IsMatrixWithin (h : WideMatrix) (m : ℕ) : Type 0 where
  pub a11 : IsFormWithin (wide h.a11) m
  pub a12 : IsFormWithin (wide h.a12) m
  pub a13 : IsFormWithin (wide h.a13) m
  pub a14 : IsFormWithin (wide h.a14) m
  pub a22 : IsFormWithin (wide h.a22) m
  pub a23 : IsFormWithin (wide h.a23) m
  pub a24 : IsFormWithin (wide h.a24) m
  pub a33 : IsFormWithin (wide h.a33) m
  pub a34 : IsFormWithin (wide h.a34) m
  pub a44 : IsFormWithin (wide h.a44) m

-- the products of the parts of a row
abbrev pub products_of : RowForm → SymForm
products_of r = form_table (product_form r)

-- the sums of two matrices
abbrev pub matrix_sum : SymForm → SymForm → SymForm
matrix_sum a b = record {
  a11 = add_form a.a11 b.a11;
  a12 = add_form a.a12 b.a12;
  a13 = add_form a.a13 b.a13;
  a14 = add_form a.a14 b.a14;
  a22 = add_form a.a22 b.a22;
  a23 = add_form a.a23 b.a23;
  a24 = add_form a.a24 b.a24;
  a33 = add_form a.a33 b.a33;
  a34 = add_form a.a34 b.a34;
  a44 = add_form a.a44 b.a44;
}

-- what is left of a without b, where a is a sum of which b is a part
abbrev pub matrix_less : SymForm → SymForm → SymForm
matrix_less a b = record {
  a11 = less_form a.a11 b.a11;
  a12 = less_form a.a12 b.a12;
  a13 = less_form a.a13 b.a13;
  a14 = less_form a.a14 b.a14;
  a22 = less_form a.a22 b.a22;
  a23 = less_form a.a23 b.a23;
  a24 = less_form a.a24 b.a24;
  a33 = less_form a.a33 b.a33;
  a34 = less_form a.a34 b.a34;
  a44 = less_form a.a44 b.a44;
}

-- each entry in units of 2^-38
abbrev pub narrowed_of : SymForm → SymForm
narrowed_of a = record {
  a11 = narrow_form a.a11;
  a12 = narrow_form a.a12;
  a13 = narrow_form a.a13;
  a14 = narrow_form a.a14;
  a22 = narrow_form a.a22;
  a23 = narrow_form a.a23;
  a24 = narrow_form a.a24;
  a33 = narrow_form a.a33;
  a34 = narrow_form a.a34;
  a44 = narrow_form a.a44;
}
