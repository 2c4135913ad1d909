-- Rows of a matrix, and the minors of two of them.
use Rattle.raim_model.specs.Geometry.{Axis, East, North, Up, Clock}
use Rattle.time_forms.specs.Forms.{Form}
use Rattle.time_forms.specs.Operations.{neg_form}
use Rattle.geometry_forms.specs.Rows.{RowForm}
use Rattle.geometry_forms.specs.Matrices.{SymForm, form_entry}
use Rattle.geometry_forms.specs.Geometry.{MinorForms, crossed_form, along_form}

-- the row of a matrix
abbrev pub line_of : SymForm → Axis → RowForm
line_of h p = record { e = form_entry h p East; n = form_entry h p North; u = form_entry h p Up; k = form_entry h p Clock }

-- the minors of two rows
abbrev pub line_minors : (p q : RowForm) → MinorForms
line_minors p q = record {
  m12 = crossed_form p.e q.n p.n q.e;
  m13 = crossed_form p.e q.u p.u q.e;
  m14 = crossed_form p.e q.k p.k q.e;
  m23 = crossed_form p.n q.u p.u q.n;
  m24 = crossed_form p.n q.k p.k q.n;
  m34 = crossed_form p.u q.k p.k q.u;
}

-- the three by three minors of a row and of the two rows of m, without a column
abbrev pub along_east : RowForm → MinorForms → Form
along_east b m = along_form b.n b.u b.k m.m34 m.m24 m.m23

abbrev pub along_north : RowForm → MinorForms → Form
along_north b m = along_form b.e b.u b.k m.m34 m.m14 m.m13

abbrev pub along_up : RowForm → MinorForms → Form
along_up b m = along_form b.e b.n b.k m.m24 m.m14 m.m12

abbrev pub along_clock : RowForm → MinorForms → Form
along_clock b m = along_form b.e b.n b.u m.m23 m.m13 m.m12

-- of two rows and the minors of the two others, the cofactors of the first row
abbrev pub cofactors_east : RowForm → MinorForms → RowForm
cofactors_east north below = record {
  e = along_east north below;
  n = neg_form (along_north north below);
  u = along_up north below;
  k = neg_form (along_clock north below);
}

-- and of the second, of which the first of the row before is one
abbrev pub cofactors_north : (north east : RowForm) → MinorForms → RowForm
cofactors_north north east below = record {
  e = neg_form (along_north north below);
  n = along_north east below;
  u = neg_form (along_up east below);
  k = along_clock east below;
}

-- and of the third, with the minors of the second and the fourth
abbrev pub cofactors_up : (north east : RowForm) → (below around : MinorForms) → RowForm
cofactors_up north east below around = record {
  e = along_up north below;
  n = neg_form (along_up east below);
  u = along_up east around;
  k = neg_form (along_clock east around);
}
