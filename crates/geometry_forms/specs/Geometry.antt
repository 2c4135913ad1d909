-- The normal matrix, its determinant and its adjugate, and what a row has of it, in time forms: as the written evaluation has them
-- in intervals, operation by operation, with each sum of products narrowed once.
use Rattle.std.specs.Prelude.{List, [], ◌∷◌}
use Rattle.raim_model.specs.Geometry.{Axis, East, North, Up, Clock}
use Rattle.time_forms.specs.Forms.{Form}
use Rattle.time_forms.specs.Operations.{bounded_of, add_form, sub_form, neg_form, wide_form, narrow_form}
use Rattle.geometry_forms.specs.Rows.{RowForm, form_part}
use Rattle.geometry_forms.specs.Matrices.{SymForm, form_entry}

-- ---- the normal matrix
-- the product of two parts of a row at scale 76, a square too
unfoldable pub product_form : RowForm → (j k : Axis) → Form
product_form r j k = wide_form (form_part r j) (form_part r k)

-- the sum of the products over the rows
unfoldable pub sum_form : List RowForm → (j k : Axis) → Form
sum_form [] j k = bounded_of 0
sum_form (r ∷ rs) j k = add_form (product_form r j k) (sum_form rs j k)

-- the entries of a symmetric matrix
abbrev pub form_table : (Axis → Axis → Form) → SymForm
form_table f = record {
  a11 = f East East;
  a12 = f East North;
  a13 = f East Up;
  a14 = f East Clock;
  a22 = f North North;
  a23 = f North Up;
  a24 = f North Clock;
  a33 = f Up Up;
  a34 = f Up Clock;
  a44 = f Clock Clock;
}

-- the sums narrowed
unfoldable pub gram_form : List RowForm → SymForm
gram_form rows = form_table (λ j k. narrow_form (sum_form rows j k))

-- ---- the determinant
-- a b - c d
unfoldable pub crossed_form : (a b c d : Form) → Form
crossed_form a b c d = narrow_form (sub_form (wide_form a b) (wide_form c d))

-- the two by two minor of the rows p and q and the columns j and k
unfoldable pub minor_form : SymForm → (p q j k : Axis) → Form
minor_form h p q j k = crossed_form (form_entry h p j) (form_entry h q k) (form_entry h p k) (form_entry h q j)

-- the minors of two rows, by the places of their columns
pub record MinorForms : Type 0 where
  pub m12 : Form
  pub m13 : Form
  pub m14 : Form
  pub m23 : Form
  pub m24 : Form
  pub m34 : Form

abbrev pub minor_forms : SymForm → (p q : Axis) → MinorForms
minor_forms h p q = record {
  m12 = minor_form h p q East North;
  m13 = minor_form h p q East Up;
  m14 = minor_form h p q East Clock;
  m23 = minor_form h p q North Up;
  m24 = minor_form h p q North Clock;
  m34 = minor_form h p q Up Clock;
}

-- the sum of the products of complementary minors with their signs, at scale 76
unfoldable pub laplace_form : (s c : MinorForms) → Form
laplace_form s c =
    add_form (sub_form (add_form (add_form (sub_form (wide_form s.m12 c.m34) (wide_form s.m13 c.m24)) (wide_form s.m14 c.m23)) (wide_form s.m23 c.m14)) (wide_form s.m24 c.m13)) (wide_form s.m34 c.m12)

unfoldable pub det_form : SymForm → Form
det_form h = narrow_form (laplace_form (minor_forms h East North) (minor_forms h Up Clock))

-- ---- the adjugate
-- b1 m1 - b2 m2 + b3 m3
unfoldable pub along_form : (b1 b2 b3 m1 m2 m3 : Form) → Form
along_form b1 b2 b3 m1 m2 m3 = narrow_form (add_form (sub_form (wide_form b1 m1) (wide_form b2 m2)) (wide_form b3 m3))

-- the three by three minor of the rows p, q, r and the columns i, j, k, along its first row
unfoldable pub minor3_form : SymForm → (p q r i j k : Axis) → Form
minor3_form h p q r i j k = along_form (form_entry h p i) (form_entry h p j) (form_entry h p k) (minor_form h q r j k) (minor_form h q r i k) (minor_form h q r i j)

unfoldable pub adjugate_form : SymForm → SymForm
adjugate_form h = record {
  a11 = minor3_form h North Up Clock North Up Clock;
  a12 = neg_form (minor3_form h North Up Clock East Up Clock);
  a13 = minor3_form h North Up Clock East North Clock;
  a14 = neg_form (minor3_form h North Up Clock East North Up);
  a22 = minor3_form h East Up Clock East Up Clock;
  a23 = neg_form (minor3_form h East Up Clock East North Clock);
  a24 = minor3_form h East Up Clock East North Up;
  a33 = minor3_form h East North Clock East North Clock;
  a34 = neg_form (minor3_form h East North Clock East North Up);
  a44 = minor3_form h East North Up East North Up;
}

-- a e + b n + c u + d k
unfoldable pub inner_form : (a b c d : Form) → RowForm → Form
inner_form a b c d r = narrow_form (add_form (add_form (add_form (wide_form a r.e) (wide_form b r.n)) (wide_form c r.u)) (wide_form d r.k))

-- the sum of the products of a row of the adjugate with the row r
unfoldable pub alpha_form : SymForm → RowForm → Axis → Form
alpha_form adj r j = inner_form (form_entry adj j East) (form_entry adj j North) (form_entry adj j Up) (form_entry adj j Clock) r

-- the sum of two squares, and a square, at scale 38
unfoldable pub horizontal_form : Form → Form → Form
horizontal_form a b = narrow_form (add_form (wide_form a a) (wide_form b b))

unfoldable pub vertical_form : Form → Form
vertical_form a = narrow_form (wide_form a a)
