-- Which forms fit 64 bits: the only way out of this crate's calls is that one of these does not.
use Rattle.std.specs.Prelude.{IsTrue}
use Rattle.time_forms.specs.Forms.{Form}
use Rattle.time_forms.specs.Programs.{is_short}
use Rattle.geometry_forms.specs.Rows.{RowForm}
use Rattle.geometry_forms.specs.Matrices.{SymForm}
use Rattle.geometry_forms.specs.Geometry.{MinorForms}

-- each of the three numbers is below 2^58 in size
abbrev pub IsShort : Form → Type 0
IsShort f = IsTrue (is_short f)

-- the minors of two rows
pub record AreShortMinors (m : MinorForms) : Type 0 where
  pub m12 : IsShort m.m12
  pub m13 : IsShort m.m13
  pub m14 : IsShort m.m14
  pub m23 : IsShort m.m23
  pub m24 : IsShort m.m24
  pub m34 : IsShort m.m34

-- the parts of a row
pub record IsShortRow (r : RowForm) : Type 0 where
  pub e : IsShort r.e
  pub n : IsShort r.n
  pub u : IsShort r.u
  pub k : IsShort r.k

-- the entries of a matrix
pub record IsShortMatrix (h : SymForm) : Type 0 where
  pub a11 : IsShort h.a11
  pub a12 : IsShort h.a12
  pub a13 : IsShort h.a13
  pub a14 : IsShort h.a14
  pub a22 : IsShort h.a22
  pub a23 : IsShort h.a23
  pub a24 : IsShort h.a24
  pub a33 : IsShort h.a33
  pub a34 : IsShort h.a34
  pub a44 : IsShort h.a44
