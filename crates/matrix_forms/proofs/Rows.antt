-- The minors of two rows of a matrix, and its cofactors.
use Rattle.std.specs.Prelude.{◌≡◌, refl}
use Rattle.std.proofs.Common.{ap₂, ◌∙◌}
use Rattle.raim_model.specs.Geometry.{East, North, Up, Clock}
use Rattle.geometry_forms.specs.Rows.{RowForm}
use Rattle.geometry_forms.specs.Matrices.{SymForm}
use Rattle.geometry_forms.specs.Geometry.{MinorForms, minor_forms, minor_form, minor3_form, adjugate_form}
use Rattle.matrix_forms.specs.Shorts.{AreShortMinors}
use Rattle.matrix_forms.specs.Lines.{line_of, line_minors, cofactors_east, cofactors_north, cofactors_up}

pub short_minors : {r s a b : RowForm} → r ≡ a → s ≡ b → AreShortMinors (line_minors a b) → AreShortMinors (line_minors r s)
short_minors p q m = rw (p, q) m

pub same_minors : {m : MinorForms} {r s a b : RowForm} → m ≡ line_minors r s → r ≡ a → s ≡ b → m ≡ line_minors a b
same_minors e p q = e ∙ ap₂ line_minors p q

-- the rows of the adjugate
pub row_east : (h : SymForm) {n : RowForm} {b : MinorForms} → n ≡ line_of h North → b ≡ minor_forms h Up Clock → cofactors_east n b ≡ line_of (adjugate_form h) East
unfolding minor_form minor3_form adjugate_form
row_east h p q = rw (p, q) refl

pub row_north : (h : SymForm) {n e : RowForm} {b : MinorForms} → n ≡ line_of h North → e ≡ line_of h East → b ≡ minor_forms h Up Clock → cofactors_north n e b ≡ line_of (adjugate_form h) North
unfolding minor_form minor3_form adjugate_form
row_north h p q r = rw (p, q, r) refl

pub row_up : (h : SymForm) {n e : RowForm} {b a : MinorForms} → n ≡ line_of h North → e ≡ line_of h East → b ≡ minor_forms h Up Clock → a ≡ minor_forms h North Clock
    → cofactors_up n e b a ≡ line_of (adjugate_form h) Up
unfolding minor_form minor3_form adjugate_form
row_up h p q r s = rw (p, q, r, s) refl
