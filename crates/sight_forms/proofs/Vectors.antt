-- Vectors and directions of forms, by their parts.
use Rattle.std.specs.Prelude.{◌≡◌, List, [], ◌∷◌, length, refl}
use Rattle.std.proofs.Common.{arith, get_or}
use Rattle.time_forms.specs.declared.time_form.TimeForm.{TimeForm}
use Rattle.time_forms.specs.Forms.{Form}
use Rattle.time_forms.specs.Programs.{form}
use Rattle.geometry_forms.specs.Rows.{RowForm}
use Rattle.orbit_forms.specs.Positions.{VectorForm}
use Rattle.angle_forms.specs.Vectors.{vector_form}
use Rattle.look_forms.specs.Frames.{DirectionForm}

-- the three members of an array
pub three : (vs : List TimeForm) (d e f : TimeForm) → length vs ≡ 3 → (let p : VectorForm = record { x = form (get_or vs 0 d); y = form (get_or vs 1 e); z = form (get_or vs 2 f) } in p ≡ vector_form vs)
three [] d e f h = absurd (omega arith)
three (a ∷ []) d e f h = absurd (omega arith)
three (a ∷ b ∷ []) d e f h = absurd (omega arith)
three (a ∷ b ∷ c ∷ []) d e f h = refl
three (a ∷ b ∷ c ∷ x ∷ xs) d e f h = absurd (omega arith)

-- equal in each part
pub same_vector : {a b c x y z : Form} → a ≡ x → b ≡ y → c ≡ z → (let p : VectorForm = record { x = a; y = b; z = c } in let q : VectorForm = record { x = x; y = y; z = z } in p ≡ q)
same_vector p q r = λ i. record { x = p i; y = q i; z = r i }

pub same_direction : {a b c x y z : Form} → a ≡ x → b ≡ y → c ≡ z → (let p : DirectionForm = record { east = a; north = b; up = c } in let q : DirectionForm = record { east = x; north = y; up = z } in p ≡ q)
same_direction p q r = λ i. record { east = p i; north = q i; up = r i }

pub same_row : {a b c x y z : Form} (k : Form) → a ≡ x → b ≡ y → c ≡ z → (let p : RowForm = record { e = a; n = b; u = c; k = k } in let q : RowForm = record { e = x; n = y; u = z; k = k } in p ≡ q)
same_row k p q r = λ i. record { e = p i; n = q i; u = r i; k = k }
