-- Determinants, adjugates and what a row has of them, in forms, hold the written ones at each time.
use Rattle.std.specs.Prelude.{ℕ, ℤ}
use Rattle.raim_model.specs.Geometry.{Axis, East, North, Up, Clock}
use Rattle.fix_interval.specs.Ends.{Ends}
use Rattle.geom_laws.specs.Rows.{RowEnds}
use Rattle.geom_laws.specs.Symmetric.{SymEnds, entry}
use Rattle.geom_laws.specs.Determinant.{crossed_of, minor_of, laplace_of, det_of}
use Rattle.geom_laws.specs.Adjugate.{along_of, minor3_of, adjugate_of, inner_of, alpha_of, horizontal_of, vertical_of}
use Rattle.time_forms.specs.Forms.{Form, IsTime, Holds}
use Rattle.geometry_forms.specs.Rows.{RowForm, RowHolds}
use Rattle.geometry_forms.specs.Matrices.{SymForm, form_entry, SymHolds}
use Rattle.geometry_forms.specs.Geometry.{crossed_form, minor_form, laplace_form, det_form, along_form, minor3_form, adjugate_form, inner_form, alpha_form, horizontal_form, vertical_form}
use Rattle.geometry_forms.proofs.Parts.{sum_held, difference_held, negative_held, product_held, square_held, narrow_held}

-- ---- the determinant
pub minor_held : {h : ℕ} {d : ℤ} (f : SymForm) (x : SymEnds) → IsTime h d → SymHolds h d f x → (p q j k : Axis) → Holds h d (minor_form f p q j k) (minor_of x p q j k)
unfolding minor_form crossed_form minor_of crossed_of
minor_held f x t v p q j k = narrow_held t (difference_held (product_held t (v.entries p j) (v.entries q k)) (product_held t (v.entries p k) (v.entries q j)))

pub det_held : {h : ℕ} {d : ℤ} (f : SymForm) (x : SymEnds) → IsTime h d → SymHolds h d f x → Holds h d (det_form f) (det_of x)
unfolding det_form laplace_form det_of laplace_of
det_held {h} {d} f x t v =
    let s : (j k : Axis) → Holds h d (minor_form f East North j k) (minor_of x East North j k) = λ j k. minor_held f x t v East North j k in
    let c : (j k : Axis) → Holds h d (minor_form f Up Clock j k) (minor_of x Up Clock j k) = λ j k. minor_held f x t v Up Clock j k in
    narrow_held t
    (sum_held (difference_held (sum_held (sum_held (difference_held
    (product_held t (s East North) (c Up Clock)) (product_held t (s East Up) (c North Clock))) (product_held t (s East Clock) (c North Up)))
    (product_held t (s North Up) (c East Clock))) (product_held t (s North Clock) (c East Up))) (product_held t (s Up Clock) (c East North)))

-- ---- the adjugate
pub minor3_held : {h : ℕ} {d : ℤ} (f : SymForm) (x : SymEnds) → IsTime h d → SymHolds h d f x → (p q r i j k : Axis) → Holds h d (minor3_form f p q r i j k) (minor3_of x p q r i j k)
unfolding minor3_form along_form minor3_of along_of
minor3_held f x t v p q r i j k =
    narrow_held t
    (sum_held (difference_held (product_held t (v.entries p i) (minor_held f x t v q r j k)) (product_held t (v.entries p j) (minor_held f x t v q r i k))) (product_held t (v.entries p k) (minor_held f x t v q r i j)))

-- each entry of the adjugate
adjugate_entry : {h : ℕ} {d : ℤ} (f : SymForm) (x : SymEnds) → IsTime h d → SymHolds h d f x → (j k : Axis) → Holds h d (form_entry (adjugate_form f) j k) (entry (adjugate_of x) j k)
unfolding adjugate_form adjugate_of
adjugate_entry f x t v East East = minor3_held f x t v North Up Clock North Up Clock
adjugate_entry f x t v East North = negative_held (minor3_held f x t v North Up Clock East Up Clock)
adjugate_entry f x t v East Up = minor3_held f x t v North Up Clock East North Clock
adjugate_entry f x t v East Clock = negative_held (minor3_held f x t v North Up Clock East North Up)
adjugate_entry f x t v North East = negative_held (minor3_held f x t v North Up Clock East Up Clock)
adjugate_entry f x t v North North = minor3_held f x t v East Up Clock East Up Clock
adjugate_entry f x t v North Up = negative_held (minor3_held f x t v East Up Clock East North Clock)
adjugate_entry f x t v North Clock = minor3_held f x t v East Up Clock East North Up
adjugate_entry f x t v Up East = minor3_held f x t v North Up Clock East North Clock
adjugate_entry f x t v Up North = negative_held (minor3_held f x t v East Up Clock East North Clock)
adjugate_entry f x t v Up Up = minor3_held f x t v East North Clock East North Clock
adjugate_entry f x t v Up Clock = negative_held (minor3_held f x t v East North Clock East North Up)
adjugate_entry f x t v Clock East = negative_held (minor3_held f x t v North Up Clock East North Up)
adjugate_entry f x t v Clock North = minor3_held f x t v East Up Clock East North Up
adjugate_entry f x t v Clock Up = negative_held (minor3_held f x t v East North Clock East North Up)
adjugate_entry f x t v Clock Clock = minor3_held f x t v East North Up East North Up

pub adjugate_held : {h : ℕ} {d : ℤ} (f : SymForm) (x : SymEnds) → IsTime h d → SymHolds h d f x → SymHolds h d (adjugate_form f) (adjugate_of x)
adjugate_held f x t v = record { entries = adjugate_entry f x t v }

-- what a row has of the adjugate
pub alpha_held : {h : ℕ} {d : ℤ} (f : SymForm) (x : SymEnds) (g : RowForm) (r : RowEnds) (j : Axis) → IsTime h d → SymHolds h d f x → RowHolds h d g r → Holds h d (alpha_form f g j) (alpha_of x r j)
unfolding alpha_form inner_form alpha_of inner_of
alpha_held f x g r j t v w =
    narrow_held t
    (sum_held (sum_held (sum_held (product_held t (v.entries j East) (w.parts East)) (product_held t (v.entries j North) (w.parts North))) (product_held t (v.entries j Up) (w.parts Up))) (product_held t (v.entries j Clock) (w.parts Clock)))

-- its squares
pub horizontal_held : {h : ℕ} {d : ℤ} (f g : Form) (a b : Ends) → IsTime h d → Holds h d f a → Holds h d g b → Holds h d (horizontal_form f g) (horizontal_of a b)
unfolding horizontal_form horizontal_of
horizontal_held f g a b t p q = narrow_held t (sum_held (square_held t p) (square_held t q))

pub vertical_held : {h : ℕ} {d : ℤ} (f : Form) (a : Ends) → IsTime h d → Holds h d f a → Holds h d (vertical_form f) (vertical_of a)
unfolding vertical_form vertical_of
vertical_held f a t p = narrow_held t (square_held t p)
