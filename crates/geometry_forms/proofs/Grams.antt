-- The normal matrix of forms holds the written one at each time.
use Rattle.std.specs.Prelude.{◌≡◌, ℕ, zero, suc, ℤ, ◌<◌, List, [], ◌∷◌, length, slice_index_or, refl}
use Rattle.std.proofs.Common.{arith, ap, sym, ◌∙◌}
use Rattle.raim_model.specs.Geometry.{Axis, East, North, Up, Clock}
use Rattle.fix_interval.specs.Ends.{Ends}
use Rattle.fix_interval.specs.Products.{narrow76_of}
use Rattle.geometry_laws.specs.Without.{without}
use Rattle.geom_laws.specs.Rows.{RowEnds}
use Rattle.geom_laws.specs.Symmetric.{entry}
use Rattle.geom_laws.specs.Gram.{product_of, sum_of, tabulated, sums_of, gram_of}
use Rattle.time_forms.specs.Forms.{Form, IsTime, Holds}
use Rattle.time_forms.specs.Operations.{add_form, less_form, narrow_form}
use Rattle.time_forms.proofs.FormSums.{less-add, add_form-comm, add_form-assoc}
use Rattle.geometry_forms.specs.Rows.{RowForm, RowHolds, RowsHold}
use Rattle.geometry_forms.specs.Matrices.{form_entry, SymHolds}
use Rattle.geometry_forms.specs.Geometry.{product_form, sum_form, form_table, gram_form}
use Rattle.geometry_forms.proofs.Parts.{zero_held, sum_held, product_held, square_held, narrow_held}

-- a product of two parts
pub part_product_held : {h : ℕ} {d : ℤ} (f : RowForm) (r : RowEnds) → IsTime h d → RowHolds h d f r → (j k : Axis) → Holds h d (product_form f j k) (product_of r j k)
unfolding product_form product_of
part_product_held f r t v East East = square_held t (v.parts East)
part_product_held f r t v East North = product_held t (v.parts East) (v.parts North)
part_product_held f r t v East Up = product_held t (v.parts East) (v.parts Up)
part_product_held f r t v East Clock = product_held t (v.parts East) (v.parts Clock)
part_product_held f r t v North East = product_held t (v.parts North) (v.parts East)
part_product_held f r t v North North = square_held t (v.parts North)
part_product_held f r t v North Up = product_held t (v.parts North) (v.parts Up)
part_product_held f r t v North Clock = product_held t (v.parts North) (v.parts Clock)
part_product_held f r t v Up East = product_held t (v.parts Up) (v.parts East)
part_product_held f r t v Up North = product_held t (v.parts Up) (v.parts North)
part_product_held f r t v Up Up = square_held t (v.parts Up)
part_product_held f r t v Up Clock = product_held t (v.parts Up) (v.parts Clock)
part_product_held f r t v Clock East = product_held t (v.parts Clock) (v.parts East)
part_product_held f r t v Clock North = product_held t (v.parts Clock) (v.parts North)
part_product_held f r t v Clock Up = product_held t (v.parts Clock) (v.parts Up)
part_product_held f r t v Clock Clock = square_held t (v.parts Clock)

-- the sums over the rows
pub sum_of_held : {h : ℕ} {d : ℤ} (fs : List RowForm) (rs : List RowEnds) → IsTime h d → RowsHold h d fs rs → (j k : Axis) → Holds h d (sum_form fs j k) (sum_of rs j k)
unfolding sum_form sum_of
sum_of_held [] [] t v j k = zero_held
sum_of_held [] (r ∷ rs) t v j k = absurd v
sum_of_held (f ∷ fs) [] t v j k = absurd v
sum_of_held (f ∷ fs) (r ∷ rs) t v j k = sum_held (part_product_held f r t v.0 j k) (sum_of_held fs rs t v.1 j k)

-- a matrix of forms holds one of intervals where each entry on and above the diagonal does
pub table_held : {h : ℕ} {d : ℤ} (f : Axis → Axis → Form) (g : Axis → Axis → Ends) → ((j k : Axis) → Holds h d (f j k) (g j k)) → SymHolds h d (form_table f) (tabulated g)
table_held {h} {d} f g v = record { entries = at }
  where
    at : (j k : Axis) → Holds h d (form_entry (form_table f) j k) (entry (tabulated g) j k)
    at East East = v East East
    at East North = v East North
    at East Up = v East Up
    at East Clock = v East Clock
    at North East = v East North
    at North North = v North North
    at North Up = v North Up
    at North Clock = v North Clock
    at Up East = v East Up
    at Up North = v North Up
    at Up Up = v Up Up
    at Up Clock = v Up Clock
    at Clock East = v East Clock
    at Clock North = v North Clock
    at Clock Up = v Up Clock
    at Clock Clock = v Clock Clock

-- the normal matrix
pub gram_held : {h : ℕ} {d : ℤ} (fs : List RowForm) (rs : List RowEnds) → IsTime h d → RowsHold h d fs rs → SymHolds h d (gram_form fs) (gram_of rs)
unfolding gram_form gram_of sums_of
gram_held {h} {d} fs rs t v =
    table_held (λ j k. narrow_form (sum_form fs j k)) (λ j k. narrow76_of (sum_of rs j k)) (λ j k. narrow_held t (sum_of_held fs rs t v j k))

-- ---- without a row: the sum of the products over all rows, less those of the row
pub rows_held_without : (h : ℕ) (d : ℤ) (fs : List RowForm) (rs : List RowEnds) (i : ℕ) → RowsHold h d fs rs → RowsHold h d (without i fs) (without i rs)
unfolding without
rows_held_without h d [] [] i v = v
rows_held_without h d [] (r ∷ rs) i v = absurd v
rows_held_without h d (f ∷ fs) [] i v = absurd v
rows_held_without h d (f ∷ fs) (r ∷ rs) zero (v, w) = w
rows_held_without h d (f ∷ fs) (r ∷ rs) (suc i) (v, w) = (v, rows_held_without h d fs rs i w)

form-exchange : (a b c : Form) → add_form a (add_form b c) ≡ add_form b (add_form a c)
form-exchange a b c = sym (add_form-assoc a b c) ∙ ap (λ t. add_form t c) (add_form-comm a b) ∙ add_form-assoc b a c

pub sum_form-without : (fs : List RowForm) (i : ℕ) (f : RowForm) (j k : Axis) → i < length fs → sum_form fs j k ≡ add_form (product_form (slice_index_or fs i f) j k) (sum_form (without i fs) j k)
unfolding sum_form without
sum_form-without [] i f j k p = absurd (omega (arith, p))
sum_form-without (g ∷ gs) zero f j k p = refl
sum_form-without (g ∷ gs) (suc i) f j k p =
    ap (λ t. add_form (product_form g j k) t) (sum_form-without gs i f j k (omega (arith, p)))
    ∙ form-exchange (product_form g j k) (product_form (slice_index_or gs i f) j k) (sum_form (without i gs) j k)

pub less-without : (fs : List RowForm) (i : ℕ) (f : RowForm) (j k : Axis) → i < length fs → less_form (sum_form fs j k) (product_form (slice_index_or fs i f) j k) ≡ sum_form (without i fs) j k
less-without fs i f j k p =
    ap (λ t. less_form t (product_form (slice_index_or fs i f) j k)) (sum_form-without fs i f j k p ∙ add_form-comm (product_form (slice_index_or fs i f) j k) (sum_form (without i fs) j k))
    ∙ less-add (sum_form (without i fs) j k) (product_form (slice_index_or fs i f) j k)
