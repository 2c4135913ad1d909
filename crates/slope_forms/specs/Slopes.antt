-- The test of a list of rows in time forms: the determinant against the least one, the slope of each row against the limit, and the
-- lists without one row.
use Rattle.std.specs.Prelude.{◌≡◌, ℕ, ℤ, pos, suc, ◌+◌, ◌^◌, ◌≤◌, if◌then◌else◌, nat_lt, List, [], ◌∷◌, length, map, All}
use lib.Signed.{le_z, lt_z}
use Rattle.raim_model.specs.Geometry.{East, North, Up}
use Rattle.raim_model.specs.declared.verdict.Why.TheVariants as why
use Rattle.fix_interval.specs.Ends.{Ends}
use Rattle.geom_laws.specs.Rows.{RowEnds, RowWithin}
use Rattle.slope_laws.specs.declared.shift.Shift.{Shift}
use Rattle.slope_laws.specs.declared.shift.Shift.TheVariants.{Horizontal, Vertical}
use Rattle.slope_laws.specs.Rows.{NamedRow, Removal}
use Rattle.slope_laws.specs.Slopes.{least_units}
use Rattle.slope_laws.specs.ShiftSlopes.{ends_of}
use Rattle.time_forms.specs.Forms.{Form, least_of, greatest_of}
use Rattle.time_forms.specs.Operations.{sub_form, mul_form}
use Rattle.geometry_forms.specs.Rows.{RowForm, RowHolds, RowsHold}
use Rattle.geometry_forms.specs.Matrices.{SymForm}
use Rattle.geometry_forms.specs.Geometry.{gram_form, det_form, adjugate_form, alpha_form, horizontal_form, vertical_form}
use Rattle.slope_forms.specs.Told.{Told, passing, failing, unknown, both_told, unless_told}

-- ---- one slope
-- alpha_1^2 + alpha_2^2, or alpha_3^2, of a row
abbrev pub squared_form : Shift → (adj : SymForm) → RowForm → Form
squared_form Horizontal adj row = horizontal_form (alpha_form adj row East) (alpha_form adj row North)
squared_form Vertical adj row = vertical_form (alpha_form adj row Up)

-- D D_i less kappa times the squared shift, at scale 38: both products are narrowed first
unfoldable pub margin_form : (kappa squared d d_less : Form) → Form
margin_form kappa squared d d_less = sub_form (mul_form d d_less) (mul_form kappa squared)

-- what the margin tells of the slope
abbrev pub margin_told : Form → Told
margin_told m = if le_z (pos 0) (least_of m) then passing else if lt_z (greatest_of m) (pos 0) then failing why.Slope else unknown

unfoldable pub slope_told : Shift → (adj : SymForm) (d d_less : Form) → RowForm → (kappa : Form) → Told
slope_told shift adj d d_less row kappa = margin_told (margin_form kappa (squared_form shift adj row) d d_less)

-- ---- a list of rows
-- a row of a list, and the others in their order
pub record RemovalForm : Type 0 where
  pub row : RowForm
  pub rest : List RowForm

abbrev pub form_behind : RowForm → RemovalForm → RemovalForm
form_behind row x = record { row = x.row; rest = row ∷ x.rest }

-- each row with the others, in order
abbrev pub form_removals : List RowForm → List RemovalForm
form_removals [] = []
form_removals (row ∷ rows) = record { row = row; rest = rows } ∷ map (form_behind row) (form_removals rows)

-- the slopes of all rows: one that surely fails decides, and else one that is not known
abbrev pub slopes_told : (RemovalForm → Told) → List RemovalForm → Told
slopes_told told [] = passing
slopes_told told (x ∷ xs) = both_told (told x) (slopes_told told xs)

-- what a determinant that may be too small makes of the list, and else the slopes
abbrev pub determinant_told : Form → Told → Told
determinant_told d slopes = if lt_z (greatest_of d) least_units then failing why.Singular else if lt_z (least_of d) least_units then unknown else slopes

-- fault detection
unfoldable pub detect_told : Shift → List RowForm → (kappa : Form) → Told
detect_told shift rows kappa =
    if nat_lt (length rows) 5 then failing why.Few
    else determinant_told (det_form (gram_form rows))
    (slopes_told (λ x. slope_told shift (adjugate_form (gram_form rows)) (det_form (gram_form rows)) (det_form (gram_form x.rest)) x.row kappa) (form_removals rows))

-- the lists without one row: the first that does not pass decides
abbrev pub first_told : (List RowForm → Told) → List RemovalForm → Told
first_told told [] = passing
first_told told (x ∷ xs) = unless_told (told x.rest) (first_told told xs)

-- fault exclusion
unfoldable pub exclude_told : Shift → List RowForm → (kappa kappa_less : Form) → Told
exclude_told shift rows kappa kappa_less =
    if nat_lt (length rows) 6 then failing why.Few
    else unless_told (detect_told shift rows kappa) (first_told (λ rest. detect_told shift rest kappa_less) (form_removals rows))

-- ---- what no overflow needs
-- at most 32 rows, with parts of at most 1 and a unit, as the written evaluation has them at each time
pub record AreSmall (rows : List NamedRow) : Type 0 where
  pub few : length (ends_of rows) ≤ 32
  pub within : All (λ r. RowWithin r (2 ^ 38 + 1)) (ends_of rows)

-- factors from 0 to 2^47 units, which is 512: with them no product of a factor and a squared shift leaves 128 bits
abbrev pub safe_factors : Ends
safe_factors = record { lo = pos 0; hi = pos (2 ^ 47) }

-- ---- removals
-- a row of n rows of forms and the others hold those of intervals, which are small
pub record RemovalHolds (h : ℕ) (d : ℤ) (n : ℕ) (f : RemovalForm) (x : Removal) : Type 0 where
  pub row : RowHolds h d f.row x.row.ends
  pub rest : RowsHold h d f.rest (ends_of x.rest)
  pub row_within : RowWithin x.row.ends (2 ^ 38 + 1)
  pub rest_within : All (λ r. RowWithin r (2 ^ 38 + 1)) (ends_of x.rest)
  pub others : suc (length (ends_of x.rest)) ≡ n

abbrev pub RemovalsHold : ℕ → ℤ → ℕ → List RemovalForm → List Removal → Type 0
RemovalsHold h d n [] [] = Unit
RemovalsHold h d n (f ∷ fs) (x ∷ xs) = RemovalHolds h d n f x × RemovalsHold h d n fs xs
RemovalsHold h d n fs xs = ⊥
