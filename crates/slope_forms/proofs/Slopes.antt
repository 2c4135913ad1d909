-- What forms tell of one slope.
use Rattle.std.specs.Prelude.{◌≡◌, ℕ, ℤ, pos, ◌+◌, ◌^◌, ◌*◌, ◌≤ℤ◌, List, Some, is_some, refl}
use Rattle.std.specs.Option.{IsSome}
use Rattle.std.proofs.Common.{sym, subst}
use Rattle.raim_model.specs.Geometry.{East, North, Up}
use Rattle.fix_interval.specs.Ends.{Ends, IsInside}
use Rattle.fix_interval.specs.Products.{mul_wide_of, mul_of, checked_mul_of}
use Rattle.fix_interval.proofs.CheckedProducts.{checked_isotone}
use Rattle.geom_laws.specs.Rows.{RowEnds, RowWithin}
use Rattle.geom_laws.specs.Symmetric.{SymEnds, SymWithin}
use Rattle.geom_laws.specs.Adjugate.{alpha_of}
use Rattle.geom_laws.proofs.Bounds.{alpha_within, horizontal_within, vertical_within}
use Rattle.slope_laws.specs.declared.shift.Shift.{Shift}
use Rattle.slope_laws.specs.declared.shift.Shift.TheVariants.{Horizontal, Vertical}
use Rattle.slope_laws.specs.ShiftSlopes.{squared_of, compared, outcome_of}
use Rattle.time_forms.specs.Forms.{Form, IsTime, Holds}
use Rattle.time_forms.specs.Operations.{mul_form}
use Rattle.time_forms.proofs.Coarser.{mul_holds}
use Rattle.geometry_forms.specs.Rows.{RowForm, RowHolds}
use Rattle.geometry_forms.specs.Matrices.{SymForm, SymHolds}
use Rattle.geometry_forms.specs.Geometry.{alpha_form}
use Rattle.slope_forms.specs.Told.{TellsOutcome}
use Rattle.slope_forms.specs.Slopes.{squared_form, margin_form, margin_told, slope_told, safe_factors}
use Rattle.geometry_forms.proofs.Parts.{difference_held, product_held, narrow_held}
use Rattle.geometry_forms.proofs.Adjugates.{alpha_held, horizontal_held, vertical_held}
use Rattle.slope_forms.proofs.Margins.{margin_tells}

-- the squared shift
pub squared_held : {h : ℕ} {d : ℤ} (shift : Shift) (f : SymForm) (x : SymEnds) (g : RowForm) (r : RowEnds) → IsTime h d → SymHolds h d f x → RowHolds h d g r
    → Holds h d (squared_form shift f g) (squared_of shift x r)
squared_held Horizontal f x g r t v w = horizontal_held (alpha_form f g East) (alpha_form f g North) (alpha_of x r East) (alpha_of x r North) t (alpha_held f x g r East t v w) (alpha_held f x g r North t v w)
squared_held Vertical f x g r t v w = vertical_held (alpha_form f g Up) (alpha_of x r Up) t (alpha_held f x g r Up t v w)

-- and its bound
pub squared_within : (shift : Shift) (x : SymEnds) (r : RowEnds) → SymWithin x (13 * 2 ^ 52) → RowWithin r (2 ^ 38 + 1) → IsInside (squared_of shift x r) record { lo = pos 0; hi = pos (2 ^ 79) }
squared_within Horizontal x r v w = horizontal_within (alpha_of x r East) (alpha_of x r North) (alpha_within x r East v w) (alpha_within x r North v w)
squared_within Vertical x r v w = vertical_within (alpha_of x r Up) (alpha_within x r Up v w)

-- the greatest product of a factor and a squared shift is one of 128 bits
quick_some : IsSome (checked_mul_of safe_factors record { lo = pos 0; hi = pos (2 ^ 79) })
unfolding checked_mul_of
quick_some = refl

pub no_overflow : (kappa squared : Ends) → IsInside kappa safe_factors → IsInside squared record { lo = pos 0; hi = pos (2 ^ 79) } → checked_mul_of kappa squared ≡ Some (mul_wide_of kappa squared)
no_overflow kappa squared p q = checked_isotone kappa squared safe_factors record { lo = pos 0; hi = pos (2 ^ 79) } p q quick_some

-- the margin holds the difference of the rounded products
margin_held : {h : ℕ} {d : ℤ} (fk fq fd fe : Form) (k q a b : Ends) → IsTime h d → Holds h d fk k → Holds h d fq q → Holds h d fd a → Holds h d fe b
    → TellsOutcome (margin_told (margin_form fk fq fd fe)) (compared (Some (mul_wide_of k q)) (mul_wide_of a b))
unfolding margin_form mul_form
margin_held {h} {d} fk fq fd fe k q a b t hk hq ha hb =
    let l = product_held t hk hq in let r = product_held t ha hb in
    margin_tells (margin_form fk fq fd fe) (mul_wide_of k q) (mul_wide_of a b) t l.ordered r.ordered (difference_held (narrow_held t r) (narrow_held t l))

-- what is told of a slope
pub slope_tells : {h : ℕ} {d : ℤ} (shift : Shift) (f : SymForm) (x : SymEnds) (fd fe : Form) (a b : Ends) (g : RowForm) (r : RowEnds) (fk : Form) (kappa : Ends) → IsTime h d
    → SymHolds h d f x → Holds h d fd a → Holds h d fe b → RowHolds h d g r → Holds h d fk kappa
    → SymWithin x (13 * 2 ^ 52) → RowWithin r (2 ^ 38 + 1) → IsInside kappa safe_factors
    → TellsOutcome (slope_told shift f fd fe g fk) (outcome_of shift x a b r kappa)
unfolding slope_told outcome_of
slope_tells shift f x fd fe a b g r fk kappa t v ha hb w hk small row_small quick =
    subst (λ o. TellsOutcome (margin_told (margin_form fk (squared_form shift f g) fd fe)) (compared o (mul_wide_of a b)))
    (sym (no_overflow kappa (squared_of shift x r) quick (squared_within shift x r small row_small)))
    (margin_held fk (squared_form shift f g) fd fe kappa (squared_of shift x r) a b t hk (squared_held shift f x g r t v w) ha hb)
