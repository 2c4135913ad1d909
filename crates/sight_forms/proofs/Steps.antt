-- Quotients and roots of the program are those of the definitions.
use Rattle.std.specs.Prelude.{◌≡◌, ◌^◌, pos, ◌&&◌, true, Some, IfSome, refl}
use Rattle.std.specs.declared.option.Option.{Option}
use Rattle.std.specs.Option.{option_map}
use Rattle.std.proofs.Common.{ap, sym, ◌∙◌}
use lib.Signed.{le_z}
use Rattle.time_forms.specs.declared.time_form.TimeForm.{TimeForm}
use Rattle.time_forms.specs.Forms.{Form, least_of}
use Rattle.time_forms.specs.RootForms.{root_reach, has_root, sqrt_form, checked_sqrt_form}
use Rattle.time_forms.specs.QuotientForms.{has_quotient, div_form, checked_div_form}
use Rattle.time_forms.specs.Programs.{form, is_below, short_of}
use Rattle.time_forms.proofs.Shorts.{both_hold, short_same, if_checked}
use Rattle.orbit_forms.specs.Positions.{VectorForm}
use Rattle.angle_forms.proofs.Steps.{if_tested}
use Rattle.look_forms.specs.Looks.{squares_form, range_form}
use Rattle.sight_forms.specs.Sights.{products_form}

-- ---- quotients
pub quotient_same : (f g k : Form) → Some k ≡ checked_div_form f g → k ≡ div_form f g
unfolding checked_div_form
quotient_same f g k e = short_same (div_form f g) k (if_tested (has_quotient f g) (short_of (div_form f g)) k (sym e)).1

pub quotient_is : (r : Option TimeForm) (f g x : Form) → option_map form r ≡ checked_div_form f g → f ≡ x → IfSome r (λ t. form t ≡ div_form x g)
unfolding checked_div_form
quotient_is r f g x e p = if_checked r (has_quotient f g) (div_form f g) e (λ k. k ≡ div_form x g) (λ t. ap (λ (y : Form). div_form y g) p)

-- ---- the root of the squares of a line
squares-is : (d : VectorForm) → products_form d d ≡ squares_form d
unfolding products_form squares_form
squares-is d = refl

pub range_is : (r : Option TimeForm) (f : Form) (d : VectorForm) → option_map form r ≡ checked_sqrt_form f → f ≡ products_form d d → IfSome r (λ t. form t ≡ range_form d)
unfolding checked_sqrt_form range_form
range_is r f d e p = if_checked r (has_root f) (sqrt_form f) e (λ k. k ≡ range_form d) (λ t. ap sqrt_form (p ∙ squares-is d))

pub range_some : (r : Option TimeForm) (f : Form) (d : VectorForm) → option_map form r ≡ checked_sqrt_form f → f ≡ products_form d d → IfSome r (λ t. le_z (pos 1) (least_of (squares_form d)) ≡ true)
unfolding checked_sqrt_form
range_some r f d e p =
    if_checked r (has_root f) (sqrt_form f) e (λ k. le_z (pos 1) (least_of (squares_form d)) ≡ true) (λ t.
    let l = both_hold (le_z (pos 1) (least_of f) && le_z (pos 1) f.centre) (is_below (root_reach f) (2 ^ 62)) t in
    ap (λ (g : Form). le_z (pos 1) (least_of g)) (sym (p ∙ squares-is d)) ∙ sym (both_hold (le_z (pos 1) (least_of f)) (le_z (pos 1) f.centre) l.0).0)
