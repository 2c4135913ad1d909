-- The factor of the slopes, rounded outward, holds that of the model.
use Rattle.std.specs.Prelude.{◌≡◌, ℕ, ◌*◌, ◌≤◌, ◌<◌, pos, ◌*ℤ◌, ◌≤ℤ◌, ◌^◌, refl}
use Rattle.std.proofs.Common.{arith, sym, subst}
use Rattle.whole_numbers.proofs.Divisions.{floor_of-at_most-ceil_of}
use Rattle.fractions.specs.Fraction.{ratio, ◌*ᶠ◌}
use Rattle.fractions.proofs.Ratios.{ratio-mul}
use Rattle.raim_model.specs.declared.limits.Limits.{Limits}
use Rattle.raim_model.specs.PointVerdict.{bias_of, kappa_of}
use Rattle.fix_interval.specs.Ends.{IsInside}
use Rattle.fix_interval.specs.Lies.{Lies}
use Rattle.fix_interval.specs.Quotients.{from_ratio_of, outward_of}
use Rattle.fix_interval.proofs.EndInsides.{inside_self}
use Rattle.fix_interval.proofs.EndQuotients.{from_ratio_encloses}
use Rattle.verdict_laws.specs.PieceVerdict.{kappa_over}

-- the square of what is positive is positive
positive_square : (a : ℕ) → 1 ≤ a → 0 < a * a
positive_square a h = grind (arith)

-- bias^2 over alert^2 is the square of bias over alert
pub kappa_encloses : (limits : Limits) (alert_mm n : ℕ) → 1 ≤ alert_mm → Lies (kappa_over limits alert_mm n) 38 (kappa_of limits alert_mm n)
unfolding kappa_over
kappa_encloses limits alert_mm n h =
    let b : ℕ = bias_of limits n in
    let e : ratio (pos b) alert_mm *ᶠ ratio (pos b) alert_mm ≡ ratio (pos (b * b)) (alert_mm * alert_mm) = ratio-mul (pos b) (pos b) alert_mm alert_mm h h in
    subst (λ t. Lies (from_ratio_of (pos (b * b)) (alert_mm * alert_mm)) 38 t) (sym e) (from_ratio_encloses (pos (b * b)) (alert_mm * alert_mm) refl (positive_square alert_mm h))

-- its ends are in order
kappa_ordered : (limits : Limits) (alert_mm n : ℕ) → 1 ≤ alert_mm → (kappa_over limits alert_mm n).lo ≤ℤ (kappa_over limits alert_mm n).hi
unfolding kappa_over from_ratio_of outward_of
kappa_ordered limits alert_mm n h = floor_of-at_most-ceil_of (pos (bias_of limits n * bias_of limits n) *ℤ pos (2 ^ 38)) (alert_mm * alert_mm) (positive_square alert_mm h)

-- it is an interval
pub kappa_inside : (limits : Limits) (alert_mm n : ℕ) → 1 ≤ alert_mm → IsInside (kappa_over limits alert_mm n) (kappa_over limits alert_mm n)
kappa_inside limits alert_mm n h = inside_self (kappa_over limits alert_mm n) (kappa_ordered limits alert_mm n h)
