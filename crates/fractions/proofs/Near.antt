-- Fractions that are at most so far apart.
use Rattle.std.specs.Prelude.{◌↔◌}
use Rattle.std.proofs.Common.{[], ◌∷◌}
use Rattle.fractions.specs.Fraction.{Fraction, zeroᶠ, ◌+ᶠ◌, ◌-ᶠ◌, ◌*ᶠ◌, neg, abs, ◌≤ᶠ◌, IsNear}
use Rattle.fractions.proofs.Laws.{≤ᶠ_trans, not_negative_neg}
use Rattle.fractions.proofs.AbsoluteValues.{by_sign, abs_at_least, abs_at_least_neg}
use Rattle.fractions.proofs.Quote.{quote}
use Rattle.fractions.proofs.Certificates.{not_negative, at_most}

-- distances add up
pub near_trans : {x y z d e : Fraction} → IsNear x y d → IsNear y z e → IsNear x z (d +ᶠ e)
near_trans {x} {y} {z} {d} {e} p q = record {
  low = at_most (x ∷ y ∷ z ∷ d ∷ e ∷ []) (((y +ᶠ d) -ᶠ x) +ᶠ ((z +ᶠ e) -ᶠ y)) (search not_negative) (search quote depth 20) tt;
  high = at_most (x ∷ y ∷ z ∷ d ∷ e ∷ []) (((x +ᶠ d) -ᶠ y) +ᶠ ((y +ᶠ e) -ᶠ z)) (search not_negative) (search quote depth 20) tt;
}

-- what is near is near by more
pub near_weaken : {x y d e : Fraction} → d ≤ᶠ e → IsNear x y d → IsNear x y e
near_weaken {x} {y} {d} {e} h p = record {
  low = at_most (x ∷ y ∷ d ∷ e ∷ []) ((e -ᶠ d) +ᶠ ((y +ᶠ d) -ᶠ x)) (search not_negative) (search quote depth 20) tt;
  high = at_most (x ∷ y ∷ d ∷ e ∷ []) ((e -ᶠ d) +ᶠ ((x +ᶠ d) -ᶠ y)) (search not_negative) (search quote depth 20) tt;
}

-- by a factor that is not negative
times : (r a b e : Fraction) → zeroᶠ ≤ᶠ r → IsNear a b e → IsNear (r *ᶠ a) (r *ᶠ b) (r *ᶠ e)
times r a b e n p = record {
  low = at_most (r ∷ a ∷ b ∷ e ∷ []) (r *ᶠ ((b +ᶠ e) -ᶠ a)) (search not_negative) (search quote depth 20) tt;
  high = at_most (r ∷ a ∷ b ∷ e ∷ []) (r *ᶠ ((a +ᶠ e) -ᶠ b)) (search not_negative) (search quote depth 20) tt;
}

-- by one that is not positive
times_negative : (r a b e : Fraction) → zeroᶠ ≤ᶠ neg r → IsNear a b e → IsNear (r *ᶠ a) (r *ᶠ b) (neg r *ᶠ e)
times_negative r a b e n p = record {
  low = at_most (r ∷ a ∷ b ∷ e ∷ []) (neg r *ᶠ ((a +ᶠ e) -ᶠ b)) (search not_negative) (search quote depth 20) tt;
  high = at_most (r ∷ a ∷ b ∷ e ∷ []) (neg r *ᶠ ((b +ᶠ e) -ᶠ a)) (search not_negative) (search quote depth 20) tt;
}

-- a factor scales the distance
pub near_times : {a b e : Fraction} (x : Fraction) → IsNear a b e → IsNear (x *ᶠ a) (x *ᶠ b) (abs x *ᶠ e)
near_times {a} {b} {e} x p = by_sign (λ t. IsNear (x *ᶠ a) (x *ᶠ b) (t *ᶠ e)) x (λ h. times x a b e h p) (λ h. times_negative x a b e (not_negative_neg h) p)

-- x and y are near where |x - y| is at most r
pub near-abs : (x y r : Fraction) → (IsNear x y r) ↔ (abs (x -ᶠ y) ≤ᶠ r)
near-abs x y r = (
  (λ p. by_sign (λ t. t ≤ᶠ r) (x -ᶠ y) (λ h. below p) (λ h. above p)),
  (λ h. record { low = low (≤ᶠ_trans (abs_at_least (x -ᶠ y)) h); high = high (≤ᶠ_trans (abs_at_least_neg (x -ᶠ y)) h) }),
)
  where
    below : IsNear x y r → x -ᶠ y ≤ᶠ r
    below p = at_most (x ∷ y ∷ r ∷ []) ((y +ᶠ r) -ᶠ x) (search not_negative) (search quote depth 20) tt

    above : IsNear x y r → neg (x -ᶠ y) ≤ᶠ r
    above p = at_most (x ∷ y ∷ r ∷ []) ((x +ᶠ r) -ᶠ y) (search not_negative) (search quote depth 20) tt

    low : x -ᶠ y ≤ᶠ r → x ≤ᶠ y +ᶠ r
    low h = at_most (x ∷ y ∷ r ∷ []) (r -ᶠ (x -ᶠ y)) (search not_negative) (search quote depth 20) tt

    high : neg (x -ᶠ y) ≤ᶠ r → y ≤ᶠ x +ᶠ r
    high h = at_most (x ∷ y ∷ r ∷ []) (r -ᶠ neg (x -ᶠ y)) (search not_negative) (search quote depth 20) tt
