-- Absolute values.
use Rattle.std.specs.Prelude.{◌≡◌, refl, Bool, true, false, cond}
use Rattle.std.proofs.Common.{sym, subst}
use lib.Dec.{T}
use Rattle.fractions.specs.Fraction.{Fraction, ◌*ᶠ◌, neg, is_at_most, ◌≤ᶠ◌, zeroᶠ, abs}
use Rattle.fractions.proofs.Laws.{either', ≤ᶠ_antisym, neg_mul-neg, neg-zero, not_negative_neg, ≤ᶠ_refl, ≤ᶠ_trans, neg_anti}

-- the absolute value of what is not negative is itself
pub abs-at_least_zero : {x : Fraction} → zeroᶠ ≤ᶠ x → abs x ≡ x
unfolding abs
abs-at_least_zero {x} h = rw (sym (is_so (is_at_most zeroᶠ x) h.le)) refl
  where
    is_so : (t : Bool) → T t → true ≡ t
    is_so true h = refl
    is_so false h = absurd h

-- two cases for the absolute value
abs_choice : (t : Bool) (x : Fraction) (P : Fraction → Type 0) → is_at_most zeroᶠ x ≡ t → (zeroᶠ ≤ᶠ x → P x) → (x ≤ᶠ zeroᶠ → P (neg x)) → P (cond t x (neg x))
abs_choice true x P e f g = f record { le = subst T (sym e) tt }
abs_choice false x P e f g = g record { le = either' zeroᶠ x e }

-- |x| is x or -x
pub by_sign : (P : Fraction → Type 0) (x : Fraction) → (zeroᶠ ≤ᶠ x → P x) → (x ≤ᶠ zeroᶠ → P (neg x)) → P (abs x)
unfolding abs
by_sign P x f g = abs_choice (is_at_most zeroᶠ x) x P refl f g

-- an absolute value is not negative
pub not_negative_abs : (x : Fraction) → zeroᶠ ≤ᶠ abs x
not_negative_abs x = by_sign (λ t. zeroᶠ ≤ᶠ t) x (λ h. h) (λ h. not_negative_neg h)

-- the square of |x| is that of x
pub abs-square : (x : Fraction) → abs x *ᶠ abs x ≡ x *ᶠ x
abs-square x = by_sign (λ t. t *ᶠ t ≡ x *ᶠ x) x (λ h. refl) (λ h. neg_mul-neg x x)

-- the absolute value of what is not positive is its negation
pub abs-at_most_zero : {x : Fraction} → x ≤ᶠ zeroᶠ → abs x ≡ neg x
abs-at_most_zero {x} h = by_sign (λ t. t ≡ neg x) x (λ k. at_zero x (≤ᶠ_antisym h k)) (λ k. refl)
  where
    at_zero : (x : Fraction) → x ≡ zeroᶠ → x ≡ neg x
    at_zero x e = rw e (sym neg-zero)

-- a fraction is at most its absolute value
pub abs_at_least : (x : Fraction) → x ≤ᶠ abs x
abs_at_least x = by_sign (λ t. x ≤ᶠ t) x (λ h. ≤ᶠ_refl x) (λ h. ≤ᶠ_trans h (not_negative_neg h))

-- and so is its negation
pub abs_at_least_neg : (x : Fraction) → neg x ≤ᶠ abs x
abs_at_least_neg x = by_sign (λ t. neg x ≤ᶠ t) x (λ h. ≤ᶠ_trans (subst (λ t. neg x ≤ᶠ t) neg-zero (neg_anti h)) h) (λ h. ≤ᶠ_refl (neg x))
