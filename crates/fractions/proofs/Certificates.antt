-- Inequalities of fractions by a certificate: `a ≤ b` from `b - a ≡ s`, where s is a sum of products of what is not negative.
use Rattle.std.proofs.Common.{◌≡◌, List, [], ◌∙◌, ap, sym, subst}
use lib.Dec.{T}
use Rattle.whole_numbers.proofs.Ring.{◌⊕◌, minus, norm, is_zero, is_constant, from_difference}
use Rattle.whole_numbers.proofs.Quoting.{Sides, constant_sides}
use Rattle.whole_numbers.proofs.Certificates.{is_not_negative, is_not_negative-is, is_positive, is_positive-is}
use Rattle.fractions.specs.Fraction.{Fraction, ◌+ᶠ◌, ◌-ᶠ◌, ◌*ᶠ◌, ◌≤ᶠ◌, ◌<ᶠ◌, zeroᶠ}
use Rattle.fractions.proofs.Laws.{+ᶠ_zero, *ᶠ_zero, zero-*ᶠ, +ᶠ_neg, ≤ᶠ_from_sub, not_negative_sub, not_negative_product, not_negative_square, not_negative_sum}
use Rattle.fractions.proofs.Ratios.{not_negative_ratio, not_negative_constant}
use Rattle.fractions.proofs.StrictOrder.{<ᶠ_from_sub, positive_sub, positive_product, positive_numeral, positive_ratio, positive_sum_left, positive_sum_right, positive_inverse, positive_constant, *ᶠ_cancel}
use Rattle.fractions.proofs.Ring.{fractions, fractions_ring}
use Rattle.fractions.proofs.Quote.{identity}

-- what is not negative: `search not_negative` goes by the form of the number
pub ruleset not_negative = (not_negative_sub, not_negative_product, not_negative_square, not_negative_sum, not_negative_ratio)

-- what is above 0
pub ruleset positive = (positive_sub, positive_product, positive_numeral, positive_ratio, positive_sum_left, positive_sum_right, positive_inverse, not_negative)

-- a difference of equals is 0
pub vanish_sub : (a b : Fraction) → a ≡ b → a -ᶠ b ≡ zeroᶠ
vanish_sub a b e = ap (λ t. t -ᶠ b) e ∙ +ᶠ_neg b

-- a sum of zeros is 0
pub vanish_sum : (a b : Fraction) → a ≡ zeroᶠ → b ≡ zeroᶠ → a +ᶠ b ≡ zeroᶠ
vanish_sum a b p q = ap (λ t. a +ᶠ t) q ∙ +ᶠ_zero a ∙ p

-- a product whose left factor is 0 is 0
pub vanish_product_left : (a b : Fraction) → a ≡ zeroᶠ → a *ᶠ b ≡ zeroᶠ
vanish_product_left a b p = ap (λ t. t *ᶠ b) p ∙ zero-*ᶠ b

-- and one whose right factor is
pub vanish_product_right : (a b : Fraction) → b ≡ zeroᶠ → a *ᶠ b ≡ zeroᶠ
vanish_product_right a b p = ap (λ t. a *ᶠ t) p ∙ *ᶠ_zero a

-- what is 0
pub ruleset vanishing = (vanish_sub, vanish_product_left, vanish_product_right, vanish_sum)

-- ---- the certificates
-- `at_most (x ∷ y ∷ []) CERTIFICATE (search not_negative) (search quote depth 20) tt`
pub at_most : (ρ : List Fraction) {a b : Fraction} (s : Fraction) → zeroᶠ ≤ᶠ s → (k : Sides fractions ρ (b -ᶠ a) s) → T (is_zero fractions (norm fractions (k.left.expr ⊕ minus k.right.expr))) → a ≤ᶠ b
at_most ρ {a} {b} s h k t = ≤ᶠ_from_sub (rw (identity ρ k t) h)

-- the same of a multiple: `(b - a) * k` is the certificate, where 0 < k
pub at_most_scaled : (ρ : List Fraction) {a b : Fraction} (k : Fraction) → zeroᶠ <ᶠ k → (s : Fraction) → zeroᶠ ≤ᶠ s → (e : Sides fractions ρ ((b -ᶠ a) *ᶠ k) s) → T (is_zero fractions (norm fractions (e.left.expr ⊕ minus e.right.expr))) → a ≤ᶠ b
at_most_scaled ρ {a} {b} k some s h e t = ≤ᶠ_from_sub (*ᶠ_cancel some (subst (λ z. z ≤ᶠ (b -ᶠ a) *ᶠ k) (sym (zero-*ᶠ k)) (rw (identity ρ e t) h)))

-- `a < b` by a certificate above 0, which `search positive` proves
pub below : (ρ : List Fraction) {a b : Fraction} (s : Fraction) → zeroᶠ <ᶠ s → (k : Sides fractions ρ (b -ᶠ a) s) → T (is_zero fractions (norm fractions (k.left.expr ⊕ minus k.right.expr))) → a <ᶠ b
below ρ {a} {b} s h k t = <ᶠ_from_sub (rw (identity ρ k t) h)

-- an equation from equations: `a - b ≡ s`, where s is a sum of multiples of what is 0, which `search vanishing` proves
pub equal_by : (ρ : List Fraction) {a b : Fraction} (s : Fraction) → s ≡ zeroᶠ → (k : Sides fractions ρ (a -ᶠ b) s) → T (is_zero fractions (norm fractions (k.left.expr ⊕ minus k.right.expr))) → a ≡ b
equal_by ρ {a} {b} s h k t = from_difference fractions fractions_ring a b (identity ρ k t ∙ h)

-- `a ≤ b` of constants, by computation: `constants (search quote depth 40) tt`
pub constants : {a b : Fraction} (s : Sides fractions [] b a) → T (is_constant fractions (λ c. is_not_negative c.numerator) (norm fractions (s.left.expr ⊕ minus s.right.expr))) → a ≤ᶠ b
constants s t = ≤ᶠ_from_sub (constant_sides fractions fractions_ring (λ z. zeroᶠ ≤ᶠ z) (λ c. is_not_negative c.numerator) (λ c p. not_negative_constant c.numerator c.denominator (is_not_negative-is c.numerator p)) s t)

-- `a < b` of constants
pub constants_below : {a b : Fraction} (s : Sides fractions [] b a) → T (is_constant fractions (λ c. is_positive c.numerator) (norm fractions (s.left.expr ⊕ minus s.right.expr))) → a <ᶠ b
constants_below s t = <ᶠ_from_sub (constant_sides fractions fractions_ring (λ z. zeroᶠ <ᶠ z) (λ c. is_positive c.numerator) (λ c p. positive_constant c.numerator c.denominator (is_positive-is c.numerator p)) s t)
