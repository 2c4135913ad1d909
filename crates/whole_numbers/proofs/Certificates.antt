-- Inequalities of integers by a certificate: `a ≤ b` from `b - a ≡ s`, where s is a sum of products of what is not negative.
use Rattle.std.proofs.Common.{◌≡◌, ℕ, zero, suc, ◌<◌, ◌≤◌, ◌∙◌, ap, arith, sym, subst, Bool, true, false, List, [], ℤ, pos, negsuc, ◌+ℤ◌, ◌-ℤ◌, ◌*ℤ◌, ◌≤ℤ◌, ◌<ℤ◌}
use lib.Dec.{T}
use Rattle.std.proofs.Math.IntN.{zero-*ℤ, *ℤ-zero}
use Rattle.std.proofs.lemmas.Int.{ints}
use Rattle.whole_numbers.proofs.Integers.{≤ℤ_from_sub, <ℤ_from_sub, not_negative_sub, not_negative_sum, not_negative_product, not_negative_square, not_negative_natural, positive_sub, positive_natural, positive_numeral, positive_product, positive_sum_left, positive_sum_right}
use Rattle.whole_numbers.proofs.Ring.{◌⊕◌, minus, norm, is_zero, is_constant, from_difference}
use Rattle.whole_numbers.proofs.Quoting.{Sides, constant_sides}
use Rattle.whole_numbers.proofs.Quote.{integers, integers_ring, identity}

-- what is not negative: `search not_negative` goes by the form of the number
pub ruleset not_negative = (not_negative_sub, not_negative_product, not_negative_square, not_negative_natural, not_negative_sum)

-- what is above 0
pub ruleset positive = (positive_sub, positive_product, positive_numeral, positive_natural, positive_sum_left, positive_sum_right, not_negative)

-- a difference of equals is 0
pub vanish_sub : (a b : ℤ) → a ≡ b → a -ℤ b ≡ pos 0
vanish_sub a b e = omega (arith, ints)

-- a sum of zeros is 0
pub vanish_sum : (a b : ℤ) → a ≡ pos 0 → b ≡ pos 0 → a +ℤ b ≡ pos 0
vanish_sum a b p q = omega (arith, ints)

-- a product whose left factor is 0 is 0
pub vanish_product_left : (a b : ℤ) → a ≡ pos 0 → a *ℤ b ≡ pos 0
vanish_product_left a b p = ap (λ z. z *ℤ b) p ∙ zero-*ℤ b

-- and one whose right factor is
pub vanish_product_right : (a b : ℤ) → b ≡ pos 0 → a *ℤ b ≡ pos 0
vanish_product_right a b p = ap (λ z. a *ℤ z) p ∙ *ℤ-zero a

-- what is 0
pub ruleset vanishing = (vanish_sub, vanish_product_left, vanish_product_right, vanish_sum)

-- ---- the certificates
-- `at_most (x ∷ y ∷ []) CERTIFICATE (search not_negative) (search quote depth 20) tt`
pub at_most : (ρ : List ℤ) {a b : ℤ} (s : ℤ) → pos 0 ≤ℤ s → (k : Sides integers ρ (b -ℤ a) s) → T (is_zero integers (norm integers (k.left.expr ⊕ minus k.right.expr))) → a ≤ℤ b
at_most ρ {a} {b} s h k t = ≤ℤ_from_sub a b (subst (λ z. pos 0 ≤ℤ z) (sym (identity ρ k t)) h)

-- the same of a multiple: `(b - a) * k` is the certificate, where 0 < k
pub at_most_scaled : (ρ : List ℤ) {a b : ℤ} (k : ℕ) → 0 < k → (s : ℤ) → pos 0 ≤ℤ s → (e : Sides integers ρ ((b -ℤ a) *ℤ pos k) s) → T (is_zero integers (norm integers (e.left.expr ⊕ minus e.right.expr))) → a ≤ℤ b
at_most_scaled ρ {a} {b} k some s h e t = ≤ℤ_from_sub a b (cancel (b -ℤ a) k some (subst (λ z. pos 0 ≤ℤ z) (sym (identity ρ e t)) h))
  where
    cancel : (z : ℤ) (k : ℕ) → 0 < k → pos 0 ≤ℤ (z *ℤ pos k) → pos 0 ≤ℤ z
    cancel (pos n) k some h = not_negative_natural n
    cancel (negsuc n) zero some h = absurd (omega arith)
    cancel (negsuc n) (suc k) some h = absurd (omega (arith, ints))

-- `at_most` of naturals
pub natural_at_most : (ρ : List ℤ) {m n : ℕ} (s : ℤ) → pos 0 ≤ℤ s → (k : Sides integers ρ (pos n -ℤ pos m) s) → T (is_zero integers (norm integers (k.left.expr ⊕ minus k.right.expr))) → m ≤ n
natural_at_most ρ {m} {n} s h k t = let p = at_most ρ {a = pos m} {b = pos n} s h k t in omega (arith, ints)

-- `a < b` by a certificate above 0, which `search positive` proves
pub below : (ρ : List ℤ) {a b : ℤ} (s : ℤ) → pos 0 <ℤ s → (k : Sides integers ρ (b -ℤ a) s) → T (is_zero integers (norm integers (k.left.expr ⊕ minus k.right.expr))) → a <ℤ b
below ρ {a} {b} s h k t = <ℤ_from_sub a b (subst (λ z. pos 0 <ℤ z) (sym (identity ρ k t)) h)

-- an equation from equations: `a - b ≡ s`, where s is a sum of multiples of what is 0, which `search vanishing` proves
pub equal_by : (ρ : List ℤ) {a b : ℤ} (s : ℤ) → s ≡ pos 0 → (k : Sides integers ρ (a -ℤ b) s) → T (is_zero integers (norm integers (k.left.expr ⊕ minus k.right.expr))) → a ≡ b
equal_by ρ {a} {b} s h k t = from_difference integers integers_ring a b (identity ρ k t ∙ h)

-- ---- constants
abbrev pub is_not_negative : ℤ → Bool
is_not_negative (pos n) = true
is_not_negative (negsuc n) = false

abbrev pub is_positive : ℤ → Bool
is_positive (pos zero) = false
is_positive (pos (suc n)) = true
is_positive (negsuc n) = false

-- what passes the test is not negative
pub is_not_negative-is : (c : ℤ) → T (is_not_negative c) → pos 0 ≤ℤ c
is_not_negative-is (pos n) t = not_negative_natural n
is_not_negative-is (negsuc n) t = absurd t

-- what passes the test is above 0
pub is_positive-is : (c : ℤ) → T (is_positive c) → pos 0 <ℤ c
is_positive-is (pos zero) t = absurd t
is_positive-is (pos (suc n)) t = positive_natural (suc n) (omega arith)
is_positive-is (negsuc n) t = absurd t

-- `a ≤ b` of constants, by computation: `constants (search quote depth 20) tt`
pub constants : {a b : ℤ} (s : Sides integers [] b a) → T (is_constant integers is_not_negative (norm integers (s.left.expr ⊕ minus s.right.expr))) → a ≤ℤ b
constants {a} {b} s t = ≤ℤ_from_sub a b (constant_sides integers integers_ring (λ z. pos 0 ≤ℤ z) is_not_negative is_not_negative-is s t)

-- `a < b` of constants
pub constants_below : {a b : ℤ} (s : Sides integers [] b a) → T (is_constant integers is_positive (norm integers (s.left.expr ⊕ minus s.right.expr))) → a <ℤ b
constants_below {a} {b} s t = <ℤ_from_sub a b (constant_sides integers integers_ring (λ z. pos 0 <ℤ z) is_positive is_positive-is s t)
