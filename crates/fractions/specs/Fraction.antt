-- The fractions: classes of pairs under cross-multiplication, with their sums, products, order and absolute value.
use Rattle.std.specs.Prelude.{◌≡◌, ℕ, zero, suc, ℤ, pos, Bool, cond, not}
use Rattle.std.proofs.Math.Bool.{Bool-set}
use mathlib.Core.Quot.{Quot, mk, Quot-set, lift, ind, sound}
use lib.Dec.{T}
use Rattle.fractions.specs.Pair.{Pair, Same, pair_add, pair_mul, pair_neg, pair_is_at_most, pair_ratio}
use Rattle.fractions.specs.SamePairs.{same_add_left, same_add_right, same_mul_left, same_mul_right, same_neg, at_most_left, at_most_right}

-- the fractions: pairs, where equality by cross-multiplication is made `≡`
abbrev pub Fraction : Type 0
Fraction = Quot Same

-- the fraction of a pair
abbrev pub of_pair : Pair → Fraction
of_pair r = mk r

-- an operation on pairs that respects equality, as one on fractions
unfoldable pub lift_both : (f : Pair → Pair → Pair) → ((x y z : Pair) → Same x y → Same (f x z) (f y z)) → ((z x y : Pair) → Same x y → Same (f z x) (f z y)) → Fraction → Fraction → Fraction
lift_both f left right x y =
    lift Quot-set (λ (a : Pair). lift {r = Same} Quot-set (λ (b : Pair). of_pair (f a b)) (λ b c h. sound (right a b c h)) y)
    (λ a b h. ind {β = λ z. lift {r = Same} Quot-set (λ (c : Pair). of_pair (f a c)) (λ c d k. sound (right a c d k)) z ≡ lift {r = Same} Quot-set (λ (c : Pair). of_pair (f b c)) (λ c d k. sound (right b c d k)) z}
    (λ z. Quot-set _ _) (λ c. sound (left a b c h)) y) x

infixl 6 ◌+ᶠ◌ ◌-ᶠ◌
infixl 7 ◌*ᶠ◌
-- the sum
unfoldable pub ◌+ᶠ◌ : Fraction → Fraction → Fraction
x +ᶠ y = lift_both pair_add same_add_left same_add_right x y

-- the product
unfoldable pub ◌*ᶠ◌ : Fraction → Fraction → Fraction
x *ᶠ y = lift_both pair_mul same_mul_left same_mul_right x y

-- the negation
unfoldable pub neg : Fraction → Fraction
neg x = lift {r = Same} Quot-set (λ (a : Pair). of_pair (pair_neg a)) (λ a b h. sound (same_neg a b h)) x

-- whether a fraction is at most another
unfoldable pub is_at_most : Fraction → Fraction → Bool
is_at_most x y =
    lift Bool-set (λ (a : Pair). lift {r = Same} Bool-set (λ (b : Pair). pair_is_at_most a b) (λ b c h. at_most_right a b c h) y)
    (λ a b h. ind {β = λ z. lift {r = Same} Bool-set (λ (c : Pair). pair_is_at_most a c) (λ c d k. at_most_right a c d k) z ≡ lift {r = Same} Bool-set (λ (c : Pair). pair_is_at_most b c) (λ c d k. at_most_right b c d k) z}
    (λ z. Bool-set _ _) (λ c. at_most_left a b c h) y) x

infix 5 ◌≤ᶠ◌ ◌<ᶠ◌
-- x is at most y
pub record ◌≤ᶠ◌ (x y : Fraction) : Type 0 where
  pub le : T (is_at_most x y)

-- x is below y: y is not at most x
pub record ◌<ᶠ◌ (x y : Fraction) : Type 0 where
  pub lt : T (not (is_at_most y x))

-- the difference
abbrev pub ◌-ᶠ◌ : Fraction → Fraction → Fraction
x -ᶠ y = x +ᶠ neg y

-- m / k, and m / 1 at k = 0
unfoldable pub ratio : ℤ → ℕ → Fraction
unfolding pair_ratio
ratio m k = of_pair (pair_ratio m k)

-- a whole number as a fraction
abbrev pub whole : ℤ → Fraction
whole m = ratio m 1

-- 0
abbrev pub zeroᶠ : Fraction
zeroᶠ = ratio (pos 0) 1

-- 1
abbrev pub oneᶠ : Fraction
oneᶠ = ratio (pos 1) 1

-- the absolute value
unfoldable pub abs : Fraction → Fraction
abs x = cond (is_at_most zeroᶠ x) x (neg x)

-- x to the power n
unfoldable pub pow : Fraction → ℕ → Fraction
pow x zero = oneᶠ
pow x (suc n) = x *ᶠ pow x n

-- x and y are at most r apart
pub record IsNear (x y r : Fraction) : Type 0 where
  pub low : x ≤ᶠ y +ᶠ r
  pub high : y ≤ᶠ x +ᶠ r
