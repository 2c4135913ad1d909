-- The strict order: a fraction is below another where that is not at most it.
use Rattle.std.specs.Prelude.{◌≡◌, ◌≢◌, ℕ, ℤ, pos, ◌<◌, Bool, true, false, not, refl, ◌⊎◌, ◌*ℤ◌, ◌≤ℤ◌, ◌<ℤ◌}
use Rattle.std.proofs.Common.{arith, ap, sym, subst, ◌∙◌, inl, inr}
use Rattle.std.proofs.lemmas.Int.{ints, by_lt_z}
use lib.Dec.{T, lit≤, leb, leb→le}
use Rattle.whole_numbers.specs.Algebra.{IsStrictOrder}
use Rattle.fractions.specs.Pair.{pair_is_at_most, pair_ratio}
use Rattle.fractions.specs.Fraction.{Fraction, ◌+ᶠ◌, ◌-ᶠ◌, ◌*ᶠ◌, neg, is_at_most, ◌≤ᶠ◌, ◌<ᶠ◌, ratio, zeroᶠ, oneᶠ}
use Rattle.fractions.specs.Inverse.{inverse}
use Rattle.fractions.proofs.Laws.{≤ᶠ_refl, ≤ᶠ_trans, ≤ᶠ_antisym, by_order, +ᶠ_zero, zero-+ᶠ, +ᶠ_neg, +ᶠ_comm, +ᶠ_mono_left, +ᶠ_cancel, sub-add_cancel, neg-neg, neg_anti, *ᶠ_comm, *ᶠ_assoc, *ᶠ_one, zero-*ᶠ, *ᶠ_mono_left}
use Rattle.fractions.proofs.Ratios.{ratio_at_most, ratio_at_most_out, ratio_plain_out}
use Rattle.fractions.proofs.Inverses.{*ᶠ_inverse}

-- a test that does not pass fails
pub fails : (t : Bool) → (T t → ⊥) → T (not t)
fails true n = n tt
fails false n = tt

-- ---- below and at most
-- what is not at least is below
pub <ᶠ_from_not : (x y : Fraction) → (y ≤ᶠ x → ⊥) → x <ᶠ y
<ᶠ_from_not x y n = record { lt = fails (is_at_most y x) (λ t. n record { le = t }) }

-- what is below is not at least
pub <ᶠ_not : {x y : Fraction} → x <ᶠ y → y ≤ᶠ x → ⊥
<ᶠ_not {x} {y} l h = clash (is_at_most y x) l.lt h.le
  where
    clash : (t : Bool) → T (not t) → T t → ⊥
    clash true n t = n
    clash false n t = t

-- what is below is at most
pub <ᶠ_at_most : {x y : Fraction} → x <ᶠ y → x ≤ᶠ y
<ᶠ_at_most {x} {y} l = by_order x y (λ h. h) (λ h. absurd (<ᶠ_not l h))

-- at most, or above
pub ≤ᶠ_or_<ᶠ : (x y : Fraction) → (x ≤ᶠ y) ⊎ (y <ᶠ x)
≤ᶠ_or_<ᶠ x y = choose (is_at_most x y) refl
  where
    choose : (t : Bool) → is_at_most x y ≡ t → (x ≤ᶠ y) ⊎ (y <ᶠ x)
    choose true e = inl record { le = subst T (sym e) tt }
    choose false e = inr record { lt = subst (λ t. T (not t)) (sym e) tt }

-- no fraction is below itself
pub <ᶠ_irrefl : (x : Fraction) → x <ᶠ x → ⊥
<ᶠ_irrefl x l = <ᶠ_not l (≤ᶠ_refl x)

-- below what is at most a third is below the third
pub <ᶠ_≤ᶠ_trans : {x y z : Fraction} → x <ᶠ y → y ≤ᶠ z → x <ᶠ z
<ᶠ_≤ᶠ_trans {x} {y} {z} l h = <ᶠ_from_not x z (λ k. <ᶠ_not l (≤ᶠ_trans h k))

-- at most what is below a third is below the third
pub ≤ᶠ_<ᶠ_trans : {x y z : Fraction} → x ≤ᶠ y → y <ᶠ z → x <ᶠ z
≤ᶠ_<ᶠ_trans {x} {y} {z} h l = <ᶠ_from_not x z (λ k. <ᶠ_not l (≤ᶠ_trans k h))

-- below what is below a third is below the third
pub <ᶠ_trans : {x y z : Fraction} → x <ᶠ y → y <ᶠ z → x <ᶠ z
<ᶠ_trans l k = <ᶠ_≤ᶠ_trans l (<ᶠ_at_most k)

-- below, equal or above
pub <ᶠ_trichotomy : (x y : Fraction) → (x <ᶠ y) ⊎ ((x ≡ y) ⊎ (y <ᶠ x))
<ᶠ_trichotomy x y = elim (≤ᶠ_or_<ᶠ x y) [ inl h ↦ elim (≤ᶠ_or_<ᶠ y x) [ inl k ↦ inr (inl (≤ᶠ_antisym h k)) | inr l ↦ inl l ] | inr l ↦ inr (inr l) ]

-- `<ᶠ` is the order without equality
pub fractions_are_strictly_ordered : IsStrictOrder ◌≤ᶠ◌ ◌<ᶠ◌
fractions_are_strictly_ordered = record {
  irrefl = <ᶠ_irrefl;
  trans = λ x y z l k. <ᶠ_trans l k;
  at_most = λ x y l. <ᶠ_at_most l;
  not_at_most = λ x y. (λ l. <ᶠ_not l, <ᶠ_from_not x y);
  below_trans = λ x y z l h. <ᶠ_≤ᶠ_trans l h;
  trans_below = λ x y z h l. ≤ᶠ_<ᶠ_trans h l;
  trichotomy = <ᶠ_trichotomy;
}

-- ---- sums
-- what is added on both sides keeps the order
pub +ᶠ_strict_left : {x y : Fraction} (z : Fraction) → x <ᶠ y → x +ᶠ z <ᶠ y +ᶠ z
+ᶠ_strict_left {x} {y} z l = <ᶠ_from_not (x +ᶠ z) (y +ᶠ z) (λ h. <ᶠ_not l (+ᶠ_cancel z h))

-- a sum grows with its parts, and strictly with the left one
pub +ᶠ_strict : {x y u v : Fraction} → x <ᶠ y → u ≤ᶠ v → x +ᶠ u <ᶠ y +ᶠ v
+ᶠ_strict {x} {y} {u} {v} l h = <ᶠ_≤ᶠ_trans (+ᶠ_strict_left u l) (rw (+ᶠ_comm y u, +ᶠ_comm y v) (+ᶠ_mono_left y h))

-- negation turns the order round
pub neg_strict : {x y : Fraction} → x <ᶠ y → neg y <ᶠ neg x
neg_strict {x} {y} l = <ᶠ_from_not (neg y) (neg x) (λ h. <ᶠ_not l (rw (neg-neg x, neg-neg y) at (neg_anti h)))

-- a fraction is below another if their difference is above 0
pub <ᶠ_from_sub : {x y : Fraction} → zeroᶠ <ᶠ y -ᶠ x → x <ᶠ y
<ᶠ_from_sub {x} {y} l = <ᶠ_from_not x y (λ h. <ᶠ_not l (rw (+ᶠ_neg x) at (+ᶠ_mono_left (neg x) h)))

-- and the difference is above 0 then
pub positive_sub : (x y : Fraction) → x <ᶠ y → zeroᶠ <ᶠ y -ᶠ x
positive_sub x y l = <ᶠ_from_not zeroᶠ (y -ᶠ x) (λ h. <ᶠ_not l (rw (sub-add_cancel y x, zero-+ᶠ x) at (+ᶠ_mono_left x h)))

-- a sum is above 0 where its left part is, and its right part is not negative
pub positive_sum_left : (x y : Fraction) → zeroᶠ <ᶠ x → zeroᶠ ≤ᶠ y → zeroᶠ <ᶠ x +ᶠ y
positive_sum_left x y l h = subst (λ t. t <ᶠ x +ᶠ y) (+ᶠ_zero zeroᶠ) (+ᶠ_strict l h)

-- and the other way round
pub positive_sum_right : (x y : Fraction) → zeroᶠ ≤ᶠ x → zeroᶠ <ᶠ y → zeroᶠ <ᶠ x +ᶠ y
positive_sum_right x y h l = subst (λ t. zeroᶠ <ᶠ t) (+ᶠ_comm y x) (positive_sum_left y x l h)

-- ---- products and inverses
-- 0 is below 1
pub zero_below_one : zeroᶠ <ᶠ oneᶠ
unfolding is_at_most pair_is_at_most ratio pair_ratio
zero_below_one = record { lt = tt }

-- what is above 0 is not 0
pub positive_apart : {x : Fraction} → zeroᶠ <ᶠ x → x ≢ zeroᶠ
positive_apart {x} l = λ e. <ᶠ_irrefl zeroᶠ (subst (λ t. zeroᶠ <ᶠ t) e l)

-- the inverse of what is above 0 is above 0
pub positive_inverse : (x : Fraction) → zeroᶠ <ᶠ x → zeroᶠ <ᶠ inverse x
positive_inverse x l = <ᶠ_from_not zeroᶠ (inverse x) (λ h. <ᶠ_not zero_below_one (rw (*ᶠ_comm (inverse x) x, *ᶠ_inverse x (positive_apart l), zero-*ᶠ x) at (*ᶠ_mono_left (<ᶠ_at_most l) h)))

-- what is multiplied by a number and by its inverse stays as it is
pub *ᶠ-inverse_cancel : (y x : Fraction) → x ≢ zeroᶠ → (y *ᶠ x) *ᶠ inverse x ≡ y
*ᶠ-inverse_cancel y x n = *ᶠ_assoc y x (inverse x) ∙ ap (λ t. y *ᶠ t) (*ᶠ_inverse x n) ∙ *ᶠ_one y

-- a factor above 0 on both sides may be dropped
pub *ᶠ_cancel : {x y z : Fraction} → zeroᶠ <ᶠ z → x *ᶠ z ≤ᶠ y *ᶠ z → x ≤ᶠ y
*ᶠ_cancel {x} {y} {z} l h = rw (*ᶠ-inverse_cancel x z (positive_apart l), *ᶠ-inverse_cancel y z (positive_apart l)) at (*ᶠ_mono_left (<ᶠ_at_most (positive_inverse z l)) h)

-- a product by what is above 0 grows strictly with its left factor
pub *ᶠ_strict_left : {x y z : Fraction} → zeroᶠ <ᶠ z → x <ᶠ y → x *ᶠ z <ᶠ y *ᶠ z
*ᶠ_strict_left {x} {y} {z} p l = <ᶠ_from_not (x *ᶠ z) (y *ᶠ z) (λ h. <ᶠ_not l (*ᶠ_cancel p h))

-- a product of what is above 0 is above 0
pub positive_product : (x y : Fraction) → zeroᶠ <ᶠ x → zeroᶠ <ᶠ y → zeroᶠ <ᶠ x *ᶠ y
positive_product x y p q = subst (λ t. t <ᶠ x *ᶠ y) (zero-*ᶠ y) (*ᶠ_strict_left q p)

-- ---- ratios
-- ratios are strictly ordered by cross-multiplication
pub ratio_below : (m n : ℤ) (k l : ℕ) → 0 < k → 0 < l → (m *ℤ pos l) <ℤ (n *ℤ pos k) → ratio m k <ᶠ ratio n l
ratio_below m n k l p q h = <ᶠ_from_not (ratio m k) (ratio n l) (λ j. clash (m *ℤ pos l) (n *ℤ pos k) h (ratio_at_most_out n m l k q p j))
  where
    clash : (a b : ℤ) → a <ℤ b → b ≤ℤ a → ⊥
    clash a b l h = omega (arith, ints)

-- and only so
pub ratio_below_out : (m n : ℤ) (k l : ℕ) → 0 < k → 0 < l → ratio m k <ᶠ ratio n l → (m *ℤ pos l) <ℤ (n *ℤ pos k)
ratio_below_out m n k l p q h = by_lt_z (m *ℤ pos l) (n *ℤ pos k) (λ j. j) (λ j. absurd (<ᶠ_not h (ratio_at_most n m l k q p j)))

-- whole numbers are strictly ordered as they were
pub whole_below_out : (m n : ℤ) → ratio m 1 <ᶠ ratio n 1 → m <ℤ n
whole_below_out m n h = let k = ratio_below_out m n 1 1 (lit≤ tt) (lit≤ tt) h in omega (arith, ints)

-- what is above 0, over a number, is above 0
pub positive_constant : (m : ℤ) (k : ℕ) → pos 0 <ℤ m → zeroᶠ <ᶠ ratio m k
positive_constant m k h = <ᶠ_from_not zeroᶠ (ratio m k) (λ j. clash m (ratio_plain_out m k j) h)
  where
    clash : (m : ℤ) → m ≤ℤ pos 0 → pos 0 <ℤ m → ⊥
    clash m h l = omega (arith, ints)

-- a natural above 0 over a number is above 0
pub positive_ratio : (m k : ℕ) → 0 < m → zeroᶠ <ᶠ ratio (pos m) k
positive_ratio m k h = positive_constant (pos m) k (omega (arith, ints))

-- the same of a numeral, where the test computes
pub positive_numeral : (m k : ℕ) → T (leb 1 m) → zeroᶠ <ᶠ ratio (pos m) k
positive_numeral m k t = positive_ratio m k (leb→le 1 m t)
