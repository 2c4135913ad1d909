-- The integers as an ordered commutative ring: the laws that std lacks. std has `+ℤ_assoc`, `+ℤ_comm`, `+ℤ_idr`, `+ℤ_invr`, `*ℤ_comm`, `*ℤ-one`, `zero-*ℤ` and `*ℤ-zero` (`Rattle.std.proofs.Math.IntN`).
use Rattle.std.proofs.Common.{◌≡◌, ℕ, zero, suc, ◌+◌, ◌*◌, ◌<◌, ◌≤◌, ◌⊎◌, arith, sym, ap, mul-pos, inl, inr, ℤ, pos, negsuc, neg_ℤ, ◌+ℤ◌, ◌-ℤ◌, ◌*ℤ◌, ◌≤ℤ◌, ◌<ℤ◌}
use Rattle.std.proofs.Math.IntN.{*ℤ_comm, +ℤ_assoc, +ℤ_comm, +ℤ_idr}
use Rattle.std.proofs.lemmas.Int.{ints, by_lt_z}
use lib.Dec.{T, leb, leb→le}
use borrow.Author.Differences.{up, down, same_in, product_is, sum_is_lem, neg_is}
use Rattle.whole_numbers.specs.Algebra.{IsCommutativeRing, IsTotalOrder, IsStrictOrder}

-- ---- a commutative ring
-- an equation from that of its two parts
by_parts : (a b : ℤ) → up a ≡ up b → down a ≡ down b → a ≡ b
by_parts a b p q = same_in a b (λ i. p i + sym q i)

-- products may be regrouped
pub *ℤ_assoc : (a b c : ℤ) → (a *ℤ b) *ℤ c ≡ a *ℤ (b *ℤ c)
*ℤ_assoc a b c =
    let ab = product_is a b in
    let bc = product_is b c in
    let by = λ (k : ℕ) (m n : ℕ) (e : m ≡ n). ap (λ x. x * k) e in
    let left = product_is (a *ℤ b) c in
    let right = product_is a (b *ℤ c) in
    let ups : up ((a *ℤ b) *ℤ c) ≡ up (a *ℤ (b *ℤ c)) =
    omega (arith, by (up c) _ _ ab.0, by (down c) _ _ ab.1, by (up a) _ _ bc.0, by (down a) _ _ bc.1) in
    let downs : down ((a *ℤ b) *ℤ c) ≡ down (a *ℤ (b *ℤ c)) =
    omega (arith, by (down c) _ _ ab.0, by (up c) _ _ ab.1, by (down a) _ _ bc.0, by (up a) _ _ bc.1) in
    by_parts _ _ ups downs

-- a product by a sum is the sum of the products
pub *ℤ-+ℤ : (a b c : ℤ) → a *ℤ (b +ℤ c) ≡ a *ℤ b +ℤ a *ℤ c
*ℤ-+ℤ a b c =
    let s = sum_is_lem b c in
    let u = ap (λ (x : ℕ). x * up a) s in
    let d = ap (λ (x : ℕ). x * down a) s in
    omega (arith, ints, u, d)

-- the integers obey the laws of a commutative ring
pub integers_are_ring : IsCommutativeRing (pos 0) (pos 1) ◌+ℤ◌ ◌*ℤ◌ neg_ℤ
integers_are_ring = record {
  add_assoc = +ℤ_assoc;
  add_comm = +ℤ_comm;
  add_zero = +ℤ_idr;
  add_neg = opposite;
  mul_assoc = *ℤ_assoc;
  mul_comm = *ℤ_comm;
  mul_one = by_one;
  mul_add = *ℤ-+ℤ;
}
  where
    opposite : (a : ℤ) → a +ℤ neg_ℤ a ≡ pos 0
    opposite a = omega (arith, ints)

    by_one : (a : ℤ) → a *ℤ pos 1 ≡ a
    by_one a = omega (arith, ints)

-- the negation of a factor is that of the product
pub neg_ℤ-*ℤ : (a b : ℤ) → neg_ℤ a *ℤ b ≡ neg_ℤ (a *ℤ b)
neg_ℤ-*ℤ a b =
    let n = neg_is a in
    let u = ap (λ (x : ℕ). x * up b) n.0 in
    let v = ap (λ (x : ℕ). x * down b) n.0 in
    let s = ap (λ (x : ℕ). x * up b) n.1 in
    let t = ap (λ (x : ℕ). x * down b) n.1 in
    omega (arith, ints, u, v, s, t)

-- ---- the order
-- a number is at most itself
pub ≤ℤ_refl : (a : ℤ) → a ≤ℤ a
≤ℤ_refl a = omega (arith, ints)

-- at most what is at most a third is at most the third
pub ≤ℤ_trans : (a b c : ℤ) → a ≤ℤ b → b ≤ℤ c → a ≤ℤ c
≤ℤ_trans a b c p q = omega (arith, ints)

-- two numbers of which each is at most the other are equal
pub ≤ℤ_antisym : (a b : ℤ) → a ≤ℤ b → b ≤ℤ a → a ≡ b
≤ℤ_antisym a b p q = omega (arith, ints)

-- of two numbers one is at most the other
pub ≤ℤ_total : (a b : ℤ) → (a ≤ℤ b) ⊎ (b ≤ℤ a)
≤ℤ_total a b = by_lt_z a b (λ l. inl (weaken a b l)) (λ h. inr h)
  where
    weaken : (a b : ℤ) → a <ℤ b → a ≤ℤ b
    weaken a b l = omega (arith, ints)

-- below, equal or above
pub <ℤ_trichotomy : (a b : ℤ) → (a <ℤ b) ⊎ ((a ≡ b) ⊎ (b <ℤ a))
<ℤ_trichotomy a b = by_lt_z a b (λ l. inl l) (λ h. by_lt_z b a (λ l. inr (inr l)) (λ k. inr (inl (≤ℤ_antisym a b k h))))

-- the order is total
pub integers_are_ordered : IsTotalOrder ◌≤ℤ◌
integers_are_ordered = record { refl = ≤ℤ_refl; trans = ≤ℤ_trans; antisym = ≤ℤ_antisym; total = ≤ℤ_total }

-- `<ℤ` is the order without equality
pub integers_are_strictly_ordered : IsStrictOrder ◌≤ℤ◌ ◌<ℤ◌
integers_are_strictly_ordered = record { irrefl = never; trans = through; at_most = weaken; not_at_most = λ a b. (clash a b, λ n. turned a b n); below_trans = left; trans_below = right; trichotomy = <ℤ_trichotomy }
  where
    never : (a : ℤ) → a <ℤ a → ⊥
    never a l = omega (arith, ints)

    through : (a b c : ℤ) → a <ℤ b → b <ℤ c → a <ℤ c
    through a b c l k = omega (arith, ints)

    weaken : (a b : ℤ) → a <ℤ b → a ≤ℤ b
    weaken a b l = omega (arith, ints)

    clash : (a b : ℤ) → a <ℤ b → b ≤ℤ a → ⊥
    clash a b l h = omega (arith, ints)

    turned : (a b : ℤ) → (b ≤ℤ a → ⊥) → a <ℤ b
    turned a b n = by_lt_z a b (λ l. l) (λ h. absurd (n h))

    left : (a b c : ℤ) → a <ℤ b → b ≤ℤ c → a <ℤ c
    left a b c l h = omega (arith, ints)

    right : (a b c : ℤ) → a ≤ℤ b → b <ℤ c → a <ℤ c
    right a b c h l = omega (arith, ints)

-- ---- what is not negative
-- a number is at most another if their difference is not negative
pub ≤ℤ_from_sub : (a b : ℤ) → pos 0 ≤ℤ (b -ℤ a) → a ≤ℤ b
≤ℤ_from_sub a b h = omega (arith, ints)

-- and the difference is not negative then
pub not_negative_sub : (a b : ℤ) → a ≤ℤ b → pos 0 ≤ℤ (b -ℤ a)
not_negative_sub a b h = omega (arith, ints)

-- a sum of what is not negative is not negative
pub not_negative_sum : (a b : ℤ) → pos 0 ≤ℤ a → pos 0 ≤ℤ b → pos 0 ≤ℤ (a +ℤ b)
not_negative_sum a b p q = omega (arith, ints)

-- a natural is not negative
pub not_negative_natural : (n : ℕ) → pos 0 ≤ℤ pos n
not_negative_natural n = omega (arith, ints)

-- a product of what is not negative is not negative
pub not_negative_product : (a b : ℤ) → pos 0 ≤ℤ a → pos 0 ≤ℤ b → pos 0 ≤ℤ (a *ℤ b)
not_negative_product (pos m) (pos n) p q = not_negative_natural (m * n)
not_negative_product (pos m) (negsuc n) p q = absurd q.le
not_negative_product (negsuc m) b p q = absurd p.le

-- a square is not negative
pub not_negative_square : (a : ℤ) → pos 0 ≤ℤ (a *ℤ a)
not_negative_square (pos m) = not_negative_natural (m * m)
not_negative_square (negsuc m) = not_negative_natural (suc m * suc m)

-- ---- what is above 0
-- a number is below another if their difference is above 0
pub <ℤ_from_sub : (a b : ℤ) → pos 0 <ℤ (b -ℤ a) → a <ℤ b
<ℤ_from_sub a b h = omega (arith, ints)

-- and the difference is above 0 then
pub positive_sub : (a b : ℤ) → a <ℤ b → pos 0 <ℤ (b -ℤ a)
positive_sub a b h = omega (arith, ints)

-- a natural above 0 is above 0
pub positive_natural : (n : ℕ) → 0 < n → pos 0 <ℤ pos n
positive_natural n h = omega (arith, ints)

-- the same of a numeral, where the test computes
pub positive_numeral : (n : ℕ) → T (leb 1 n) → pos 0 <ℤ pos n
positive_numeral n t = let h : 1 ≤ n = leb→le 1 n t in omega (arith, ints)

-- a product of what is above 0 is above 0
pub positive_product : (a b : ℤ) → pos 0 <ℤ a → pos 0 <ℤ b → pos 0 <ℤ (a *ℤ b)
positive_product (pos zero) b p q = absurd p.lt
positive_product (pos (suc m)) (pos zero) p q = absurd q.lt
positive_product (pos (suc m)) (pos (suc n)) p q = positive_natural (suc m * suc n) (mul-pos (omega arith) (omega arith))
positive_product (pos (suc m)) (negsuc n) p q = absurd q.lt
positive_product (negsuc m) b p q = absurd p.lt

-- a sum is above 0 where its left part is, and its right part is not negative
pub positive_sum_left : (a b : ℤ) → pos 0 <ℤ a → pos 0 ≤ℤ b → pos 0 <ℤ (a +ℤ b)
positive_sum_left a b p q = omega (arith, ints)

-- and the other way round
pub positive_sum_right : (a b : ℤ) → pos 0 ≤ℤ a → pos 0 <ℤ b → pos 0 <ℤ (a +ℤ b)
positive_sum_right a b p q = omega (arith, ints)
