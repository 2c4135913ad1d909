-- A fraction is a whole number over a positive one: the laws of `ratio`.
use Rattle.std.specs.Prelude.{◌≡◌, ℕ, ℤ, pos, ◌+◌, ◌*◌, ◌-◌, ◌<◌, ◌≤◌, refl, ◌+ℤ◌, ◌-ℤ◌, ◌*ℤ◌, neg_ℤ, ◌≤ℤ◌}
use Rattle.std.proofs.Common.{arith, ap, subst}
use Rattle.std.proofs.lemmas.Int.{ints}
use Rattle.std.proofs.Math.Nat.{mul-pos, mul-le-mul_left}
use borrow.Author.Differences.{up, down, sum_is_lem, product_is, neg_is, le_out}
use mathlib.Core.Quot.{sound}
use Rattle.fractions.specs.Pair.{Pair, Below, pair_add, pair_mul, pair_ratio}
use Rattle.fractions.specs.Fraction.{Fraction, of_pair, lift_both, ◌+ᶠ◌, ◌*ᶠ◌, neg, is_at_most, ◌≤ᶠ◌, ratio, zeroᶠ}
use Rattle.fractions.specs.SamePairs.{at_most_out, at_most_in}
use Rattle.fractions.proofs.Laws.{by_pair, ≤ᶠ_refl, ≤ᶠ_antisym}

-- a positive denominator stays as it is
pub positive_den : (k : ℕ) → 0 < k → k + (1 - k) ≡ k
positive_den k h = omega arith

-- sums over one denominator
pub ratio-add : (m n : ℤ) (k : ℕ) → ratio m k +ᶠ ratio n k ≡ ratio (m +ℤ n) k
unfolding ◌+ᶠ◌ lift_both ratio pair_ratio
ratio-add m n k = sound (omega (arith, ap (λ (t : ℕ). t * ((k + (1 - k)) * (k + (1 - k)))) (sum_is_lem m n)))

-- products of ratios
pub ratio-mul : (m n : ℤ) (k l : ℕ) → 0 < k → 0 < l → ratio m k *ᶠ ratio n l ≡ ratio (m *ℤ n) (k * l)
unfolding ◌*ᶠ◌ lift_both ratio pair_ratio
ratio-mul m n k l p q = sound (rw (positive_den k p, positive_den l q, positive_den (k * l) (mul-pos p q)) (omega (arith, ap (λ (t : ℕ). t * (k * l)) (product_is m n).0, ap (λ (t : ℕ). t * (k * l)) (product_is m n).1)))

-- the negation of a ratio
pub neg-ratio : (m : ℤ) (k : ℕ) → neg (ratio m k) ≡ ratio (neg_ℤ m) k
unfolding neg ratio pair_ratio
neg-ratio m k = sound (omega (arith, ap (λ (t : ℕ). t * (k + (1 - k))) (neg_is m).0, ap (λ (t : ℕ). t * (k + (1 - k))) (neg_is m).1))

-- 0 over any denominator is 0
pub ratio-zero : (k : ℕ) → ratio (pos 0) k ≡ zeroᶠ
unfolding ratio pair_ratio
ratio-zero k = sound (omega arith)

-- the parts of a sum over two denominators
sum_ups : (m n : ℤ) (k l : ℕ) → up (m *ℤ pos l +ℤ n *ℤ pos k) + down m * l + down n * k ≡ down (m *ℤ pos l +ℤ n *ℤ pos k) + up m * l + up n * k
sum_ups m n k l = omega (arith, ints)

-- sums over two denominators, which may be 0 as written
pub ratio-add_any : (m n : ℤ) (k l : ℕ) → ratio m k +ᶠ ratio n l ≡ ratio (m *ℤ pos (l + (1 - l)) +ℤ n *ℤ pos (k + (1 - k))) ((k + (1 - k)) * (l + (1 - l)))
unfolding ◌+ᶠ◌ lift_both ratio pair_ratio
ratio-add_any m n k l = positive_parts (k + (1 - k)) (l + (1 - l)) (omega arith) (omega arith)
  where
    positive_parts : (d e : ℕ) (p : 0 < d) (q : 0 < e) → of_pair (pair_add record { up = up m; down = down m; den = d; positive = p } record { up = up n; down = down n; den = e; positive = q }) ≡ of_pair (pair_ratio (m *ℤ pos e +ℤ n *ℤ pos d) (d * e))
    positive_parts d e p q = sound (rw (positive_den (d * e) (mul-pos p q)) (omega (arith, ap (λ (t : ℕ). t * (d * e)) (sum_ups m n d e))))

-- products over two denominators, which may be 0 as written
pub ratio-mul_any : (m n : ℤ) (k l : ℕ) → ratio m k *ᶠ ratio n l ≡ ratio (m *ℤ n) ((k + (1 - k)) * (l + (1 - l)))
unfolding ◌*ᶠ◌ lift_both ratio pair_ratio
ratio-mul_any m n k l = positive_parts (k + (1 - k)) (l + (1 - l)) (omega arith) (omega arith)
  where
    positive_parts : (d e : ℕ) (p : 0 < d) (q : 0 < e) → of_pair (pair_mul record { up = up m; down = down m; den = d; positive = p } record { up = up n; down = down n; den = e; positive = q }) ≡ of_pair (pair_ratio (m *ℤ n) (d * e))
    positive_parts d e p q = sound (rw (positive_den (d * e) (mul-pos p q)) (omega (arith, ap (λ (t : ℕ). t * (d * e)) (product_is m n).0, ap (λ (t : ℕ). t * (d * e)) (product_is m n).1)))

-- sums of ratios
pub ratio-add_cross : (m n : ℤ) (k l : ℕ) → 0 < k → 0 < l → ratio m k +ᶠ ratio n l ≡ ratio (m *ℤ pos l +ℤ n *ℤ pos k) (k * l)
ratio-add_cross m n k l p q = rw (positive_den k p, positive_den l q) at (ratio-add_any m n k l)

-- ---- the order
-- m / k grows with m
pub ratio_mono : {m n : ℤ} (k : ℕ) → m ≤ℤ n → ratio m k ≤ᶠ ratio n k
unfolding is_at_most ratio pair_ratio
ratio_mono {m} {n} k h = record { le = at_most_in (pair_ratio m k) (pair_ratio n k) (omega (arith, mul-le-mul_left (k + (1 - k)) (le_out m n h))) }

-- ratios are ordered by cross-multiplication
pub ratio_at_most : (m n : ℤ) (k l : ℕ) → 0 < k → 0 < l → (m *ℤ pos l) ≤ℤ (n *ℤ pos k) → ratio m k ≤ᶠ ratio n l
unfolding is_at_most ratio pair_ratio
ratio_at_most m n k l p q h = record { le = at_most_in (pair_ratio m k) (pair_ratio n l) (rw (positive_den k p, positive_den l q) (omega (arith, ints, h))) }

-- and only so
pub ratio_at_most_out : (m n : ℤ) (k l : ℕ) → 0 < k → 0 < l → ratio m k ≤ᶠ ratio n l → (m *ℤ pos l) ≤ℤ (n *ℤ pos k)
unfolding is_at_most ratio pair_ratio
ratio_at_most_out m n k l p q h =
    let b : Below (pair_ratio m k) (pair_ratio n l) = at_most_out (pair_ratio m k) (pair_ratio n l) h.le in
    let c : up m * l + down n * k ≤ up n * k + down m * l = rw (positive_den k p, positive_den l q) at b in
    omega (arith, ints)

-- ratios are equal by cross-multiplication
pub ratio-same : (m n : ℤ) (k l : ℕ) → 0 < k → 0 < l → m *ℤ pos l ≡ n *ℤ pos k → ratio m k ≡ ratio n l
ratio-same m n k l p q h = ≤ᶠ_antisym (ratio_at_most m n k l p q (omega (arith, ints))) (ratio_at_most n m l k q p (omega (arith, ints)))

-- 1 / k falls as k grows
pub ratio_anti : (k l : ℕ) → 0 < k → k ≤ l → ratio (pos 1) l ≤ᶠ ratio (pos 1) k
ratio_anti k l p h = ratio_at_most (pos 1) (pos 1) l k (omega arith) p (omega (arith, ints))

-- a ratio that is at most 0 has a numerator that is
pub ratio_plain_out : (m : ℤ) (k : ℕ) → ratio m k ≤ᶠ zeroᶠ → m ≤ℤ pos 0
unfolding is_at_most ratio pair_ratio
ratio_plain_out m k h = let b : Below (pair_ratio m k) (pair_ratio (pos 0) 1) = at_most_out (pair_ratio m k) (pair_ratio (pos 0) 1) h.le in omega (arith, ints)

-- what is not negative, over a number, is not negative
pub not_negative_constant : (m : ℤ) (k : ℕ) → pos 0 ≤ℤ m → zeroᶠ ≤ᶠ ratio m k
not_negative_constant m k h = subst (λ t. t ≤ᶠ ratio m k) (ratio-zero k) (ratio_mono k h)

-- a natural over a number is not negative
pub not_negative_ratio : (m k : ℕ) → zeroᶠ ≤ᶠ ratio (pos m) k
unfolding is_at_most ratio pair_ratio
not_negative_ratio m k = record { le = at_most_in (pair_ratio (pos 0) 1) (pair_ratio (pos m) k) (omega arith) }

-- ---- every fraction is a ratio
-- the fraction of a pair is the ratio of its parts
pair-ratio : (a : Pair) → ratio (pos a.up -ℤ pos a.down) a.den ≡ of_pair a
unfolding ratio pair_ratio
pair-ratio a = let z : ℤ = pos a.up -ℤ pos a.down in sound (rw (positive_den a.den a.positive) (scaled z a.up a.down a.den refl))
  where
    scaled : (z : ℤ) (u d n : ℕ) → z ≡ pos u -ℤ pos d → up z * n + d * n ≡ u * n + down z * n
    scaled z u d n e = let f : up z + d ≡ u + down z = omega (arith, ints) in omega (arith, ap (λ (t : ℕ). t * n) f)

-- what holds of each whole number over a positive one holds of each fraction
pub by_ratio : {P : Fraction → Type 0} → ((x : Fraction) → IsProp (P x)) → ((m : ℤ) (k : ℕ) → 0 < k → P (ratio m k)) → (x : Fraction) → P x
by_ratio {P} p f = by_pair p (λ a. subst P (pair-ratio a) (f (pos a.up -ℤ pos a.down) a.den a.positive))

-- and only so
pub ratio-same_out : (m n : ℤ) (k l : ℕ) → 0 < k → 0 < l → ratio m k ≡ ratio n l → m *ℤ pos l ≡ n *ℤ pos k
ratio-same_out m n k l p q e =
    let h = ratio_at_most_out m n k l p q (subst (λ x. ratio m k ≤ᶠ x) e (≤ᶠ_refl (ratio m k))) in
    let j = ratio_at_most_out n m l k q p (subst (λ x. x ≤ᶠ ratio m k) e (≤ᶠ_refl (ratio m k))) in
    omega (arith, ints)
