-- The fractions are an ordered commutative ring.
use Rattle.std.specs.Prelude.{◌≡◌, ℕ, pos, ◌+◌, ◌*◌, ◌-◌, ◌<◌, ◌≤◌, refl, Bool, true, false, not, ◌⊎◌}
use Rattle.std.proofs.Common.{arith, ap, sym, ◌∙◌, subst, inl, inr}
use Rattle.std.proofs.Math.Nat.{mul-le-mul_left, mul-le-mul, le_antisymm}
use native.Mathlib.Decide.{dec_le}
use mathlib.Core.Quot.{Quot-set, ind, sound}
use lib.Dec.{T, T_prop, nleb→lt}
use Rattle.whole_numbers.specs.Algebra.{IsCommutativeRing, IsTotalOrder, IsCompatibleOrder}
use Rattle.fractions.specs.Pair.{Pair, Below, pair_add, pair_mul, pair_neg, pair_is_at_most, pair_ratio}
use Rattle.fractions.specs.Fraction.{Fraction, of_pair, lift_both, ◌+ᶠ◌, ◌-ᶠ◌, ◌*ᶠ◌, neg, is_at_most, ◌≤ᶠ◌, ratio, zeroᶠ, oneᶠ}
use Rattle.fractions.specs.SamePairs.{below_trans, at_most_out, at_most_in}

-- ---- to prove a fact of fractions from that fact of pairs
-- what holds of the fraction of each pair holds of each fraction, if it has one proof at most
pub by_pair : {P : Fraction → Type 0} → ((x : Fraction) → IsProp (P x)) → ((a : Pair) → P (of_pair a)) → (x : Fraction) → P x
by_pair {P} p f = ind {β = P} p f

-- two functions of a fraction that are equal at pairs are equal
equal1 : (f g : Fraction → Fraction) → ((a : Pair) → f (of_pair a) ≡ g (of_pair a)) → (x : Fraction) → f x ≡ g x
equal1 f g h = by_pair (λ x. Quot-set _ _) h

-- the same of two fractions
equal2 : (f g : Fraction → Fraction → Fraction) → ((a b : Pair) → f (of_pair a) (of_pair b) ≡ g (of_pair a) (of_pair b)) → (x y : Fraction) → f x y ≡ g x y
equal2 f g h = by_pair (λ x. hlevel Quot-set) (λ a. by_pair (λ y. Quot-set _ _) (h a))

-- and of three
equal3 : (f g : Fraction → Fraction → Fraction → Fraction) → ((a b c : Pair) → f (of_pair a) (of_pair b) (of_pair c) ≡ g (of_pair a) (of_pair b) (of_pair c)) → (x y z : Fraction) → f x y z ≡ g x y z
equal3 f g h = by_pair (λ x. hlevel Quot-set) (λ a. equal2 (f (of_pair a)) (g (of_pair a)) (h a))

-- ---- a commutative ring
-- sums may be regrouped
pub +ᶠ_assoc : (x y z : Fraction) → (x +ᶠ y) +ᶠ z ≡ x +ᶠ (y +ᶠ z)
unfolding ◌+ᶠ◌ lift_both
+ᶠ_assoc = equal3 (λ x y z. (x +ᶠ y) +ᶠ z) (λ x y z. x +ᶠ (y +ᶠ z)) (λ a b c. sound (omega arith))

-- sums may be turned round
pub +ᶠ_comm : (x y : Fraction) → x +ᶠ y ≡ y +ᶠ x
unfolding ◌+ᶠ◌ lift_both
+ᶠ_comm = equal2 (λ x y. x +ᶠ y) (λ x y. y +ᶠ x) (λ a b. sound (omega arith))

-- 0 adds nothing
pub +ᶠ_zero : (x : Fraction) → x +ᶠ zeroᶠ ≡ x
unfolding ◌+ᶠ◌ lift_both ratio pair_ratio
+ᶠ_zero = equal1 (λ x. x +ᶠ zeroᶠ) (λ x. x) (λ a. sound (omega arith))

-- a number less itself is 0
pub +ᶠ_neg : (x : Fraction) → x -ᶠ x ≡ zeroᶠ
unfolding ◌+ᶠ◌ lift_both ratio pair_ratio neg
+ᶠ_neg = equal1 (λ x. x -ᶠ x) (λ x. zeroᶠ) (λ a. sound (omega arith))

-- products may be regrouped
pub *ᶠ_assoc : (x y z : Fraction) → (x *ᶠ y) *ᶠ z ≡ x *ᶠ (y *ᶠ z)
unfolding ◌*ᶠ◌ lift_both
*ᶠ_assoc = equal3 (λ x y z. (x *ᶠ y) *ᶠ z) (λ x y z. x *ᶠ (y *ᶠ z)) (λ a b c. sound (omega arith))

-- products may be turned round
pub *ᶠ_comm : (x y : Fraction) → x *ᶠ y ≡ y *ᶠ x
unfolding ◌*ᶠ◌ lift_both
*ᶠ_comm = equal2 (λ x y. x *ᶠ y) (λ x y. y *ᶠ x) (λ a b. sound (omega arith))

-- 1 multiplies to nothing new
pub *ᶠ_one : (x : Fraction) → x *ᶠ oneᶠ ≡ x
unfolding ◌*ᶠ◌ lift_both ratio pair_ratio
*ᶠ_one = equal1 (λ x. x *ᶠ oneᶠ) (λ x. x) (λ a. sound (omega arith))

-- a sum times a number is the sum of the products
pub +ᶠ-*ᶠ : (x y z : Fraction) → (x +ᶠ y) *ᶠ z ≡ x *ᶠ z +ᶠ y *ᶠ z
unfolding ◌*ᶠ◌ ◌+ᶠ◌ lift_both
+ᶠ-*ᶠ = equal3 (λ x y z. (x +ᶠ y) *ᶠ z) (λ x y z. x *ᶠ z +ᶠ y *ᶠ z) (λ a b c. sound (omega arith))

-- a number times a sum is the sum of the products
pub *ᶠ-+ᶠ : (x y z : Fraction) → x *ᶠ (y +ᶠ z) ≡ x *ᶠ y +ᶠ x *ᶠ z
unfolding ◌*ᶠ◌ ◌+ᶠ◌ lift_both
*ᶠ-+ᶠ = equal3 (λ x y z. x *ᶠ (y +ᶠ z)) (λ x y z. x *ᶠ y +ᶠ x *ᶠ z) (λ a b c. sound (omega arith))

-- the negation of a factor is that of the product
pub neg-mul : (x y : Fraction) → neg x *ᶠ y ≡ neg (x *ᶠ y)
unfolding ◌*ᶠ◌ lift_both neg
neg-mul = equal2 (λ x y. neg x *ᶠ y) (λ x y. neg (x *ᶠ y)) (λ a b. sound (omega arith))

-- two negations of factors cancel
pub neg_mul-neg : (x y : Fraction) → neg x *ᶠ neg y ≡ x *ᶠ y
unfolding ◌*ᶠ◌ lift_both neg
neg_mul-neg = equal2 (λ x y. neg x *ᶠ neg y) (λ x y. x *ᶠ y) (λ a b. sound (omega arith))

-- two negations cancel
pub neg-neg : (x : Fraction) → neg (neg x) ≡ x
unfolding neg
neg-neg = equal1 (λ x. neg (neg x)) (λ x. x) (λ a. sound (omega arith))

-- 0 adds nothing, on the left
pub zero-+ᶠ : (x : Fraction) → zeroᶠ +ᶠ x ≡ x
zero-+ᶠ x = +ᶠ_comm zeroᶠ x ∙ +ᶠ_zero x

-- 0 times a number is 0
pub zero-*ᶠ : (x : Fraction) → zeroᶠ *ᶠ x ≡ zeroᶠ
unfolding ◌*ᶠ◌ lift_both ratio pair_ratio
zero-*ᶠ = equal1 (λ x. zeroᶠ *ᶠ x) (λ x. zeroᶠ) (λ a. sound (omega arith))

-- a number times 0 is 0
pub *ᶠ_zero : (x : Fraction) → x *ᶠ zeroᶠ ≡ zeroᶠ
*ᶠ_zero x = *ᶠ_comm x zeroᶠ ∙ zero-*ᶠ x

-- 1 multiplies to nothing new, on the left
pub one-*ᶠ : (x : Fraction) → oneᶠ *ᶠ x ≡ x
one-*ᶠ x = *ᶠ_comm oneᶠ x ∙ *ᶠ_one x

-- what is added and taken away leaves the number
pub add-sub_cancel : (x z : Fraction) → (x +ᶠ z) -ᶠ z ≡ x
add-sub_cancel x z = +ᶠ_assoc x z (neg z) ∙ ap (λ t. x +ᶠ t) (+ᶠ_neg z) ∙ +ᶠ_zero x

-- and the other way round
pub sub-add_cancel : (x z : Fraction) → (x -ᶠ z) +ᶠ z ≡ x
sub-add_cancel x z = +ᶠ_assoc x (neg z) z ∙ ap (λ t. x +ᶠ t) (+ᶠ_comm (neg z) z ∙ +ᶠ_neg z) ∙ +ᶠ_zero x

-- -0 is 0
pub neg-zero : neg zeroᶠ ≡ zeroᶠ
neg-zero = sym (+ᶠ_zero (neg zeroᶠ)) ∙ +ᶠ_comm (neg zeroᶠ) zeroᶠ ∙ +ᶠ_neg zeroᶠ

-- ---- the order
-- an order of two functions of a fraction that holds at pairs holds
fact1 : (f g : Fraction → Fraction) → ((a : Pair) → T (is_at_most (f (of_pair a)) (g (of_pair a)))) → (x : Fraction) → f x ≤ᶠ g x
fact1 f g h x = record { le = by_pair (λ x. T_prop (is_at_most (f x) (g x))) h x }

-- a fraction is at most itself
pub ≤ᶠ_refl : (x : Fraction) → x ≤ᶠ x
unfolding is_at_most
≤ᶠ_refl = fact1 (λ x. x) (λ x. x) (λ a. at_most_in a a (omega arith))

-- `≤ᶠ_trans`, on tests
trans' : (x y z : Fraction) → T (is_at_most x y) → T (is_at_most y z) → T (is_at_most x z)
unfolding is_at_most
trans' = by_pair (λ x. hlevel T_prop) (λ a. by_pair (λ y. hlevel T_prop) (λ b. by_pair (λ z. hlevel T_prop) (λ c h k. at_most_in a c (below_trans a b c (at_most_out a b h) (at_most_out b c k)))))

-- at most what is at most a third is at most the third
pub ≤ᶠ_trans : {x y z : Fraction} → x ≤ᶠ y → y ≤ᶠ z → x ≤ᶠ z
≤ᶠ_trans {x} {y} {z} h k = record { le = trans' x y z h.le k.le }

-- `≤ᶠ_antisym`, on tests
antisym' : (x y : Fraction) → T (is_at_most x y) → T (is_at_most y x) → x ≡ y
unfolding is_at_most
antisym' = by_pair (λ x. hlevel Quot-set) (λ a. by_pair (λ y. hlevel Quot-set) (λ b h k. sound (le_antisymm (at_most_out a b h) (at_most_out b a k))))

-- two fractions of which each is at most the other are equal
pub ≤ᶠ_antisym : {x y : Fraction} → x ≤ᶠ y → y ≤ᶠ x → x ≡ y
≤ᶠ_antisym {x} {y} h k = antisym' x y h.le k.le

-- a failed test turned round
not_below : (a b : Pair) → pair_is_at_most a b ≡ false → b.up * a.den + a.down * b.den < a.up * b.den + b.down * a.den
unfolding pair_is_at_most
not_below a b h = nleb→lt _ _ (subst (λ (t : Bool). T (not t)) (sym h) tt)

-- a failed test turned round, on fractions
pub either' : (x y : Fraction) → is_at_most x y ≡ false → T (is_at_most y x)
unfolding is_at_most
either' = by_pair (λ x. hlevel T_prop) (λ a. by_pair (λ y. hlevel T_prop) (λ b h. at_most_in b a (omega (arith, not_below a b h))))

-- of two fractions one is at most the other
pub ≤ᶠ_total : (x y : Fraction) → (x ≤ᶠ y) ⊎ (y ≤ᶠ x)
≤ᶠ_total x y = choose (is_at_most x y) refl
  where
    choose : (t : Bool) → is_at_most x y ≡ t → (x ≤ᶠ y) ⊎ (y ≤ᶠ x)
    choose true e = inl record { le = subst T (sym e) tt }
    choose false e = inr record { le = either' x y e }

-- two cases: x is at most y, or y is at most x
pub by_order : {P : Type 0} (x y : Fraction) → (x ≤ᶠ y → P) → (y ≤ᶠ x → P) → P
by_order {P} x y f g = elim (≤ᶠ_total x y) [ inl h ↦ f h | inr h ↦ g h ]

-- ---- sums and the order
-- `+ᶠ_mono_left`, on tests
add_mono' : (x y z : Fraction) → T (is_at_most x y) → T (is_at_most (x +ᶠ z) (y +ᶠ z))
unfolding is_at_most ◌+ᶠ◌ lift_both
add_mono' = by_pair (λ x. hlevel T_prop) (λ a. by_pair (λ y. hlevel T_prop) (λ b. by_pair (λ z. hlevel T_prop) (λ c h. at_most_in (pair_add a c) (pair_add b c) (omega (arith, mul-le-mul_left (c.den * c.den) (at_most_out a b h))))))

-- a sum grows with its left part
pub +ᶠ_mono_left : {x y : Fraction} (z : Fraction) → x ≤ᶠ y → x +ᶠ z ≤ᶠ y +ᶠ z
+ᶠ_mono_left {x} {y} z h = record { le = add_mono' x y z h.le }

-- a sum grows with its parts
pub +ᶠ_mono : {x y u v : Fraction} → x ≤ᶠ y → u ≤ᶠ v → x +ᶠ u ≤ᶠ y +ᶠ v
+ᶠ_mono {x} {y} {u} {v} h k = ≤ᶠ_trans (+ᶠ_mono_left u h) (rw (+ᶠ_comm y u, +ᶠ_comm y v) (+ᶠ_mono_left y k))

-- what is added on both sides may be dropped
pub +ᶠ_cancel : {x y : Fraction} (z : Fraction) → x +ᶠ z ≤ᶠ y +ᶠ z → x ≤ᶠ y
+ᶠ_cancel {x} {y} z h = rw (add-sub_cancel x z, add-sub_cancel y z) at (+ᶠ_mono_left (neg z) h)

-- `neg_anti`, on tests
neg_mono' : (x y : Fraction) → T (is_at_most x y) → T (is_at_most (neg y) (neg x))
unfolding is_at_most neg
neg_mono' = by_pair (λ x. hlevel T_prop) (λ a. by_pair (λ y. hlevel T_prop) (λ b h. at_most_in (pair_neg b) (pair_neg a) (omega (arith, at_most_out a b h))))

-- negation turns the order round
pub neg_anti : {x y : Fraction} → x ≤ᶠ y → neg y ≤ᶠ neg x
neg_anti {x} {y} h = record { le = neg_mono' x y h.le }

-- a difference grows with its left part and falls with its right one
pub -ᶠ_mono : {x y u v : Fraction} → x ≤ᶠ y → u ≤ᶠ v → x -ᶠ v ≤ᶠ y -ᶠ u
-ᶠ_mono h k = +ᶠ_mono h (neg_anti k)

-- a fraction is at most another if their difference is not negative
pub ≤ᶠ_from_sub : {x y : Fraction} → zeroᶠ ≤ᶠ y -ᶠ x → x ≤ᶠ y
≤ᶠ_from_sub {x} {y} h = rw (zero-+ᶠ x, sub-add_cancel y x) at (+ᶠ_mono_left x h)

-- and the difference is not negative then
pub not_negative_sub : (x y : Fraction) → x ≤ᶠ y → zeroᶠ ≤ᶠ y -ᶠ x
not_negative_sub x y h = rw (+ᶠ_neg x) at (+ᶠ_mono_left (neg x) h)

-- a sum of what is not negative is not negative
pub not_negative_sum : (x y : Fraction) → zeroᶠ ≤ᶠ x → zeroᶠ ≤ᶠ y → zeroᶠ ≤ᶠ x +ᶠ y
not_negative_sum x y h k = rw (+ᶠ_zero zeroᶠ) at (+ᶠ_mono h k)

-- the negation of what is not positive is not negative
pub not_negative_neg : {x : Fraction} → x ≤ᶠ zeroᶠ → zeroᶠ ≤ᶠ neg x
not_negative_neg {x} h = subst (λ t. t ≤ᶠ neg x) neg-zero (neg_anti h)

-- ---- products and the order
-- 0 <= z and x <= y, on pairs
mul_mono_pairs : (a b c : Pair) → c.down ≤ c.up → Below a b → Below (pair_mul a c) (pair_mul b c)
mul_mono_pairs a b c n h =
    let k : ℕ = c.up - c.down in
    let e : c.up ≡ c.down + k = omega arith in
    let m : (a.up * b.den + b.down * a.den) * (k * c.den) ≤ (b.up * a.den + a.down * b.den) * (k * c.den) = omega (arith, mul-le-mul_left (k * c.den) h) in
    rw e (omega arith)

-- `*ᶠ_mono_left`, on tests
mul_mono' : (x y z : Fraction) → T (is_at_most zeroᶠ z) → T (is_at_most x y) → T (is_at_most (x *ᶠ z) (y *ᶠ z))
unfolding is_at_most ◌*ᶠ◌ lift_both ratio pair_ratio
mul_mono' = by_pair (λ x. hlevel T_prop) (λ a. by_pair (λ y. hlevel T_prop) (λ b. by_pair (λ z. hlevel T_prop) (λ c n h. at_most_in (pair_mul a c) (pair_mul b c) (mul_mono_pairs a b c (omega (arith, at_most_out (pair_ratio (pos 0) 1) c n)) (at_most_out a b h)))))

-- a product by what is not negative grows with its left factor
pub *ᶠ_mono_left : {x y z : Fraction} → zeroᶠ ≤ᶠ z → x ≤ᶠ y → x *ᶠ z ≤ᶠ y *ᶠ z
*ᶠ_mono_left {x} {y} {z} n h = record { le = mul_mono' x y z n.le h.le }

-- z <= 0 and x <= y, on pairs
mul_anti_pairs : (a b c : Pair) → c.up ≤ c.down → Below a b → Below (pair_mul b c) (pair_mul a c)
mul_anti_pairs a b c n h =
    let k : ℕ = c.down - c.up in
    let e : c.down ≡ c.up + k = omega arith in
    let m : (a.up * b.den + b.down * a.den) * (k * c.den) ≤ (b.up * a.den + a.down * b.den) * (k * c.den) = omega (arith, mul-le-mul_left (k * c.den) h) in
    rw e (omega arith)

-- `*ᶠ_anti_left`, on tests
mul_anti' : (x y z : Fraction) → T (is_at_most z zeroᶠ) → T (is_at_most x y) → T (is_at_most (y *ᶠ z) (x *ᶠ z))
unfolding is_at_most ◌*ᶠ◌ lift_both ratio pair_ratio
mul_anti' = by_pair (λ x. hlevel T_prop) (λ a. by_pair (λ y. hlevel T_prop) (λ b. by_pair (λ z. hlevel T_prop) (λ c n h. at_most_in (pair_mul b c) (pair_mul a c) (mul_anti_pairs a b c (omega (arith, at_most_out c (pair_ratio (pos 0) 1) n)) (at_most_out a b h)))))

-- a product by what is not positive falls as its left factor grows
pub *ᶠ_anti_left : {x y z : Fraction} → z ≤ᶠ zeroᶠ → x ≤ᶠ y → y *ᶠ z ≤ᶠ x *ᶠ z
*ᶠ_anti_left {x} {y} {z} n h = record { le = mul_anti' x y z n.le h.le }

-- a square is not negative
pub not_negative_square : (x : Fraction) → zeroᶠ ≤ᶠ x *ᶠ x
not_negative_square x = by_order zeroᶠ x (λ n. rw (zero-*ᶠ x) at (*ᶠ_mono_left n n)) (λ n. rw (zero-*ᶠ x) at (*ᶠ_anti_left n n))

-- a product of what is not negative is not negative
pub not_negative_product : (x y : Fraction) → zeroᶠ ≤ᶠ x → zeroᶠ ≤ᶠ y → zeroᶠ ≤ᶠ x *ᶠ y
not_negative_product x y h k = rw (zero-*ᶠ y) at (*ᶠ_mono_left k h)

-- a product of what is not negative grows with its factors
pub *ᶠ_mono : {x y u v : Fraction} → zeroᶠ ≤ᶠ y → zeroᶠ ≤ᶠ u → x ≤ᶠ y → u ≤ᶠ v → x *ᶠ u ≤ᶠ y *ᶠ v
*ᶠ_mono {x} {y} {u} {v} n m h k = ≤ᶠ_trans (*ᶠ_mono_left m h) (rw (*ᶠ_comm y u, *ᶠ_comm y v) (*ᶠ_mono_left n k))

-- of two naturals, the one with the smaller square is the smaller
square_order : (s t : ℕ) → s * s ≤ t * t → s ≤ t
square_order s t h = elim (dec_le s t) [ yes k ↦ k | no k ↦ absurd (clash s t h (omega arith)) ]
  where
    clash : (s t : ℕ) → s * s ≤ t * t → t < s → ⊥
    clash s t h k = omega (arith, mul-le-mul k k)

-- the same on pairs that are not negative
root_pairs : (a b : Pair) → a.down ≤ a.up → b.down ≤ b.up → Below (pair_mul a a) (pair_mul b b) → Below a b
root_pairs a b n m h =
    let k : ℕ = a.up - a.down in
    let j : ℕ = b.up - b.down in
    let e : a.up ≡ a.down + k = omega arith in
    let f : b.up ≡ b.down + j = omega arith in
    let g : (k * b.den) * (k * b.den) ≤ (j * a.den) * (j * a.den) = let g' = rw (e, f) at h in omega arith in
    let i : k * b.den ≤ j * a.den = square_order _ _ g in
    omega (arith, ap (λ (t : ℕ). t * b.den) e, ap (λ (t : ℕ). t * a.den) f)

-- `root_mono`, on tests
root_mono' : (x y : Fraction) → T (is_at_most zeroᶠ x) → T (is_at_most zeroᶠ y) → T (is_at_most (x *ᶠ x) (y *ᶠ y)) → T (is_at_most x y)
unfolding is_at_most ◌*ᶠ◌ lift_both ratio pair_ratio
root_mono' = by_pair (λ x. hlevel T_prop) (λ a. by_pair (λ y. hlevel T_prop) (λ b n m h. at_most_in a b (root_pairs a b (omega (arith, at_most_out (pair_ratio (pos 0) 1) a n)) (omega (arith, at_most_out (pair_ratio (pos 0) 1) b m)) (at_most_out (pair_mul a a) (pair_mul b b) h))))

-- of two fractions that are not negative, the one with the smaller square is the smaller
pub root_mono : {x y : Fraction} → zeroᶠ ≤ᶠ x → zeroᶠ ≤ᶠ y → x *ᶠ x ≤ᶠ y *ᶠ y → x ≤ᶠ y
root_mono {x} {y} n m h = record { le = root_mono' x y n.le m.le h.le }

-- ---- the corners of a box
-- x between l and h: x y is at most what bounds l y and h y from above
pub mul_below : {l h x c : Fraction} (y : Fraction) → l ≤ᶠ x → x ≤ᶠ h → l *ᶠ y ≤ᶠ c → h *ᶠ y ≤ᶠ c → x *ᶠ y ≤ᶠ c
mul_below {l} {h} {x} {c} y p q u v = by_order zeroᶠ y (λ n. ≤ᶠ_trans (*ᶠ_mono_left n q) v) (λ n. ≤ᶠ_trans (*ᶠ_anti_left n p) u)

-- and at least what bounds them from below
pub mul_above : {l h x c : Fraction} (y : Fraction) → l ≤ᶠ x → x ≤ᶠ h → c ≤ᶠ l *ᶠ y → c ≤ᶠ h *ᶠ y → c ≤ᶠ x *ᶠ y
mul_above {l} {h} {x} {c} y p q u v = by_order zeroᶠ y (λ n. ≤ᶠ_trans u (*ᶠ_mono_left n p)) (λ n. ≤ᶠ_trans v (*ᶠ_anti_left n q))

-- a product over a box is at most what bounds the four corners from above
pub corners_below : {l h m k x y c : Fraction} → l ≤ᶠ x → x ≤ᶠ h → m ≤ᶠ y → y ≤ᶠ k → l *ᶠ m ≤ᶠ c → l *ᶠ k ≤ᶠ c → h *ᶠ m ≤ᶠ c → h *ᶠ k ≤ᶠ c → x *ᶠ y ≤ᶠ c
corners_below {l} {h} {m} {k} {x} {y} {c} p q r s lm lk hm hk =
    let along : (e : Fraction) → m *ᶠ e ≤ᶠ c → k *ᶠ e ≤ᶠ c → y *ᶠ e ≤ᶠ c = λ e u v. mul_below e r s u v in
    let turned : (e f : Fraction) → e *ᶠ f ≤ᶠ c → f *ᶠ e ≤ᶠ c = λ e f u. rw (*ᶠ_comm f e) u in
    mul_below y p q (turned y l (along l (turned l m lm) (turned l k lk))) (turned y h (along h (turned h m hm) (turned h k hk)))

-- and at least what bounds them from below
pub corners_above : {l h m k x y c : Fraction} → l ≤ᶠ x → x ≤ᶠ h → m ≤ᶠ y → y ≤ᶠ k → c ≤ᶠ l *ᶠ m → c ≤ᶠ l *ᶠ k → c ≤ᶠ h *ᶠ m → c ≤ᶠ h *ᶠ k → c ≤ᶠ x *ᶠ y
corners_above {l} {h} {m} {k} {x} {y} {c} p q r s lm lk hm hk =
    let along : (e : Fraction) → c ≤ᶠ m *ᶠ e → c ≤ᶠ k *ᶠ e → c ≤ᶠ y *ᶠ e = λ e u v. mul_above e r s u v in
    let turned : (e f : Fraction) → c ≤ᶠ e *ᶠ f → c ≤ᶠ f *ᶠ e = λ e f u. rw (*ᶠ_comm f e) u in
    mul_above y p q (turned y l (along l (turned l m lm) (turned l k lk))) (turned y h (along h (turned h m hm) (turned h k hk)))

-- ---- together
-- the fractions obey the laws of a commutative ring
pub fractions_are_ring : IsCommutativeRing zeroᶠ oneᶠ ◌+ᶠ◌ ◌*ᶠ◌ neg
fractions_are_ring = record { add_assoc = +ᶠ_assoc; add_comm = +ᶠ_comm; add_zero = +ᶠ_zero; add_neg = +ᶠ_neg; mul_assoc = *ᶠ_assoc; mul_comm = *ᶠ_comm; mul_one = *ᶠ_one; mul_add = *ᶠ-+ᶠ }

-- their order is total
pub fractions_are_ordered : IsTotalOrder ◌≤ᶠ◌
fractions_are_ordered = record { refl = ≤ᶠ_refl; trans = λ x y z h k. ≤ᶠ_trans h k; antisym = λ x y h k. ≤ᶠ_antisym h k; total = ≤ᶠ_total }

-- sums and products keep it, as in an ordered ring
pub order_is_compatible : IsCompatibleOrder zeroᶠ ◌+ᶠ◌ ◌*ᶠ◌ ◌≤ᶠ◌
order_is_compatible = record { add_mono = λ x y z h. +ᶠ_mono_left z h; mul_mono = λ x y z n h. *ᶠ_mono_left n h }
