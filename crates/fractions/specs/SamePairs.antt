-- What the fractions rest on: each operation on pairs answers equal fractions at equal fractions, so that it is one on fractions. Proofs alone, which the definitions need.
use Rattle.std.specs.Prelude.{◌≡◌, ℕ, zero, suc, ℤ, pos, ◌+◌, ◌-◌, ◌*◌, ◌<◌, ◌≤◌, ◌-ℤ◌, ◌≤ℤ◌, refl, Bool, true, false, ◌⊎◌}
use Rattle.std.proofs.Common.{arith, ap, sym, inl, inr}
use Rattle.std.proofs.lemmas.Int.{ints}
use Rattle.std.proofs.Math.Nat.{le_of_mul-le-mul_left, mul-pos, mul-le-mul_left, mul-lt-mul_of_pos_right, lt_of_mul-lt-mul_right}
use native.Mathlib.Nat.{add-zero, zero-add, mul-zero, zero-mul}
use borrow.Author.Differences.{up, down}
use lib.Dec.{T, leb→le, le→leb}
use Rattle.whole_numbers.proofs.Divisions.{floor_parts_low, floor_parts_high}
use Rattle.fractions.specs.Pair.{Pair, Same, Below, pair_add, pair_mul, pair_neg, pair_is_at_most, pair_floor, pair_over, pair_inverse}

-- ---- sums and products
-- sums of equal fractions and a third are equal
pub same_add_left : (x y z : Pair) → Same x y → Same (pair_add x z) (pair_add y z)
same_add_left x y z h = omega (arith, ap (λ (n : ℕ). n * (z.den * z.den)) h)

-- and with the third on the left
pub same_add_right : (z x y : Pair) → Same x y → Same (pair_add z x) (pair_add z y)
same_add_right z x y h = omega (arith, ap (λ (n : ℕ). n * (z.den * z.den)) h)

-- products of equal fractions and a third are equal
pub same_mul_left : (x y z : Pair) → Same x y → Same (pair_mul x z) (pair_mul y z)
same_mul_left x y z h = omega (arith, ap (λ (n : ℕ). n * (z.up * z.den)) h, ap (λ (n : ℕ). n * (z.down * z.den)) h)

-- and with the third on the left
pub same_mul_right : (z x y : Pair) → Same x y → Same (pair_mul z x) (pair_mul z y)
same_mul_right z x y h = omega (arith, ap (λ (n : ℕ). n * (z.up * z.den)) h, ap (λ (n : ℕ). n * (z.down * z.den)) h)

-- negations of equal fractions are equal
pub same_neg : (x y : Pair) → Same x y → Same (pair_neg x) (pair_neg y)
same_neg x y h = omega arith

-- at most what is at most a third is at most the third
pub below_trans : (x y z : Pair) → Below x y → Below y z → Below x z
below_trans x y z h k =
    let p : (x.up * y.den + y.down * x.den) * z.den ≤ (y.up * x.den + x.down * y.den) * z.den = omega (arith, mul-le-mul_left z.den h) in
    let q : (y.up * z.den + z.down * y.den) * x.den ≤ (z.up * y.den + y.down * z.den) * x.den = omega (arith, mul-le-mul_left x.den k) in
    let r : y.den * (x.up * z.den + z.down * x.den) ≤ y.den * (z.up * x.den + x.down * z.den) = omega arith in
    le_of_mul-le-mul_left r y.positive

-- ---- the order
-- two tests that pass together are equal
same_bools : (p q : Bool) → (T p → T q) → (T q → T p) → p ≡ q
same_bools true true f g = refl
same_bools true false f g = absurd (f tt)
same_bools false true f g = absurd (g tt)
same_bools false false f g = refl

-- what the test says
pub at_most_out : (x y : Pair) → T (pair_is_at_most x y) → Below x y
unfolding pair_is_at_most
at_most_out x y t = leb→le _ _ t

-- and that it says so
pub at_most_in : (x y : Pair) → Below x y → T (pair_is_at_most x y)
unfolding pair_is_at_most
at_most_in x y h = le→leb _ _ h

-- equal fractions are at most each other
same_below : (x y : Pair) → Same x y → Below x y
same_below x y h = omega arith

-- both ways
same_above : (x y : Pair) → Same x y → Below y x
same_above x y h = omega arith

-- the test respects equality on the left
pub at_most_left : (x y z : Pair) → Same x y → pair_is_at_most x z ≡ pair_is_at_most y z
at_most_left x y z h = same_bools (pair_is_at_most x z) (pair_is_at_most y z)
    (λ t. at_most_in y z (below_trans y x z (same_above x y h) (at_most_out x z t)))
    (λ t. at_most_in x z (below_trans x y z (same_below x y h) (at_most_out y z t)))

-- and on the right
pub at_most_right : (z x y : Pair) → Same x y → pair_is_at_most z x ≡ pair_is_at_most z y
at_most_right z x y h = same_bools (pair_is_at_most z x) (pair_is_at_most z y)
    (λ t. at_most_in z y (below_trans z x y (at_most_out z x t) (same_below x y h)))
    (λ t. at_most_in z x (below_trans z y x (at_most_out z y t) (same_above x y h)))

-- ---- the floor
-- the floor is at most the pair
pub pair_floor_low : (x : Pair) → up (pair_floor x) * x.den + x.down ≤ x.up + down (pair_floor x) * x.den
unfolding pair_floor
pair_floor_low x = let z : ℤ = pos x.up -ℤ pos x.down in omega (arith, ints, floor_parts_low z x.den x.positive)

-- and the pair is below the next whole number
pub pair_floor_high : (x : Pair) → x.up + down (pair_floor x) * x.den < up (pair_floor x) * x.den + x.den + x.down
unfolding pair_floor
pair_floor_high x = let z : ℤ = pos x.up -ℤ pos x.down in omega (arith, ints, floor_parts_high z x.den x.positive)

-- equal fractions have floors that are at most each other
floor_below : (a b : Pair) → Same a b → pair_floor a ≤ℤ pair_floor b
floor_below a b h =
    let f : ℤ = pair_floor a in
    let g : ℤ = pair_floor b in
    let p : (up f * a.den + a.down) * b.den ≤ (a.up + down f * a.den) * b.den = omega (arith, mul-le-mul_left b.den (pair_floor_low a)) in
    let q : (b.up + down g * b.den) * a.den < (up g * b.den + b.den + b.down) * a.den = mul-lt-mul_of_pos_right (pair_floor_high b) a.positive in
    let r : (up f + down g) * (a.den * b.den) < (up g + down f + 1) * (a.den * b.den) = omega arith in
    let s : up f + down g < up g + down f + 1 = lt_of_mul-lt-mul_right (a.den * b.den) r in
    omega (arith, ints)

-- equal fractions have one floor
pub pair_floor_same : (a b : Pair) → Same a b → pair_floor a ≡ pair_floor b
pair_floor_same a b h =
    let p = floor_below a b h in
    let q = floor_below b a (omega arith) in
    omega (arith, ints)

-- ---- the inverse
-- both p and q, of one sign
one_sign : (n k p q : ℕ) → 0 < n → 0 < k → p * k ≡ q * n → n * p * (q * q + (1 - q)) ≡ k * q * (p * p + (1 - p))
one_sign n k zero zero h j e = omega arith
one_sign n k zero (suc q) h j e = absurd (omega (arith, mul-pos {m = suc q} {n = n} (omega arith) h))
one_sign n k (suc p) zero h j e = absurd (omega (arith, mul-pos {m = suc p} {n = k} (omega arith) j))
one_sign n k (suc p) (suc q) h j e =
    let f : 1 - suc q ≡ 0 = omega arith in
    let g : 1 - suc p ≡ 0 = omega arith in
    rw (f, g) (omega (arith, ap (λ (t : ℕ). t * (suc p * suc q)) e))

-- a factor of 0 is 0, where the other is not
zero_product : (a b : ℕ) → 0 < b → a * b ≡ 0 → a ≡ 0
zero_product zero b h e = refl
zero_product (suc a) b h e = absurd (omega (arith, mul-pos {m = suc a} {n = b} (omega arith) h))

-- inverses of equal fractions that are not negative are equal
at_zero : (n k p q : ℕ) → 0 < n → 0 < k → p * k ≡ q * n → Same (pair_over n p 0) (pair_over k q 0)
at_zero n k p q h j e = let f = one_sign n k p q h j e in simp (add-zero, mul-zero, zero-mul) f

-- inverses of equal fractions that are not positive are equal
zero_at : (n k m l : ℕ) → 0 < n → 0 < k → m * k ≡ l * n → Same (pair_over n 0 m) (pair_over k 0 l)
zero_at n k m l h j e = let f = sym (one_sign n k m l h j e) in simp (mul-zero, zero-mul, zero-add) f

-- inverses of equal fractions are equal, whatever their signs
over_same : (n k p m q l : ℕ) → 0 < n → 0 < k → (p ≡ 0) ⊎ (m ≡ 0) → (q ≡ 0) ⊎ (l ≡ 0) → p * k + l * n ≡ q * n + m * k → Same (pair_over n p m) (pair_over k q l)
over_same n k p m q l h j (inl a) (inl b) e = rw (a, b) (zero_at n k m l h j (let e' = rw (a, b) at e in omega arith))
over_same n k p m q l h j (inl a) (inr b) e =
    let e' = rw (a, b) at e in
    let c : q ≡ 0 = zero_product q n h (omega arith) in
    let d : m ≡ 0 = zero_product m k j (omega arith) in
    rw (a, b, c, d) (omega arith)
over_same n k p m q l h j (inr a) (inl b) e =
    let e' = rw (a, b) at e in
    let c : p ≡ 0 = zero_product p k j (omega arith) in
    let d : l ≡ 0 = zero_product l n h (omega arith) in
    rw (a, b, c, d) (omega arith)
over_same n k p m q l h j (inr a) (inr b) e = rw (a, b) (at_zero n k p q h j (let e' = rw (a, b) at e in omega arith))

-- of two differences of naturals one is 0
one_zero : (u d : ℕ) → (u - d ≡ 0) ⊎ (d - u ≡ 0)
one_zero u d = grind arith

-- inverses of equal fractions are equal
pub same_inverse : (x y : Pair) → Same x y → Same (pair_inverse x) (pair_inverse y)
unfolding pair_inverse
same_inverse x y e = over_same x.den y.den _ _ _ _ x.positive y.positive (one_zero x.up x.down) (one_zero y.up y.down) (parts x.up x.down x.den y.up y.down y.den e)
  where
    parts : (u d n v c k : ℕ) → u * k + c * n ≡ v * n + d * k → (u - d) * k + (c - v) * n ≡ (v - c) * n + (d - u) * k
    parts u d n v c k e =
        let f : u + (d - u) ≡ d + (u - d) = omega arith in
        let g : v + (c - v) ≡ c + (v - c) = omega arith in
        omega (arith, ap (λ (t : ℕ). t * k) f, ap (λ (t : ℕ). t * n) g)
