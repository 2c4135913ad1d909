-- What characterizes `floor_of` and `ceil_of`: bounds, that these determine them, and the order.
use Rattle.std.proofs.Common.{◌≡◌, ◌≢◌, ℕ, ◌+◌, ◌-◌, ◌*◌, ◌^◌, ◌<◌, ◌≤◌, ◌↔◌, [], ◌∷◌, refl, sym, ap, subst, unsigned_abs, ◌∙◌, arith, mul-pos, ℤ, pos, negsuc, neg_ℤ, ◌+ℤ◌, ◌-ℤ◌, ◌*ℤ◌, ◌≤ℤ◌, ◌<ℤ◌}
use Rattle.std.proofs.lemmas.Int.{ints, by_lt_z}
use Rattle.std.proofs.Math.Nat.{div-mul-le_self, lt-div-mul-add}
use Rattle.std.specs.Int.{int_shr, int_div_euclid, int_rem_euclid}
use Rattle.std.proofs.lemmas.Nat.{pow_pos, pow-add}
use borrow.Author.Differences.{up, down}
use Rattle.whole_numbers.proofs.Integers.{not_negative_natural, ≤ℤ_trans, ≤ℤ_antisym, neg_ℤ-*ℤ}
use Rattle.whole_numbers.proofs.Quote.{quote, identity}
use Rattle.whole_numbers.proofs.Products.{*ℤ_mono_left}
use Rattle.whole_numbers.specs.Rounding.{floor_of, ceil_of}

-- the floor times k is at most z, in the parts of the integers
pub floor_parts_low : (z : ℤ) (k : ℕ) → 0 < k → up (floor_of z k) * k + down z ≤ up z + down (floor_of z k) * k
floor_parts_low (pos a) k p = omega (arith, div-mul-le_self a k)
floor_parts_low (negsuc a) k p = omega (arith, lt-div-mul-add {a = a} p)

-- and z is below the next multiple
pub floor_parts_high : (z : ℤ) (k : ℕ) → 0 < k → up z + down (floor_of z k) * k < up (floor_of z k) * k + k + down z
floor_parts_high (pos a) k p = omega (arith, lt-div-mul-add {a = a} p)
floor_parts_high (negsuc a) k p = omega (arith, div-mul-le_self a k)

-- the floor times d is at most z
pub floor_of_low : (z : ℤ) (d : ℕ) → 0 < d → (floor_of z d *ℤ pos d) ≤ℤ z
floor_of_low z d h = omega (arith, ints, floor_parts_low z d h)

-- and z is below the next multiple
pub floor_of_high : (z : ℤ) (d : ℕ) → 0 < d → z <ℤ (floor_of z d *ℤ pos d +ℤ pos d)
floor_of_high z d h = omega (arith, ints, floor_parts_high z d h)

-- one more times d
pub next_multiple : (r : ℤ) (d : ℕ) → (r +ℤ pos 1) *ℤ pos d ≡ r *ℤ pos d +ℤ pos d
next_multiple r d = identity (r ∷ pos d ∷ []) (search quote depth 12) tt

-- a multiple that is below the next multiple is at most this one
pub multiple_below : (q r : ℤ) (d : ℕ) → (q *ℤ pos d) <ℤ (r *ℤ pos d +ℤ pos d) → q ≤ℤ r
multiple_below q r d h =
    by_lt_z r q
    (λ (l : r <ℤ q).
    let next : (r +ℤ pos 1) ≤ℤ q = omega (arith, ints) in
    let far = *ℤ_mono_left (r +ℤ pos 1) q (pos d) (not_negative_natural d) next in
    let same = next_multiple r d in
    absurd (omega (arith, ints)))
    (λ le. le)

-- ---- uniqueness and the order
-- q is at most the quotient exactly where q * d is at most z
pub at_most-floor_of : (q z : ℤ) (d : ℕ) → 0 < d → (q ≤ℤ floor_of z d) ↔ ((q *ℤ pos d) ≤ℤ z)
at_most-floor_of q z d h = (
  (λ p. ≤ℤ_trans _ (floor_of z d *ℤ pos d) _ (*ℤ_mono_left q (floor_of z d) (pos d) (not_negative_natural d) p) (floor_of_low z d h)),
  (λ p. let top = floor_of_high z d h in multiple_below q (floor_of z d) d (omega (arith, ints))),
)

-- only the floor has these bounds
pub floor_of-unique : (z q : ℤ) (d : ℕ) → 0 < d → (q *ℤ pos d) ≤ℤ z → z <ℤ (q *ℤ pos d +ℤ pos d) → q ≡ floor_of z d
floor_of-unique z q d h low high =
    let bottom = floor_of_low z d h in
    ≤ℤ_antisym q (floor_of z d) ((at_most-floor_of q z d h).1 low) (multiple_below (floor_of z d) q d (omega (arith, ints)))

-- the floor grows with z
pub floor_of_mono : (y z : ℤ) (d : ℕ) → 0 < d → y ≤ℤ z → floor_of y d ≤ℤ floor_of z d
floor_of_mono y z d h p = (at_most-floor_of (floor_of y d) z d h).1 (≤ℤ_trans _ y _ (floor_of_low y d h) p)

-- the floor of a multiple is exact
pub floor_of-multiple : (q : ℤ) (d : ℕ) → 0 < d → floor_of (q *ℤ pos d) d ≡ q
floor_of-multiple q d h = sym (floor_of-unique (q *ℤ pos d) q d h (omega (arith, ints)) (omega (arith, ints)))

-- a multiple that is added passes through the floor
pub floor_of-add : (z q : ℤ) (d : ℕ) → 0 < d → floor_of (z +ℤ q *ℤ pos d) d ≡ floor_of z d +ℤ q
floor_of-add z q d h =
    let f = floor_of z d in
    let low = floor_of_low z d h in
    let high = floor_of_high z d h in
    let e = sum_times f q d in
    sym (floor_of-unique (z +ℤ q *ℤ pos d) (f +ℤ q) d h (omega (arith, ints)) (omega (arith, ints)))
  where
    sum_times : (f q : ℤ) (d : ℕ) → (f +ℤ q) *ℤ pos d ≡ f *ℤ pos d +ℤ q *ℤ pos d
    sum_times f q d = identity (f ∷ q ∷ pos d ∷ []) (search quote depth 12) tt

-- to divide twice is to divide by the product
pub floor_of-twice : (z : ℤ) (d e : ℕ) → 0 < d → 0 < e → floor_of (floor_of z d) e ≡ floor_of z (d * e)
floor_of-twice z d e h k =
    let f = floor_of z d in
    let q = floor_of f e in
    let regroup = times_twice q (pos d) (pos e) in
    let scaled = *ℤ_mono_left (q *ℤ pos e) f (pos d) (not_negative_natural d) (floor_of_low f e k) in
    let below : (f +ℤ pos 1) ≤ℤ (q *ℤ pos e +ℤ pos e) = (let t = floor_of_high f e k in omega (arith, ints)) in
    let above = *ℤ_mono_left (f +ℤ pos 1) (q *ℤ pos e +ℤ pos e) (pos d) (not_negative_natural d) below in
    let spread = times_next q (pos d) (pos e) in
    let next = next_multiple f d in
    let low = floor_of_low z d h in
    let high = floor_of_high z d h in
    let small : (q *ℤ (pos d *ℤ pos e)) ≤ℤ z = omega (arith, ints) in
    let large : z <ℤ (q *ℤ (pos d *ℤ pos e) +ℤ pos d *ℤ pos e) = omega (arith, ints) in
    floor_of-unique z q (d * e) (mul-pos h k) small large
  where
    times_twice : (q d e : ℤ) → (q *ℤ e) *ℤ d ≡ q *ℤ (d *ℤ e)
    times_twice q d e = identity (q ∷ d ∷ e ∷ []) (search quote depth 12) tt

    times_next : (q d e : ℤ) → (q *ℤ e +ℤ e) *ℤ d ≡ q *ℤ (d *ℤ e) +ℤ d *ℤ e
    times_next q d e = identity (q ∷ d ∷ e ∷ []) (search quote depth 12) tt

-- ---- rounded up
-- z is at most the ceiling times d
pub ceil_of_high : (z : ℤ) (d : ℕ) → 0 < d → z ≤ℤ (ceil_of z d *ℤ pos d)
ceil_of_high z d h =
    let f = floor_of (neg_ℤ z) d in
    let p = floor_of_low (neg_ℤ z) d h in
    let e = neg_ℤ-*ℤ f (pos d) in
    omega (arith, ints)

-- which is less than d above z
pub ceil_of_low : (z : ℤ) (d : ℕ) → 0 < d → (ceil_of z d *ℤ pos d) <ℤ (z +ℤ pos d)
ceil_of_low z d h =
    let f = floor_of (neg_ℤ z) d in
    let p = floor_of_high (neg_ℤ z) d h in
    let e = neg_ℤ-*ℤ f (pos d) in
    omega (arith, ints)

-- the ceiling times k is at least z, in the parts of the integers
pub ceil_parts_high : (z : ℤ) (k : ℕ) → 0 < k → up z + down (ceil_of z k) * k ≤ up (ceil_of z k) * k + down z
ceil_parts_high z k p = let h = ceil_of_high z k p in omega (arith, ints)

-- and less than k above it
pub ceil_parts_low : (z : ℤ) (k : ℕ) → 0 < k → up (ceil_of z k) * k + down z < up z + k + down (ceil_of z k) * k
ceil_parts_low z k p = let h = ceil_of_low z k p in omega (arith, ints)

-- the ceiling is at most q exactly where z is at most q * d
pub ceil_of-at_most : (z q : ℤ) (d : ℕ) → 0 < d → (ceil_of z d ≤ℤ q) ↔ (z ≤ℤ (q *ℤ pos d))
ceil_of-at_most z q d h = (
  (λ p. ≤ℤ_trans _ (ceil_of z d *ℤ pos d) _ (ceil_of_high z d h) (*ℤ_mono_left (ceil_of z d) q (pos d) (not_negative_natural d) p)),
  (λ p. let low = ceil_of_low z d h in multiple_below (ceil_of z d) q d (omega (arith, ints))),
)

-- the ceiling grows with z
pub ceil_of_mono : (y z : ℤ) (d : ℕ) → 0 < d → y ≤ℤ z → ceil_of y d ≤ℤ ceil_of z d
ceil_of_mono y z d h p = (ceil_of-at_most y (ceil_of z d) d h).1 (≤ℤ_trans _ z _ p (ceil_of_high z d h))

-- the floor is at most the ceiling
pub floor_of-at_most-ceil_of : (z : ℤ) (d : ℕ) → 0 < d → floor_of z d ≤ℤ ceil_of z d
floor_of-at_most-ceil_of z d h =
    let low = floor_of_low z d h in
    let high = ceil_of_high z d h in
    multiple_below (floor_of z d) (ceil_of z d) d (omega (arith, ints))

-- and the ceiling at most one above it
pub ceil_of-at_most-floor_of : (z : ℤ) (d : ℕ) → 0 < d → ceil_of z d ≤ℤ (floor_of z d +ℤ pos 1)
ceil_of-at_most-floor_of z d h =
    let high = floor_of_high z d h in
    let next = next_multiple (floor_of z d) d in
    (ceil_of-at_most z (floor_of z d +ℤ pos 1) d h).1 (omega (arith, ints))

-- only the ceiling has its bounds
pub ceil_of-unique : (z q : ℤ) (d : ℕ) → 0 < d → z ≤ℤ (q *ℤ pos d) → (q *ℤ pos d) <ℤ (z +ℤ pos d) → q ≡ ceil_of z d
ceil_of-unique z q d h high low =
    let e = neg_ℤ-*ℤ q (pos d) in
    let f : neg_ℤ q ≡ floor_of (neg_ℤ z) d = floor_of-unique (neg_ℤ z) (neg_ℤ q) d h (omega (arith, ints)) (omega (arith, ints)) in
    omega (arith, ints)

-- to divide twice, rounding up, is to divide by the product
pub ceil_of-twice : (z : ℤ) (d e : ℕ) → 0 < d → 0 < e → ceil_of (ceil_of z d) e ≡ ceil_of z (d * e)
ceil_of-twice z d e h k = ap neg_ℤ (ap (λ t. floor_of t e) (neg_neg (floor_of (neg_ℤ z) d)) ∙ floor_of-twice (neg_ℤ z) d e h k)
  where
    neg_neg : (z : ℤ) → neg_ℤ (neg_ℤ z) ≡ z
    neg_neg z = omega (arith, ints)

-- ---- Rust's operators
-- a number is its floor times k, and the remainder
remainder_is : (z : ℤ) (k : ℕ) → 0 < k → floor_of z k *ℤ pos k +ℤ int_rem_euclid z (pos k) ≡ z
remainder_is (pos a) k p = omega (arith, ints)
remainder_is (negsuc a) k p = omega (arith, ints)

-- the remainder is not negative
remainder_not_negative : (z : ℤ) (k : ℕ) → pos 0 ≤ℤ int_rem_euclid z (pos k)
remainder_not_negative (pos a) k = omega (arith, ints)
remainder_not_negative (negsuc a) k = omega (arith, ints)

-- where the remainder is 0 the ceiling is the floor
pub ceil_of-exact : (z : ℤ) (k : ℕ) → 0 < k → int_rem_euclid z (pos k) ≡ pos 0 → ceil_of z k ≡ floor_of z k
ceil_of-exact z k p e =
    let f = floor_of z k in
    let r = remainder_is z k p in
    sym (ceil_of-unique z f k p (omega (arith, ints)) (omega (arith, ints)))

-- and else one above it
pub ceil_of-inexact : (z : ℤ) (k : ℕ) → 0 < k → int_rem_euclid z (pos k) ≢ pos 0 → ceil_of z k ≡ floor_of z k +ℤ pos 1
ceil_of-inexact z k p n =
    let f = floor_of z k in
    let m = int_rem_euclid z (pos k) in
    let r = remainder_is z k p in
    let s = remainder_not_negative z k in
    let e = next_multiple f k in
    let high = floor_of_high z k p in
    sym (ceil_of-unique z (f +ℤ pos 1) k p (omega (arith, ints)) (omega (arith, ints)))

-- the ceiling is one above the floor of what is one less
pub ceil_of-floor_of : (z : ℤ) (k : ℕ) → 0 < k → ceil_of z k ≡ floor_of (z -ℤ pos 1) k +ℤ pos 1
ceil_of-floor_of z k p =
    let f = floor_of (z -ℤ pos 1) k in
    let low = floor_of_low (z -ℤ pos 1) k p in
    let high = floor_of_high (z -ℤ pos 1) k p in
    let e = next_multiple f k in
    sym (ceil_of-unique z (f +ℤ pos 1) k p (omega (arith, ints)) (omega (arith, ints)))

-- the ceiling of a multiple is exact
pub ceil_of-multiple : (q : ℤ) (k : ℕ) → 0 < k → ceil_of (q *ℤ pos k) k ≡ q
ceil_of-multiple q k p = sym (ceil_of-unique (q *ℤ pos k) q k p (omega (arith, ints)) (omega (arith, ints)))

-- a quotient of a power of two by a smaller one is exact, also below 0
pub power_exact : (m k : ℕ) → k ≤ m → ceil_of (neg_ℤ (pos (2 ^ m))) (2 ^ k) ≡ floor_of (neg_ℤ (pos (2 ^ m))) (2 ^ k)
power_exact m k h =
    let q = neg_ℤ (pos (2 ^ (m - k))) in
    let e : q *ℤ pos (2 ^ k) ≡ neg_ℤ (pos (2 ^ m)) = neg_ℤ-*ℤ (pos (2 ^ (m - k))) (pos (2 ^ k)) ∙ ap (λ (n : ℕ). neg_ℤ (pos n)) (sym (pow-add 2 (m - k) k) ∙ ap (λ (n : ℕ). 2 ^ n) (rest m k h)) in
    subst (λ z. ceil_of z (2 ^ k) ≡ floor_of z (2 ^ k)) e (ceil_of-multiple q (2 ^ k) (pow_pos k) ∙ sym (floor_of-multiple q (2 ^ k) (pow_pos k)))
  where
    rest : (m k : ℕ) → k ≤ m → (m - k) + k ≡ m
    rest m k h = omega arith

-- `ceil_of-exact` by a positive integer
pub ceil_by_exact : (z k : ℤ) → pos 0 <ℤ k → int_rem_euclid z k ≡ pos 0 → ceil_of z (unsigned_abs k) ≡ int_div_euclid z k
ceil_by_exact z (pos n) p e = ceil_of-exact z n (omega (arith, ints)) e
ceil_by_exact z (negsuc n) p e = absurd p.lt

-- `ceil_of-inexact` by a positive integer
pub ceil_by_inexact : (z k : ℤ) → pos 0 <ℤ k → int_rem_euclid z k ≢ pos 0 → ceil_of z (unsigned_abs k) ≡ int_div_euclid z k +ℤ pos 1
ceil_by_inexact z (pos n) p e = ceil_of-inexact z n (omega (arith, ints)) e
ceil_by_inexact z (negsuc n) p e = absurd p.lt

-- Rust's `>>` is the floor by a power of two
pub shr-floor_of : (z : ℤ) (k : ℕ) → int_shr z k ≡ floor_of z (2 ^ k)
shr-floor_of (pos a) k = refl
shr-floor_of (negsuc a) k = refl
