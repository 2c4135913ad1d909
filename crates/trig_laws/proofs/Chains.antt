-- The ends of the nested product are chains on numbers from 0 to 1.
use Rattle.std.specs.Prelude.{◌≡◌, ℕ, pos, ◌+◌, ◌-◌, ◌*◌, ◌/◌, ◌^◌, ◌<◌, ◌≤◌, ◌*ℤ◌, neg_ℤ, max, Bool, true, false, cond, ◌&&◌, List, [], ◌∷◌, refl}
use Rattle.std.proofs.Common.{arith, ap, sym, ◌∙◌}
use Rattle.std.proofs.lemmas.Int.{ints, clamps}
use Rattle.std.proofs.lemmas.Nat.{pow_pos, le-div}
use Rattle.std.proofs.Math.Nat.{mul-le-mul, div-le_of_le-mul, div-mul-le_self}
use Rattle.std.specs.Int.{int_min, int_max}
use Rattle.whole_numbers.specs.Rounding.{floor_of, ceil_of}
use Rattle.whole_numbers.proofs.Divisions.{ceil_of-unique}
use Rattle.whole_numbers.proofs.Quote.{quote, identity}
use native.Mathlib.Decide.{dec_le}
use lib.Signed.{le_z}
use Rattle.fix_interval.specs.Ends.{Ends}
use Rattle.fix_interval.specs.Products.{mul_wide_of, narrow76_of, mul_of, sqr_wide_of, sqr_of}
use Rattle.fix_interval.specs.Quotients.{div_int_of}
use Rattle.fix_interval.specs.Sums.{sub_of}
use Rattle.fix_interval.proofs.EndSums.{same_ends}
use Rattle.fix_interval.specs.Ranges.{one_ends, from_to}
use Rattle.trig_laws.specs.Quarter.{nested_of}
use Rattle.trig_laws.specs.Chains.{step_down, step_up, nest_end}
use Rattle.trig_laws.proofs.Nested.{Positive, more}

-- ---- rounding a natural
pub floor-natural : (n k : ℕ) → floor_of (pos n) k ≡ pos (n / k)
floor-natural n k = refl

pub ceil-natural : (n k : ℕ) → 0 < k → ceil_of (pos n) k ≡ pos ((n + (k - 1)) / k)
ceil-natural n k h =
    let q : ℕ = (n + (k - 1)) / k in
    sym (ceil_of-unique (pos n) (pos q) k h (omega (arith, ints)) (omega (arith, ints)))

-- ---- products of naturals
least : (p q r s : ℕ) → p ≤ q → p ≤ r → p ≤ s → int_min (int_min (pos p) (pos q)) (int_min (pos r) (pos s)) ≡ pos p
least p q r s a b c = omega (arith, ints, clamps)

greatest : (p q r s : ℕ) → p ≤ s → q ≤ s → r ≤ s → int_max (int_max (pos p) (pos q)) (int_max (pos r) (pos s)) ≡ pos s
greatest p q r s a b c = omega (arith, ints, clamps)

self : (n : ℕ) → n ≤ n
self n = omega arith

pub mul_wide-naturals : (a b c d : ℕ) → a ≤ b → c ≤ d → mul_wide_of (from_to a b) (from_to c d) ≡ from_to (a * c) (b * d)
unfolding mul_wide_of
mul_wide-naturals a b c d p q = same_ends
    (least (a * c) (a * d) (b * c) (b * d) (mul-le-mul (self a) q) (mul-le-mul p (self c)) (mul-le-mul p q))
    (greatest (a * c) (a * d) (b * c) (b * d) (mul-le-mul p q) (mul-le-mul p (self d)) (mul-le-mul (self b) q))

pub narrow-naturals : (a b : ℕ) → narrow76_of (from_to a b) ≡ from_to (a / 2 ^ 38) ((b + (2 ^ 38 - 1)) / 2 ^ 38)
unfolding narrow76_of
narrow-naturals a b = same_ends refl (ceil-natural b (2 ^ 38) (pow_pos 38))

pub mul-naturals : (a b c d : ℕ) → a ≤ b → c ≤ d → mul_of (from_to a b) (from_to c d) ≡ from_to (a * c / 2 ^ 38) ((b * d + (2 ^ 38 - 1)) / 2 ^ 38)
unfolding mul_of
mul-naturals a b c d p q = ap narrow76_of (mul_wide-naturals a b c d p q) ∙ narrow-naturals (a * c) (b * d)

-- ---- one step
from_one : (p q : ℕ) → q ≤ p → p ≤ 2 ^ 38 → sub_of one_ends (from_to q p) ≡ from_to (2 ^ 38 - p) (2 ^ 38 - q)
unfolding sub_of
from_one p q h k = same_ends (omega (arith, ints)) (omega (arith, ints))

div-naturals : (a b k : ℕ) → 0 < k → div_int_of (from_to a b) k ≡ from_to (a / k) ((b + (k - 1)) / k)
unfolding div_int_of
div-naturals a b k h = same_ends refl (ceil-natural b k h)

-- rounded up, a number of at most 2^38 over k is at most 2^38
pub up_small : (n k : ℕ) → 0 < k → n ≤ 2 ^ 38 → (n + (k - 1)) / k ≤ 2 ^ 38
up_small n k h l = div-le_of_le-mul k (omega arith)

product_up : (a b : ℕ) → a ≤ 2 ^ 38 → b ≤ 2 ^ 38 → (a * b + (2 ^ 38 - 1)) / 2 ^ 38 ≤ 2 ^ 38
product_up a b h k = let p : a * b ≤ 2 ^ 38 * 2 ^ 38 = mul-le-mul h k in omega arith

pub step_down-small : (y h k : ℕ) → step_down y h k ≤ 2 ^ 38
unfolding step_down
step_down-small y h k = omega arith

pub step_up-small : (y h k : ℕ) → step_up y h k ≤ 2 ^ 38
unfolding step_up
step_up-small y h k = omega arith

rounded : (m n k : ℕ) → 0 < k → m ≤ n → m / k ≤ (n + (k - 1)) / k
rounded m n k h l = le-div (m / k) (n + (k - 1)) k h (omega (arith, div-mul-le_self m k))

step-ends : (yl yh hl hh k : ℕ) → 0 < k → yl ≤ yh → hl ≤ hh → yh ≤ 2 ^ 38 → hh ≤ 2 ^ 38 → sub_of one_ends (div_int_of (mul_of (from_to yl yh) (from_to hl hh)) k) ≡ from_to (step_down yh hh k) (step_up yl hl k)
unfolding step_down step_up
step-ends yl yh hl hh k p y h ys hs =
    let a : ℕ = yl * hl / 2 ^ 38 in
    let b : ℕ = (yh * hh + (2 ^ 38 - 1)) / 2 ^ 38 in
    let ab : a ≤ b = rounded (yl * hl) (yh * hh) (2 ^ 38) (pow_pos 38) (mul-le-mul y h) in
    let bs : b ≤ 2 ^ 38 = product_up yh hh ys hs in
    ap (λ t. sub_of one_ends (div_int_of t k)) (mul-naturals yl yh hl hh y h) ∙ ap (sub_of one_ends) (div-naturals a b k p) ∙ from_one ((b + (k - 1)) / k) (a / k) (rounded a b k p ab) (up_small b k p bs)

step_order : (yl yh hl hh k : ℕ) → 0 < k → yl ≤ yh → hl ≤ hh → step_down yh hh k ≤ step_up yl hl k
unfolding step_down step_up
step_order yl yh hl hh k p y h =
    let r = rounded (yl * hl / 2 ^ 38) ((yh * hh + (2 ^ 38 - 1)) / 2 ^ 38) k p (rounded (yl * hl) (yh * hh) (2 ^ 38) (pow_pos 38) (mul-le-mul y h)) in
    omega arith

-- ---- the nested product
pub nest_end-small : (up : Bool) (l h : ℕ) (ks : List ℕ) → nest_end up l h ks ≤ 2 ^ 38
unfolding nest_end
nest_end-small up l h [] = omega arith
nest_end-small true l h (k ∷ ks) = step_up-small l (nest_end false l h ks) k
nest_end-small false l h (k ∷ ks) = step_down-small h (nest_end true l h ks) k

pub nest_end-order : (l h : ℕ) (ks : List ℕ) → Positive ks → l ≤ h → nest_end false l h ks ≤ nest_end true l h ks
unfolding nest_end
nest_end-order l h [] p o = omega arith
nest_end-order l h (k ∷ ks) (more q p) o = step_order l h _ _ k q o (nest_end-order l h ks p o)

pub nested-chains : (l h : ℕ) (ks : List ℕ) → Positive ks → l ≤ h → h ≤ 2 ^ 38 → nested_of (from_to l h) ks ≡ from_to (nest_end false l h ks) (nest_end true l h ks)
unfolding nested_of nest_end
nested-chains l h [] p o s = refl
nested-chains l h (k ∷ ks) (more q p) o s =
    ap (λ t. sub_of one_ends (div_int_of (mul_of (from_to l h) t) k)) (nested-chains l h ks p o s)
    ∙ step-ends l h (nest_end false l h ks) (nest_end true l h ks) k q o (nest_end-order l h ks p o) s (nest_end-small true l h ks)

-- ---- squares
smaller : (p q : ℕ) → p ≤ q → int_min (pos p) (pos q) ≡ pos p
smaller p q h = omega (arith, ints, clamps)

greater : (p q : ℕ) → p ≤ q → int_max (pos p) (pos q) ≡ pos q
greater p q h = omega (arith, ints, clamps)

square-negative : (n : ℕ) → neg_ℤ (pos n) *ℤ neg_ℤ (pos n) ≡ pos (n * n)
square-negative n = identity (pos n ∷ []) (search quote depth 20) tt

-- not negative, and from there on
pub sqr-naturals : (x : Ends) (a b : ℕ) → x.lo ≡ pos a → x.hi ≡ pos b → a ≤ b → sqr_of x ≡ from_to (a * a / 2 ^ 38) ((b * b + (2 ^ 38 - 1)) / 2 ^ 38)
unfolding sqr_of sqr_wide_of
sqr-naturals x a b e f h = rw (e, f) (ap narrow76_of (same_ends (least a b h) (greater (a * a) (b * b) (mul-le-mul h h))) ∙ narrow-naturals (a * a) (b * b))
  where
    least : (a b : ℕ) → a ≤ b → cond (le_z (pos a) (pos 0) && le_z (pos 0) (pos b)) (pos 0) (int_min (pos (a * a)) (pos (b * b))) ≡ pos (a * a)
    least a b h = by_test (le_z (pos a) (pos 0)) (le_z (pos 0) (pos b)) refl
      where
        by_test : (t u : Bool) → le_z (pos a) (pos 0) ≡ t → cond (t && u) (pos 0) (int_min (pos (a * a)) (pos (b * b))) ≡ pos (a * a)
        by_test true true d = let z : a ≡ 0 = omega (arith, ints) in rw z refl
        by_test true false d = smaller (a * a) (b * b) (mul-le-mul h h)
        by_test false u d = smaller (a * a) (b * b) (mul-le-mul h h)

-- not positive
pub sqr-negatives : (x : Ends) (a b : ℕ) → x.hi ≡ neg_ℤ (pos a) → x.lo ≡ neg_ℤ (pos b) → a ≤ b → sqr_of x ≡ from_to (a * a / 2 ^ 38) ((b * b + (2 ^ 38 - 1)) / 2 ^ 38)
unfolding sqr_of sqr_wide_of
sqr-negatives x a b e f h = rw (e, f, square-negative a, square-negative b) (ap narrow76_of (same_ends (least a b h) (greatest' (a * a) (b * b) (mul-le-mul h h))) ∙ narrow-naturals (a * a) (b * b))
  where
    greatest' : (p q : ℕ) → p ≤ q → int_max (pos q) (pos p) ≡ pos q
    greatest' p q h = omega (arith, ints, clamps)

    least' : (p q : ℕ) → p ≤ q → int_min (pos q) (pos p) ≡ pos p
    least' p q h = omega (arith, ints, clamps)

    least : (a b : ℕ) → a ≤ b → cond (le_z (neg_ℤ (pos b)) (pos 0) && le_z (pos 0) (neg_ℤ (pos a))) (pos 0) (int_min (pos (b * b)) (pos (a * a))) ≡ pos (a * a)
    least a b h = by_test (le_z (neg_ℤ (pos b)) (pos 0)) (le_z (pos 0) (neg_ℤ (pos a))) refl
      where
        by_test : (t u : Bool) → le_z (pos 0) (neg_ℤ (pos a)) ≡ u → cond (t && u) (pos 0) (int_min (pos (b * b)) (pos (a * a))) ≡ pos (a * a)
        by_test true true d = let z : a ≡ 0 = omega (arith, ints) in rw z refl
        by_test true false d = least' (a * a) (b * b) (mul-le-mul h h)
        by_test false u d = least' (a * a) (b * b) (mul-le-mul h h)

-- of both signs
pub sqr-mixed : (x : Ends) (a b m : ℕ) → x.lo ≡ neg_ℤ (pos a) → x.hi ≡ pos b → m ≡ max a b → sqr_of x ≡ from_to (0 * 0 / 2 ^ 38) ((m * m + (2 ^ 38 - 1)) / 2 ^ 38)
unfolding sqr_of sqr_wide_of
sqr-mixed x a b m e f g = rw (e, f, square-negative a) (ap narrow76_of (same_ends least (greatest' (dec_le a b))) ∙ narrow-naturals 0 (m * m))
  where
    least : cond (le_z (neg_ℤ (pos a)) (pos 0) && le_z (pos 0) (pos b)) (pos 0) (int_min (pos (a * a)) (pos (b * b))) ≡ pos 0
    least = by_test (le_z (neg_ℤ (pos a)) (pos 0)) (le_z (pos 0) (pos b)) refl refl
      where
        by_test : (t u : Bool) → le_z (neg_ℤ (pos a)) (pos 0) ≡ t → le_z (pos 0) (pos b) ≡ u → cond (t && u) (pos 0) (int_min (pos (a * a)) (pos (b * b))) ≡ pos 0
        by_test true true d c = refl
        by_test true false d c = absurd (omega (arith, ints))
        by_test false u d c = absurd (omega (arith, ints))

    larger : (p q : ℕ) → q ≤ p → int_max (pos p) (pos q) ≡ pos p
    larger p q h = omega (arith, ints, clamps)

    greatest' : Dec (a ≤ b) → int_max (pos (a * a)) (pos (b * b)) ≡ pos (m * m)
    greatest' (yes h) = let n : m ≡ b = omega arith in rw n (greater (a * a) (b * b) (mul-le-mul h h))
    greatest' (no h) = let n : m ≡ a = omega arith in let k : b ≤ a = omega arith in rw n (larger (a * a) (b * b) (mul-le-mul k k))
