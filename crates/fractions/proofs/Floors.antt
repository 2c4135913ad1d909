-- The floor of a fraction, and rounding at a coarser scale.
use Rattle.std.specs.Prelude.{◌≡◌, ℕ, ℤ, pos, ◌+◌, ◌*◌, ◌<◌, not, ◌+ℤ◌, ◌*ℤ◌, ◌≤ℤ◌, ◌<ℤ◌, ◌↔◌}
use Rattle.std.proofs.Common.{arith, ap}
use Rattle.std.proofs.lemmas.Int.{ints}
use borrow.Author.Differences.{up, down}
use Rattle.std.proofs.Math.Nat.{mul-pos, mul-le-mul_left}
use lib.Dec.{T, T_prop, lit≤}
use Rattle.fractions.specs.Pair.{Pair, Below, pair_ratio, pair_floor}
use Rattle.fractions.specs.Fraction.{Fraction, ratio, is_at_most, ◌≤ᶠ◌, ◌<ᶠ◌}
use Rattle.fractions.specs.Floor.{floor}
use Rattle.whole_numbers.specs.Rounding.{floor_of, ceil_of}
use Rattle.whole_numbers.proofs.Divisions.{floor_of_low, floor_of_high, floor_parts_low, ceil_parts_high, next_multiple}
use Rattle.fractions.specs.SamePairs.{at_most_in, at_most_out, pair_floor_low, pair_floor_high}
use Rattle.fractions.proofs.Laws.{by_pair, ≤ᶠ_trans}
use Rattle.fractions.proofs.Ratios.{ratio_mono, ratio_at_most}
use Rattle.fractions.proofs.StrictOrder.{fails, ≤ᶠ_<ᶠ_trans, ratio_below, whole_below_out}

-- `floor_low`, on tests
low' : (x : Fraction) → T (is_at_most (ratio (floor x) 1) x)
unfolding floor is_at_most ratio pair_ratio
low' = by_pair (λ x. T_prop _) (λ a. at_most_in (pair_ratio (pair_floor a) 1) a (omega (arith, pair_floor_low a)))

-- the floor is at most the fraction
pub floor_low : (x : Fraction) → ratio (floor x) 1 ≤ᶠ x
floor_low x = record { le = low' x }

-- `floor_high`, on tests
high' : (x : Fraction) → T (not (is_at_most (ratio (floor x +ℤ pos 1) 1) x))
unfolding floor is_at_most ratio pair_ratio
high' = by_pair (λ x. T_prop _) (λ a. fails _ (λ t. clash a (pair_floor a) (at_most_out (pair_ratio (pair_floor a +ℤ pos 1) 1) a t) (pair_floor_high a)))
  where
    clash : (a : Pair) (f : ℤ) → Below (pair_ratio (f +ℤ pos 1) 1) a → a.up + down f * a.den < up f * a.den + a.den + a.down → ⊥
    clash a f h k = let e : up (f +ℤ pos 1) + down f ≡ down (f +ℤ pos 1) + up f + 1 = omega (arith, ints) in omega (arith, ap (λ (n : ℕ). n * a.den) e)

-- and the fraction is below the next whole number
pub floor_high : (x : Fraction) → x <ᶠ ratio (floor x +ℤ pos 1) 1
floor_high x = record { lt = high' x }

-- a whole number is at most the floor exactly where it is at most the fraction
pub at_most-floor : (m : ℤ) (x : Fraction) → (m ≤ℤ floor x) ↔ (ratio m 1 ≤ᶠ x)
at_most-floor m x = (
  (λ h. ≤ᶠ_trans (ratio_mono 1 h) (floor_low x)),
  (λ h. next m (floor x) (whole_below_out m (floor x +ℤ pos 1) (≤ᶠ_<ᶠ_trans h (floor_high x)))),
)
  where
    next : (m f : ℤ) → m <ℤ (f +ℤ pos 1) → m ≤ℤ f
    next m f h = omega (arith, ints)

-- only the floor has these bounds
pub floor-unique : (x : Fraction) (m : ℤ) → ratio m 1 ≤ᶠ x → x <ᶠ ratio (m +ℤ pos 1) 1 → floor x ≡ m
floor-unique x m low high = between m (floor x) ((at_most-floor m x).1 low) (whole_below_out (floor x) (m +ℤ pos 1) (≤ᶠ_<ᶠ_trans (floor_low x) high))
  where
    between : (m f : ℤ) → m ≤ℤ f → f <ℤ (m +ℤ pos 1) → f ≡ m
    between m f h k = omega (arith, ints)

-- the floor grows with the fraction
pub floor_mono : {x y : Fraction} → x ≤ᶠ y → floor x ≤ℤ floor y
floor_mono {x} {y} h = (at_most-floor (floor x) y).1 (≤ᶠ_trans (floor_low x) h)

-- the floor of m / k is the quotient, rounded down
pub floor-ratio : (m : ℤ) (k : ℕ) → 0 < k → floor (ratio m k) ≡ floor_of m k
floor-ratio m k p = floor-unique (ratio m k) (floor_of m k)
    (ratio_at_most (floor_of m k) m 1 k (lit≤ tt) p (low (floor_of m k) (floor_of_low m k p)))
    (ratio_below m (floor_of m k +ℤ pos 1) k 1 p (lit≤ tt) (high (floor_of m k) (next_multiple (floor_of m k) k) (floor_of_high m k p)))
  where
    low : (f : ℤ) → (f *ℤ pos k) ≤ℤ m → (f *ℤ pos k) ≤ℤ (m *ℤ pos 1)
    low f h = omega (arith, ints)

    high : (f : ℤ) → (f +ℤ pos 1) *ℤ pos k ≡ f *ℤ pos k +ℤ pos k → m <ℤ (f *ℤ pos k +ℤ pos k) → (m *ℤ pos 1) <ℤ ((f +ℤ pos 1) *ℤ pos k)
    high f e h = omega (arith, ints)

-- ---- rounding at a coarser scale
-- z rounded down by k, over n, is at most z over k n
pub ratio-floor_of : (z : ℤ) (k n : ℕ) → 0 < k → 0 < n → ratio (floor_of z k) n ≤ᶠ ratio z (k * n)
ratio-floor_of z k n p q = ratio_at_most (floor_of z k) z n (k * n) q (mul-pos p q) (omega (arith, ints, mul-le-mul_left n (floor_parts_low z k p)))

-- z rounded up by k, over n, is at least z over k n
pub ratio-ceil_of : (z : ℤ) (k n : ℕ) → 0 < k → 0 < n → ratio z (k * n) ≤ᶠ ratio (ceil_of z k) n
ratio-ceil_of z k n p q = ratio_at_most z (ceil_of z k) (k * n) n (mul-pos p q) q (omega (arith, ints, mul-le-mul_left n (ceil_parts_high z k p)))
