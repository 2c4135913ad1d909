-- The ends of the sine and of the cosine of at most an eighth of a turn, each from one chain.
use Rattle.std.specs.Prelude.{◌≡◌, ℕ, ℤ, pos, ◌^◌, ◌≤◌, ◌*ℤ◌, ◌≤ℤ◌, Bool, true, false, cond, refl}
use Rattle.std.proofs.Common.{arith, ap, ap₂, ◌∙◌}
use Rattle.std.proofs.lemmas.Int.{ints}
use Rattle.std.specs.Int.{int_min, int_max}
use lib.Signed.{le_z}
use Rattle.whole_numbers.specs.Rounding.{floor_of, ceil_of}
use Rattle.whole_numbers.proofs.FourNumbers.{first_least, second_least, third_greatest, fourth_greatest}
use Rattle.whole_numbers.proofs.Products.{*ℤ_mono_left, *ℤ_mono_right, *ℤ_anti_right}
use Rattle.fix_interval.specs.Ends.{Ends, IsInside}
use Rattle.fix_interval.specs.Bounds.{clamp_of, widen_of}
use Rattle.fix_interval.specs.Products.{mul_wide_of, narrow76_of, mul_of, sqr_of}
use Rattle.fix_interval.specs.Ranges.{from_to}
use Rattle.trig_laws.specs.Quarter.{radians_of, sine_of, cosine_of, nested_of, trimmed, sine_divisors, cosine_divisors, eighth_ends}
use Rattle.trig_laws.specs.Chains.{nest_end, sine_ends, cosine_ends}
use Rattle.trig_laws.proofs.Chains.{nested-chains, nest_end-order}
use Rattle.trig_laws.proofs.Isotones.{radians_isotone, sine_positive, cosine_positive}

-- ---- the product with a natural range
through : {x y z : ℤ} → x ≤ℤ y → y ≤ℤ z → x ≤ℤ z
through h k = omega (arith, ints)

ordered : (l h : ℕ) → l ≤ h → pos l ≤ℤ pos h
ordered l h k = omega (arith, ints)

natural : (n : ℕ) → pos 0 ≤ℤ pos n
natural n = omega (arith, ints)

pub mul-low : (x : Ends) (l h : ℕ) → x.lo ≤ℤ x.hi → l ≤ h → (mul_of x (from_to l h)).lo ≡ floor_of (x.lo *ℤ pos (cond (le_z (pos 0) x.lo) l h)) (2 ^ 38)
unfolding mul_of mul_wide_of narrow76_of
mul-low x l h o k = ap (λ z. floor_of z (2 ^ 38)) (by_sign (le_z (pos 0) x.lo) refl)
  where
    by_sign : (t : Bool) → le_z (pos 0) x.lo ≡ t → int_min (int_min (x.lo *ℤ pos l) (x.lo *ℤ pos h)) (int_min (x.hi *ℤ pos l) (x.hi *ℤ pos h)) ≡ x.lo *ℤ pos (cond t l h)
    by_sign true e =
        let n : pos 0 ≤ℤ x.lo = omega (arith, ints) in
        let a = *ℤ_mono_right (pos l) (pos h) x.lo n (ordered l h k) in
        let b = *ℤ_mono_left x.lo x.hi (pos l) (natural l) o in
        let d = *ℤ_mono_left x.lo x.hi (pos h) (natural h) o in
        first_least _ _ _ _ a b (through a d)
    by_sign false e =
        let n : x.lo ≤ℤ pos 0 = omega (arith, ints) in
        let a = *ℤ_anti_right (pos l) (pos h) x.lo n (ordered l h k) in
        let b = *ℤ_mono_left x.lo x.hi (pos l) (natural l) o in
        let d = *ℤ_mono_left x.lo x.hi (pos h) (natural h) o in
        second_least _ _ _ _ a (through a b) d

pub mul-high : (x : Ends) (l h : ℕ) → x.lo ≤ℤ x.hi → l ≤ h → (mul_of x (from_to l h)).hi ≡ ceil_of (x.hi *ℤ pos (cond (le_z (pos 0) x.hi) h l)) (2 ^ 38)
unfolding mul_of mul_wide_of narrow76_of
mul-high x l h o k = ap (λ z. ceil_of z (2 ^ 38)) (by_sign (le_z (pos 0) x.hi) refl)
  where
    by_sign : (t : Bool) → le_z (pos 0) x.hi ≡ t → int_max (int_max (x.lo *ℤ pos l) (x.lo *ℤ pos h)) (int_max (x.hi *ℤ pos l) (x.hi *ℤ pos h)) ≡ x.hi *ℤ pos (cond t h l)
    by_sign true e =
        let n : pos 0 ≤ℤ x.hi = omega (arith, ints) in
        let a = *ℤ_mono_right (pos l) (pos h) x.hi n (ordered l h k) in
        let b = *ℤ_mono_left x.lo x.hi (pos l) (natural l) o in
        let d = *ℤ_mono_left x.lo x.hi (pos h) (natural h) o in
        fourth_greatest _ _ _ _ (through b a) d a
    by_sign false e =
        let n : x.hi ≤ℤ pos 0 = omega (arith, ints) in
        let a = *ℤ_anti_right (pos l) (pos h) x.hi n (ordered l h k) in
        let b = *ℤ_mono_left x.lo x.hi (pos l) (natural l) o in
        let d = *ℤ_mono_left x.lo x.hi (pos h) (natural h) o in
        third_greatest _ _ _ _ b (through d a) a

-- ---- the sine and the cosine, where the square lies from l to h
pub sine-ends : (r : Ends) (l h : ℕ) → IsInside r eighth_ends → l ≤ h → h ≤ 2 ^ 38 → sqr_of (radians_of r) ≡ from_to l h → sine_of r ≡ sine_ends (radians_of r) l h
unfolding sine_of widen_of clamp_of
sine-ends r l h i o s e =
    let n : nested_of (sqr_of (radians_of r)) sine_divisors ≡ from_to (nest_end false l h sine_divisors) (nest_end true l h sine_divisors) = ap (λ t. nested_of t sine_divisors) e ∙ nested-chains l h sine_divisors sine_positive o s in
    let p = nest_end-order l h sine_divisors sine_positive o in
    let x = (radians_isotone r eighth_ends i).ordered in
    ap (λ t. trimmed (mul_of (radians_of r) t)) n ∙ ap₂ (λ y z. trimmed record { lo = y; hi = z }) (mul-low (radians_of r) _ _ x p) (mul-high (radians_of r) _ _ x p)

pub cosine-ends : (r : Ends) (l h : ℕ) → l ≤ h → h ≤ 2 ^ 38 → sqr_of (radians_of r) ≡ from_to l h → cosine_of r ≡ cosine_ends l h
unfolding cosine_of widen_of clamp_of
cosine-ends r l h o s e = ap (λ t. trimmed (nested_of t cosine_divisors)) e ∙ ap (λ t. trimmed t) (nested-chains l h cosine_divisors cosine_positive o s)
