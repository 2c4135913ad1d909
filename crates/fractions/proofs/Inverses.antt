-- Inverses and division.
use Rattle.std.specs.Prelude.{◌≡◌, ℕ, ◌+◌, ◌-◌, ◌*◌, ◌<◌, ◌≤◌, ◌≢◌}
use Rattle.std.proofs.Common.{arith, ap, ◌∙◌}
use native.Mathlib.Decide.{dec_le}
use native.Mathlib.Nat.{zero-mul, mul-zero}
use mathlib.Core.Quot.{sound, Quot-set}
use Rattle.fractions.specs.Pair.{Pair, pair_ratio, pair_inverse}
use Rattle.fractions.specs.Fraction.{Fraction, of_pair, ratio, oneᶠ, zeroᶠ, ◌*ᶠ◌, lift_both}
use Rattle.fractions.specs.Inverse.{inverse}
use Rattle.fractions.proofs.Laws.{by_pair}

-- x is (p - m) / n, and its inverse n (p - m) / (p - m)^2
full : (u d n p m : ℕ) → u + m ≡ d + p → p * m ≡ 0 → 0 < p + m → (u * (n * p) + d * (n * m)) * 1 ≡ n * ((p + m) * (p + m) + (1 - (p + m))) + (u * (n * m) + d * (n * p))
full u d n p m e z h =
    let f : 1 - (p + m) ≡ 0 = omega arith in
    rw f (omega (arith, ap (λ (t : ℕ). t * (n * p)) e, ap (λ (t : ℕ). t * (n * m)) e, ap (λ (t : ℕ). t * n) z))

-- a pair apart from 0 has a numerator apart from 0
apart_gap : (a : Pair) → of_pair a ≢ zeroᶠ → 1 ≤ (a.up - a.down) + (a.down - a.up)
unfolding ratio pair_ratio
apart_gap a h = elim (dec_le 1 ((a.up - a.down) + (a.down - a.up))) [ yes k ↦ k | no k ↦ absurd (h (sound (omega arith))) ]

-- of two differences of naturals one is 0
no_both : (u d : ℕ) → (u - d) * (d - u) ≡ 0
no_both u d = elim (dec_le u d) [ yes k ↦ ap (λ (t : ℕ). t * (d - u)) (left u d k) ∙ zero-mul (d - u) | no k ↦ ap (λ (t : ℕ). (u - d) * t) (right u d (omega arith)) ∙ mul-zero (u - d) ]
  where
    left : (u d : ℕ) → u ≤ d → u - d ≡ 0
    left u d k = omega arith

    right : (u d : ℕ) → d ≤ u → d - u ≡ 0
    right u d k = omega arith

-- the inverse of a pair is one
inverse_pair : (a : Pair) → of_pair a ≢ zeroᶠ → of_pair a *ᶠ inverse (of_pair a) ≡ oneᶠ
unfolding inverse pair_inverse ◌*ᶠ◌ lift_both ratio pair_ratio
inverse_pair a h = sound (omega (arith, full a.up a.down a.den (a.up - a.down) (a.down - a.up) (omega arith) (no_both a.up a.down) (apart_gap a h)))

-- a fraction apart from 0 times its inverse is 1
pub *ᶠ_inverse : (x : Fraction) → x ≢ zeroᶠ → x *ᶠ inverse x ≡ oneᶠ
*ᶠ_inverse = by_pair (λ x. hlevel Quot-set) inverse_pair

-- the inverse of 0 is 0
pub inverse-zero : inverse zeroᶠ ≡ zeroᶠ
unfolding inverse pair_inverse ratio pair_ratio
inverse-zero = sound (omega arith)
