-- Kepler's equation has a solution at each level.
use Rattle.std.specs.Prelude.{◌≡◌, ℕ, zero, suc, pos, neg_ℤ, ◌*◌, ◌^◌, [], ◌∷◌}
use Rattle.std.proofs.Common.{arith, ap, ◌∙◌, subst}
use Rattle.std.proofs.lemmas.Nat.{pow_pos}
use Rattle.std.proofs.Math.Nat.{pow-suc}
use lib.Dec.{lit≤}
use Rattle.fractions.specs.Fraction.{Fraction, ratio, zeroᶠ, oneᶠ, ◌+ᶠ◌, ◌-ᶠ◌, ◌*ᶠ◌, neg, ◌≤ᶠ◌}
use Rattle.fractions.proofs.Certificates.{at_most, not_negative, constants}
use Rattle.fractions.proofs.Laws.{≤ᶠ_refl, ≤ᶠ_trans, by_order}
use Rattle.fractions.proofs.Quote.{quote}
use Rattle.fractions.proofs.Ratios.{ratio-mul}
use Rattle.raim_model.specs.Level.{Level}
use Rattle.series_laws.proofs.Pairs.{has_pair}
use Rattle.trig_laws.proofs.Encloses.{full_lies}
use Rattle.kepler_laws.specs.EccentricSine.{HasAnomaly}
use Rattle.kepler_laws.proofs.Rises.{IsEccentricity}

-- a change of sign within d
record HasGap (N : Level) (M eps d : Fraction) : Type 0 where
  low : Fraction
  high : Fraction
  ordered : low ≤ᶠ high
  narrow : high ≤ᶠ low +ᶠ d
  low_at_most : low -ᶠ eps *ᶠ (has_pair N low).sine ≤ᶠ M
  high_at_least : M ≤ᶠ high -ᶠ eps *ᶠ (has_pair N high).sine

minus_one : neg oneᶠ ≤ᶠ ratio (neg_ℤ (pos (2 ^ 38))) (2 ^ 38)
minus_one = constants (search quote depth 20) tt

at_one : ratio (pos (2 ^ 38)) (2 ^ 38) ≤ᶠ oneᶠ
at_one = constants (search quote depth 20) tt

-- half a turn either way
first_gap : (N : Level) (M eps : Fraction) → IsEccentricity eps → HasGap N M eps (ratio (pos 1) 1)
first_gap N M eps i =
    let a : Fraction = M -ᶠ ratio (pos 1) 2 in
    let b : Fraction = M +ᶠ ratio (pos 1) 2 in
    let p = has_pair N a in
    let q = has_pair N b in
    let s : Fraction = p.sine in
    let t : Fraction = q.sine in
    let el : zeroᶠ ≤ᶠ eps = i.low in
    let eh : eps ≤ᶠ ratio (pos 1) 128 = i.high in
    let sl : neg oneᶠ ≤ᶠ s = ≤ᶠ_trans minus_one (full_lies N a s p.cosine p.pair).sine.low in
    let th : t ≤ᶠ oneᶠ = ≤ᶠ_trans (full_lies N b t q.cosine q.pair).sine.high at_one in
    record {
      low = a;
      high = b;
      ordered = at_most (M ∷ []) oneᶠ (search not_negative) (search quote depth 20) tt;
      narrow = at_most (M ∷ []) zeroᶠ (≤ᶠ_refl zeroᶠ) (search quote depth 20) tt;
      low_at_most = at_most (M ∷ eps ∷ s ∷ []) (eps *ᶠ (s -ᶠ neg oneᶠ) +ᶠ (ratio (pos 1) 128 -ᶠ eps) +ᶠ ratio (pos 63) 128) (search not_negative depth 8) (search quote depth 30) tt;
      high_at_least = at_most (M ∷ eps ∷ t ∷ []) (eps *ᶠ (oneᶠ -ᶠ t) +ᶠ (ratio (pos 1) 128 -ᶠ eps) +ᶠ ratio (pos 63) 128) (search not_negative depth 8) (search quote depth 30) tt;
    }

-- one halving
halve : (N : Level) (M eps d : Fraction) → HasGap N M eps d → HasGap N M eps (ratio (pos 1) 2 *ᶠ d)
halve N M eps d g =
    let a : Fraction = g.low in
    let b : Fraction = g.high in
    let o : a ≤ᶠ b = g.ordered in
    let n : b ≤ᶠ a +ᶠ d = g.narrow in
    let x : Fraction = ratio (pos 1) 2 *ᶠ (a +ᶠ b) in
    let ax : a ≤ᶠ x = at_most (a ∷ b ∷ []) (ratio (pos 1) 2 *ᶠ (b -ᶠ a)) (search not_negative) (search quote depth 20) tt in
    let xb : x ≤ᶠ b = at_most (a ∷ b ∷ []) (ratio (pos 1) 2 *ᶠ (b -ᶠ a)) (search not_negative) (search quote depth 20) tt in
    let nx : x ≤ᶠ a +ᶠ ratio (pos 1) 2 *ᶠ d = at_most (a ∷ b ∷ d ∷ []) (ratio (pos 1) 2 *ᶠ ((a +ᶠ d) -ᶠ b)) (search not_negative) (search quote depth 20) tt in
    let xn : b ≤ᶠ x +ᶠ ratio (pos 1) 2 *ᶠ d = at_most (a ∷ b ∷ d ∷ []) (ratio (pos 1) 2 *ᶠ ((a +ᶠ d) -ᶠ b)) (search not_negative) (search quote depth 20) tt in
    by_order (x -ᶠ eps *ᶠ (has_pair N x).sine) M
    (λ h. record { low = x; high = g.high; ordered = xb; narrow = xn; low_at_most = h; high_at_least = g.high_at_least })
    (λ h. record { low = g.low; high = x; ordered = ax; narrow = nx; low_at_most = g.low_at_most; high_at_least = h })

half_gap : (n : ℕ) → ratio (pos 1) 2 *ᶠ ratio (pos 1) (2 ^ n) ≡ ratio (pos 1) (2 ^ suc n)
half_gap n = let e : 2 * 2 ^ n ≡ 2 ^ suc n = omega (arith, pow-suc 2 n) in ratio-mul (pos 1) (pos 1) 2 (2 ^ n) (lit≤ tt) (pow_pos n) ∙ ap (λ k. ratio (pos 1) k) e

gaps : (N : Level) (M eps : Fraction) (n : ℕ) → IsEccentricity eps → HasGap N M eps (ratio (pos 1) (2 ^ n))
gaps N M eps zero i = first_gap N M eps i
gaps N M eps (suc n) i = subst (λ d. HasGap N M eps d) (half_gap n) (halve N M eps _ (gaps N M eps n i))

-- a gap of 2^-N holds a solution of level N
pub has_anomaly : (N : Level) (M eps : Fraction) → IsEccentricity eps → HasAnomaly N M eps
has_anomaly N M eps i =
    let g = gaps N M eps N.terms i in
    let p = has_pair N g.low in
    let q = has_pair N g.high in
    record {
      anomaly = g.low;
      sine = p.sine;
      cosine = p.cosine;
      pair = p.pair;
      solves = record {
        before = g.low;
        after = g.high;
        from_before = ≤ᶠ_refl g.low;
        to_after = g.ordered;
        close = apart g.low g.high (ratio (pos 1) (2 ^ N.terms)) g.narrow;
        sine_before = p.sine;
        is_sine_before = record { cosine = p.cosine; pair = p.pair };
        sine_after = q.sine;
        is_sine_after = record { cosine = q.cosine; pair = q.pair };
        below = g.low_at_most;
        above = g.high_at_least;
      };
    }
  where
    apart : (a b d : Fraction) → b ≤ᶠ a +ᶠ d → b -ᶠ a ≤ᶠ d
    apart a b d h = at_most (a ∷ b ∷ d ∷ []) ((a +ᶠ d) -ᶠ b) (search not_negative) (search quote depth 20) tt
