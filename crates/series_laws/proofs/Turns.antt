-- What is left from the nearest quarter turn is at most an eighth of a turn, and the sines of the model lie from -1 to 1.
use Rattle.std.specs.Prelude.{zero, suc, ℤ, pos, negsuc, ◌≤◌, [], ◌∷◌}
use Rattle.std.proofs.Common.{arith}
use Rattle.std.specs.Int.{int_rem_euclid}
use Rattle.fractions.specs.Fraction.{Fraction, ratio, whole, zeroᶠ, oneᶠ, ◌+ᶠ◌, ◌-ᶠ◌, ◌*ᶠ◌, neg, abs, ◌≤ᶠ◌, IsNear}
use Rattle.fractions.proofs.AbsoluteValues.{by_sign}
use Rattle.fractions.proofs.Certificates.{at_most, not_negative, constants}
use Rattle.fractions.proofs.Floors.{floor_low, floor_high}
use Rattle.fractions.proofs.Quote.{quote}
use Rattle.fractions.proofs.StrictOrder.{<ᶠ_at_most}
use Rattle.fractions.proofs.Ratios.{ratio-add}
use Rattle.raim_model.specs.Constants.{tau}
use Rattle.raim_model.specs.Level.{Level}
use Rattle.raim_model.specs.Sine.{quarter_of, turns_left, Turned, IsSineCosine}
use Rattle.series_laws.proofs.Units.{sine_small, cosine_small}

pub record IsEighth (r : Fraction) : Type 0 where
  pub low : neg (ratio (pos 1) 8) ≤ᶠ r
  pub high : r ≤ᶠ ratio (pos 1) 8

pub turns_small : (u : Fraction) → IsEighth (turns_left u)
turns_small u =
    let q : Fraction = whole (quarter_of u) in
    let f : q ≤ᶠ ratio (pos 4) 1 *ᶠ u +ᶠ ratio (pos 1) 2 = floor_low _ in
    let g : ratio (pos 4) 1 *ᶠ u +ᶠ ratio (pos 1) 2 ≤ᶠ q +ᶠ oneᶠ = rw (ratio-add (quarter_of u) (pos 1) 1) (<ᶠ_at_most (floor_high _)) in
    record {
      low = at_most (u ∷ q ∷ []) (ratio (pos 1) 4 *ᶠ ((ratio (pos 4) 1 *ᶠ u +ᶠ ratio (pos 1) 2) -ᶠ q)) (search not_negative) (search quote depth 20) tt;
      high = at_most (u ∷ q ∷ []) (ratio (pos 1) 4 *ᶠ ((q +ᶠ oneᶠ) -ᶠ (ratio (pos 4) 1 *ᶠ u +ᶠ ratio (pos 1) 2))) (search not_negative) (search quote depth 20) tt;
    }

pub radians_small : (r : Fraction) → IsEighth r → abs (tau *ᶠ r) ≤ᶠ ratio (pos 4) 5
radians_small r h =
    let small : tau *ᶠ ratio (pos 1) 8 ≤ᶠ ratio (pos 4) 5 = constants (search quote depth 20) tt in
    let up : r ≤ᶠ ratio (pos 1) 8 = h.high in
    let down : neg (ratio (pos 1) 8) ≤ᶠ r = h.low in
    by_sign (λ t. t ≤ᶠ ratio (pos 4) 5) (tau *ᶠ r)
    (λ _. at_most (r ∷ []) (tau *ᶠ (ratio (pos 1) 8 -ᶠ r) +ᶠ (ratio (pos 4) 5 -ᶠ tau *ᶠ ratio (pos 1) 8)) (search not_negative depth 8) (search quote depth 20) tt)
    (λ _. at_most (r ∷ []) (tau *ᶠ (r -ᶠ neg (ratio (pos 1) 8)) +ᶠ (ratio (pos 4) 5 -ᶠ tau *ᶠ ratio (pos 1) 8)) (search not_negative depth 8) (search quote depth 20) tt)

pub between : (s : Fraction) → IsNear s zeroᶠ oneᶠ → (neg oneᶠ ≤ᶠ s) × (s ≤ᶠ oneᶠ)
between s h =
    let a : s ≤ᶠ zeroᶠ +ᶠ oneᶠ = h.low in
    let b : zeroᶠ ≤ᶠ s +ᶠ oneᶠ = h.high in
    (at_most (s ∷ []) (s +ᶠ oneᶠ) b (search quote depth 20) tt, at_most (s ∷ []) ((zeroᶠ +ᶠ oneᶠ) -ᶠ s) (search not_negative) (search quote depth 20) tt)

-- from -1 to 1
pub record IsWithinOne (x : Fraction) : Type 0 where
  pub low : neg oneᶠ ≤ᶠ x
  pub high : x ≤ᶠ oneᶠ

near_zero_within : (s : Fraction) → IsNear s zeroᶠ oneᶠ → IsWithinOne s
near_zero_within s h = let b = between s h in record { low = b.0; high = b.1 }

neg_within : (x : Fraction) → IsWithinOne x → IsWithinOne (neg x)
neg_within x p =
    let l : neg oneᶠ ≤ᶠ x = p.low in
    let h : x ≤ᶠ oneᶠ = p.high in
    record { low = at_most (x ∷ []) (oneᶠ -ᶠ x) (search not_negative) (search quote depth 20) tt; high = at_most (x ∷ []) (x -ᶠ neg oneᶠ) (search not_negative) (search quote depth 20) tt }

turned_within : (k : ℤ) (a b s c : Fraction) → IsWithinOne a → IsWithinOne b → Turned k a b s c → IsWithinOne s × IsWithinOne c
turned_within (pos zero) a b s c p q t = (rw t.0 p, rw t.1 q)
turned_within (pos (suc zero)) a b s c p q t = (rw t.0 q, rw t.1 (neg_within a p))
turned_within (pos (suc (suc zero))) a b s c p q t = (rw t.0 (neg_within a p), rw t.1 (neg_within b q))
turned_within (pos (suc (suc (suc n)))) a b s c p q t = (rw t.0 (neg_within b q), rw t.1 p)
turned_within (negsuc n) a b s c p q t = (rw t.0 (neg_within b q), rw t.1 p)

-- both parts of the model's pair lie from -1 to 1
pub pair_within : (N : Level) (u s c : Fraction) → IsSineCosine N u s c → IsWithinOne s × IsWithinOne c
pair_within N u s c p =
    let r = radians_small (turns_left u) (turns_small u) in
    let m : 7 ≤ N.terms = omega (arith, N.enough) in
    let n : 2 ≤ N.terms = omega (arith, N.enough) in
    turned_within (int_rem_euclid (quarter_of u) (pos 4)) p.sine p.cosine s c
    (near_zero_within p.sine (sine_small N.terms (tau *ᶠ turns_left u) p.sine m r p.near_sine))
    (near_zero_within p.cosine (cosine_small N.terms (tau *ᶠ turns_left u) p.cosine n r p.near_cosine)) p.turned
