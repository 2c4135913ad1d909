-- Kepler's lemma, and what one test says of each solution.
use Rattle.std.specs.Prelude.{◌≡◌, ℤ, pos, negsuc, ◌^◌, ◌≤◌, refl, ◌+ℤ◌, ◌-ℤ◌, ◌≤ℤ◌, [], ◌∷◌}
use Rattle.std.proofs.Common.{arith, ap, sym, ◌∙◌}
use Rattle.std.proofs.lemmas.Int.{ints}
use Rattle.std.proofs.lemmas.Nat.{pow_pos}
use Rattle.std.proofs.Math.Nat.{pow-le-pow_right}
use lib.Dec.{lit≤}
use Rattle.fractions.specs.Fraction.{Fraction, ratio, zeroᶠ, ◌+ᶠ◌, ◌-ᶠ◌, ◌*ᶠ◌, ◌≤ᶠ◌}
use Rattle.fractions.proofs.Certificates.{at_most, not_negative, constants}
use Rattle.fractions.proofs.Laws.{≤ᶠ_refl, ≤ᶠ_trans, by_order}
use Rattle.fractions.proofs.Quote.{quote}
use Rattle.fractions.proofs.Ratios.{ratio-add, ratio_mono, ratio_anti}
use Rattle.raim_model.specs.Kepler.{SolvesKepler}
use Rattle.raim_model.specs.Level.{Level}
use Rattle.raim_model.specs.Sine.{IsSineCosine}
use Rattle.fix_interval.specs.Ends.{Ends}
use Rattle.fix_interval.specs.Lies.{Lies}
use Rattle.fix_interval.proofs.EndProducts.{mul_encloses}
use Rattle.fix_interval.proofs.EndSums.{sub_encloses}
use Rattle.series_laws.proofs.Pairs.{has_pair}
use Rattle.series_laws.proofs.Slow.{sine_moves, gap45}
use Rattle.trig_laws.proofs.Close.{unit}
use Rattle.trig_laws.proofs.Encloses.{sin_cos_encloses}
use Rattle.kepler_laws.specs.Anomalies.{mean_of}

-- 2^-52
abbrev pub gap52 : Fraction
gap52 = ratio (pos 1) (2 ^ 52)

-- eps from 0 to 2^-7
pub record IsEccentricity (eps : Fraction) : Type 0 where
  pub low : zeroᶠ ≤ᶠ eps
  pub high : eps ≤ᶠ ratio (pos 1) 128

-- THE LEMMA: u - eps sin u rises
pub rises : (N M : Level) (eps u v s c t d : Fraction) → IsEccentricity eps → u ≤ᶠ v → IsSineCosine N u s c → IsSineCosine M v t d
    → ratio (pos 118) 128 *ᶠ (v -ᶠ u) ≤ᶠ ((v -ᶠ eps *ᶠ t) -ᶠ (u -ᶠ eps *ᶠ s)) +ᶠ gap52
rises N M eps u v s c t d i h p q =
    let n = sine_moves N M u v s c t d h p q in
    let nh : t ≤ᶠ s +ᶠ (ratio (pos 10) 1 *ᶠ (v -ᶠ u) +ᶠ gap45) = n.high in
    let el : zeroᶠ ≤ᶠ eps = i.low in
    let eh : eps ≤ᶠ ratio (pos 1) 128 = i.high in
    at_most (eps ∷ u ∷ v ∷ s ∷ t ∷ [])
    (eps *ᶠ ((s +ᶠ (ratio (pos 10) 1 *ᶠ (v -ᶠ u) +ᶠ gap45)) -ᶠ t) +ᶠ (ratio (pos 1) 128 -ᶠ eps) *ᶠ (ratio (pos 10) 1 *ᶠ (v -ᶠ u) +ᶠ gap45))
    (search not_negative depth 10) (search quote depth 40 fits 30000) tt

-- ---- the mean anomaly of k units holds that of the model
pub mean_encloses : (N : Level) (eps : Ends) (k : ℤ) (e s c : Fraction) → Lies eps 38 e → IsSineCosine N (ratio k (2 ^ 38)) s c → Lies (mean_of eps k) 38 (ratio k (2 ^ 38) -ᶠ e *ᶠ s)
unfolding mean_of
mean_encloses N eps k e s c l p =
    let x : Fraction = ratio k (2 ^ 38) in
    let at : Lies record { lo = k; hi = k } 38 x = record { low = ≤ᶠ_refl x; high = ≤ᶠ_refl x } in
    let o : k ≤ℤ k = omega (arith, ints) in
    sub_encloses refl 38 x (e *ᶠ s) at (mul_encloses refl e s l (sin_cos_encloses refl o N x s c at p).sine)

-- ---- the gap of the model
pub model_gap : (N : Level) → ratio (pos 1) (2 ^ N.terms) ≤ᶠ ratio (pos 1) (2 ^ 60)
model_gap N = ratio_anti (2 ^ 60) (2 ^ N.terms) (pow_pos 60) (let more : 60 ≤ N.terms = omega (arith, N.enough) in pow-le-pow_right (lit≤ tt) more)

gaps : ratio (pos 128) 118 *ᶠ gap52 +ᶠ ratio (pos 1) (2 ^ 60) ≤ᶠ unit
gaps = constants (search quote depth 20) tt

small_gap : ratio (pos 1) (2 ^ 60) ≤ᶠ unit
small_gap = constants (search quote depth 20) tt

-- where the mean anomaly of k is at most m, no solution for a mean anomaly from m on is more than a unit below k
pub below_solutions : (N : Level) (eps : Ends) (k m : ℤ) (M e E : Fraction) → IsEccentricity e → Lies eps 38 e → (mean_of eps k).hi ≤ℤ m → ratio m (2 ^ 38) ≤ᶠ M → SolvesKepler N M e E → ratio (k -ℤ pos 1) (2 ^ 38) ≤ᶠ E
below_solutions N eps k m M e E i l h hM p =
    let x : Fraction = ratio k (2 ^ 38) in
    let w = has_pair N x in
    let s : Fraction = w.sine in
    let a : Fraction = p.before in
    let b : Fraction = p.after in
    let t : Fraction = p.sine_after in
    let g : Fraction = ratio (pos 1) (2 ^ N.terms) in
    let gN : g ≤ᶠ ratio (pos 1) (2 ^ 60) = model_gap N in
    let aE : a ≤ᶠ E = p.from_before in
    let cl : b -ᶠ a ≤ᶠ g = p.close in
    let ba : b ≤ᶠ a +ᶠ g = at_most (a ∷ b ∷ g ∷ []) (g -ᶠ (b -ᶠ a)) (search not_negative) (search quote depth 20) tt in
    let xm : x -ᶠ e *ᶠ s ≤ᶠ b -ᶠ e *ᶠ t = ≤ᶠ_trans (mean_encloses N eps k e s w.cosine l w.pair).high (≤ᶠ_trans (ratio_mono (2 ^ 38) h) (≤ᶠ_trans hM p.above)) in
    let sg : ratio (pos 1) (2 ^ 60) ≤ᶠ unit = small_gap in
    let gg : ratio (pos 128) 118 *ᶠ gap52 +ᶠ ratio (pos 1) (2 ^ 60) ≤ᶠ unit = gaps in
    rw (minus_one k) (by_order x b
    (λ xb. at_most (x ∷ a ∷ b ∷ g ∷ E ∷ []) ((E -ᶠ a) +ᶠ ((a +ᶠ g) -ᶠ b) +ᶠ (b -ᶠ x) +ᶠ (ratio (pos 1) (2 ^ 60) -ᶠ g) +ᶠ (unit -ᶠ ratio (pos 1) (2 ^ 60))) (search not_negative depth 10) (search quote depth 40 fits 30000) tt)
    (λ bx.
    let r : ratio (pos 118) 128 *ᶠ (x -ᶠ b) ≤ᶠ ((x -ᶠ e *ᶠ s) -ᶠ (b -ᶠ e *ᶠ t)) +ᶠ gap52 = rises N N e b x t p.is_sine_after.cosine s w.cosine i bx p.is_sine_after.pair w.pair in
    let close : x -ᶠ b ≤ᶠ ratio (pos 128) 118 *ᶠ gap52 = at_most (x ∷ b ∷ e ∷ s ∷ t ∷ []) (ratio (pos 128) 118 *ᶠ (((((x -ᶠ e *ᶠ s) -ᶠ (b -ᶠ e *ᶠ t)) +ᶠ gap52) -ᶠ ratio (pos 118) 128 *ᶠ (x -ᶠ b)) +ᶠ ((b -ᶠ e *ᶠ t) -ᶠ (x -ᶠ e *ᶠ s)))) (search not_negative depth 10) (search quote depth 40 fits 30000) tt in
    at_most (x ∷ a ∷ b ∷ g ∷ E ∷ []) ((E -ᶠ a) +ᶠ ((a +ᶠ g) -ᶠ b) +ᶠ (ratio (pos 128) 118 *ᶠ gap52 -ᶠ (x -ᶠ b)) +ᶠ (ratio (pos 1) (2 ^ 60) -ᶠ g) +ᶠ (unit -ᶠ (ratio (pos 128) 118 *ᶠ gap52 +ᶠ ratio (pos 1) (2 ^ 60)))) (search not_negative depth 10) (search quote depth 40 fits 30000) tt))
  where
    minus_one : (k : ℤ) → ratio (k -ℤ pos 1) (2 ^ 38) ≡ ratio k (2 ^ 38) +ᶠ ratio (negsuc 0) (2 ^ 38)
    minus_one k = let e : k -ℤ pos 1 ≡ k +ℤ negsuc 0 = omega (arith, ints) in ap (λ t. ratio t (2 ^ 38)) e ∙ sym (ratio-add k (negsuc 0) (2 ^ 38))

-- and where it is at least m, none for a mean anomaly up to m is more than a unit above k
pub above_solutions : (N : Level) (eps : Ends) (k m : ℤ) (M e E : Fraction) → IsEccentricity e → Lies eps 38 e → m ≤ℤ (mean_of eps k).lo → M ≤ᶠ ratio m (2 ^ 38) → SolvesKepler N M e E → E ≤ᶠ ratio (k +ℤ pos 1) (2 ^ 38)
above_solutions N eps k m M e E i l h hM p =
    let x : Fraction = ratio k (2 ^ 38) in
    let w = has_pair N x in
    let s : Fraction = w.sine in
    let a : Fraction = p.before in
    let b : Fraction = p.after in
    let t : Fraction = p.sine_before in
    let g : Fraction = ratio (pos 1) (2 ^ N.terms) in
    let gN : g ≤ᶠ ratio (pos 1) (2 ^ 60) = model_gap N in
    let Eb : E ≤ᶠ b = p.to_after in
    let cl : b -ᶠ a ≤ᶠ g = p.close in
    let ba : b ≤ᶠ a +ᶠ g = at_most (a ∷ b ∷ g ∷ []) (g -ᶠ (b -ᶠ a)) (search not_negative) (search quote depth 20) tt in
    let mx : a -ᶠ e *ᶠ t ≤ᶠ x -ᶠ e *ᶠ s = ≤ᶠ_trans p.below (≤ᶠ_trans hM (≤ᶠ_trans (ratio_mono (2 ^ 38) h) (mean_encloses N eps k e s w.cosine l w.pair).low)) in
    let sg : ratio (pos 1) (2 ^ 60) ≤ᶠ unit = small_gap in
    let gg : ratio (pos 128) 118 *ᶠ gap52 +ᶠ ratio (pos 1) (2 ^ 60) ≤ᶠ unit = gaps in
    rw (sym (ratio-add k (pos 1) (2 ^ 38))) (by_order a x
    (λ ax. at_most (x ∷ a ∷ b ∷ g ∷ E ∷ []) ((b -ᶠ E) +ᶠ ((a +ᶠ g) -ᶠ b) +ᶠ (x -ᶠ a) +ᶠ (ratio (pos 1) (2 ^ 60) -ᶠ g) +ᶠ (unit -ᶠ ratio (pos 1) (2 ^ 60))) (search not_negative depth 10) (search quote depth 40 fits 30000) tt)
    (λ xa.
    let r : ratio (pos 118) 128 *ᶠ (a -ᶠ x) ≤ᶠ ((a -ᶠ e *ᶠ t) -ᶠ (x -ᶠ e *ᶠ s)) +ᶠ gap52 = rises N N e x a s w.cosine t p.is_sine_before.cosine i xa w.pair p.is_sine_before.pair in
    let close : a -ᶠ x ≤ᶠ ratio (pos 128) 118 *ᶠ gap52 = at_most (x ∷ a ∷ e ∷ s ∷ t ∷ []) (ratio (pos 128) 118 *ᶠ (((((a -ᶠ e *ᶠ t) -ᶠ (x -ᶠ e *ᶠ s)) +ᶠ gap52) -ᶠ ratio (pos 118) 128 *ᶠ (a -ᶠ x)) +ᶠ ((x -ᶠ e *ᶠ s) -ᶠ (a -ᶠ e *ᶠ t)))) (search not_negative depth 10) (search quote depth 40 fits 30000) tt in
    at_most (x ∷ a ∷ b ∷ g ∷ E ∷ []) ((b -ᶠ E) +ᶠ ((a +ᶠ g) -ᶠ b) +ᶠ (ratio (pos 128) 118 *ᶠ gap52 -ᶠ (a -ᶠ x)) +ᶠ (ratio (pos 1) (2 ^ 60) -ᶠ g) +ᶠ (unit -ᶠ (ratio (pos 128) 118 *ᶠ gap52 +ᶠ ratio (pos 1) (2 ^ 60)))) (search not_negative depth 10) (search quote depth 40 fits 30000) tt))
