-- The model is the same a whole number of turns on.
use Rattle.std.specs.Prelude.{◌≡◌, ℤ, pos, negsuc, ◌+ℤ◌, ◌-ℤ◌, ◌*ℤ◌, neg_ℤ, ◌≤ℤ◌, [], ◌∷◌}
use Rattle.std.proofs.Common.{arith, ap, sym, ◌∙◌, subst}
use Rattle.std.proofs.lemmas.Int.{ints}
use Rattle.std.specs.Int.{int_div_euclid, int_rem_euclid}
use lib.Dec.{lit≤}
use Rattle.whole_numbers.proofs.Divisions.{floor_parts_low, floor_parts_high}
use Rattle.fractions.specs.Floor.{floor}
use Rattle.fractions.specs.Fraction.{Fraction, ratio, whole, ◌+ᶠ◌, ◌-ᶠ◌, ◌*ᶠ◌, ◌≤ᶠ◌, IsNear}
use Rattle.fractions.proofs.Certificates.{at_most, not_negative}
use Rattle.fractions.proofs.Floors.{floor_low, at_most-floor}
use Rattle.fractions.proofs.Laws.{+ᶠ_mono_left}
use Rattle.fractions.proofs.Quote.{quote, identity}
use Rattle.fractions.proofs.Ratios.{ratio-add, ratio-mul, neg-ratio}
use Rattle.raim_model.specs.Constants.{tau}
use Rattle.raim_model.specs.Level.{Level}
use Rattle.raim_model.specs.Series.{sine_series, cosine_series, sine_remainder, cosine_remainder}
use Rattle.raim_model.specs.Sine.{IsSineCosine, Turned, quarter_of, turns_left}

-- ---- the floor of a fraction and a whole number
pub floor-add : (x : Fraction) (m : ℤ) → floor (x +ᶠ whole m) ≡ floor x +ℤ m
floor-add x m =
    let f : ℤ = floor x in
    let g : ℤ = floor (x +ᶠ whole m) in
    let a : whole (f +ℤ m) ≤ᶠ x +ᶠ whole m = rw (sym (ratio-add f m 1)) (+ᶠ_mono_left (whole m) (floor_low x)) in
    let e : (g -ℤ m) +ℤ m ≡ g = omega (arith, ints) in
    let s : whole (g -ℤ m) +ᶠ whole m ≡ whole g = ratio-add (g -ℤ m) m 1 ∙ ap (λ t. ratio t 1) e in
    let p : Fraction = whole (g -ℤ m) in
    let n : Fraction = whole m in
    let l : p +ᶠ n ≤ᶠ x +ᶠ n = rw s (floor_low (x +ᶠ whole m)) in
    let b : p ≤ᶠ x = at_most (x ∷ p ∷ n ∷ []) ((x +ᶠ n) -ᶠ (p +ᶠ n)) (search not_negative) (search quote depth 20) tt in
    let h : (f +ℤ m) ≤ℤ g = (at_most-floor (f +ℤ m) _).1 a in
    let k : (g -ℤ m) ≤ℤ f = (at_most-floor (g -ℤ m) x).1 b in
    omega (arith, ints)

-- ---- the quarter and what is left
four_times : (w : ℤ) → ratio (pos 4) 1 *ᶠ whole w ≡ whole (pos 4 *ℤ w)
four_times w = ratio-mul (pos 4) w 1 1 (lit≤ tt) (lit≤ tt)

pub quarter-add : (u : Fraction) (w : ℤ) → quarter_of (u +ᶠ whole w) ≡ quarter_of u +ℤ (pos 4 *ℤ w)
quarter-add u w = ap floor (moved u (whole w) ∙ ap (λ t. (ratio (pos 4) 1 *ᶠ u +ᶠ ratio (pos 1) 2) +ᶠ t) (four_times w)) ∙ floor-add (ratio (pos 4) 1 *ᶠ u +ᶠ ratio (pos 1) 2) (pos 4 *ℤ w)
  where
    moved : (u x : Fraction) → ratio (pos 4) 1 *ᶠ (u +ᶠ x) +ᶠ ratio (pos 1) 2 ≡ (ratio (pos 4) 1 *ᶠ u +ᶠ ratio (pos 1) 2) +ᶠ ratio (pos 4) 1 *ᶠ x
    moved u x = identity (u ∷ x ∷ []) (search quote depth 20) tt

pub turns-add : (u : Fraction) (w : ℤ) → turns_left (u +ᶠ whole w) ≡ turns_left u
turns-add u w =
    let q : ℤ = quarter_of u in
    let e : whole (quarter_of (u +ᶠ whole w)) ≡ whole q +ᶠ ratio (pos 4) 1 *ᶠ whole w = ap (λ t. ratio t 1) (quarter-add u w) ∙ sym (ratio-add q (pos 4 *ℤ w) 1) ∙ ap (λ t. whole q +ᶠ t) (sym (four_times w)) in
    ap (λ t. (u +ᶠ whole w) -ᶠ t *ᶠ ratio (pos 1) 4) e ∙ left u (whole w) (whole q)
  where
    left : (u x q : Fraction) → (u +ᶠ x) -ᶠ (q +ᶠ ratio (pos 4) 1 *ᶠ x) *ᶠ ratio (pos 1) 4 ≡ u -ᶠ q *ᶠ ratio (pos 1) 4
    left u x q = identity (u ∷ x ∷ q ∷ []) (search quote depth 20) tt

rem_parts : (q : ℤ) → int_rem_euclid q (pos 4) ≡ q -ℤ (int_div_euclid q (pos 4) *ℤ pos 4)
rem_parts (pos a) = omega (arith, ints)
rem_parts (negsuc a) = omega (arith, ints)

pub rem-add : (q w : ℤ) → int_rem_euclid (q +ℤ (pos 4 *ℤ w)) (pos 4) ≡ int_rem_euclid q (pos 4)
rem-add q w =
    let r : ℤ = q +ℤ (pos 4 *ℤ w) in
    let e : int_div_euclid r (pos 4) ≡ int_div_euclid q (pos 4) +ℤ w = omega (arith, ints, floor_parts_low q 4 (lit≤ tt), floor_parts_high q 4 (lit≤ tt), floor_parts_low r 4 (lit≤ tt), floor_parts_high r 4 (lit≤ tt)) in
    let a = rem_parts q in
    let b = rem_parts r in
    omega (arith, ints)

-- the model's sine and cosine are the same w turns on
pub sine_on : (N : Level) (u s c : Fraction) (w : ℤ) → IsSineCosine N u s c → IsSineCosine N (u +ᶠ whole w) s c
sine_on N u s c w p = record {
  sine = p.sine;
  cosine = p.cosine;
  near_sine = subst (λ t. IsNear p.sine (sine_series N.terms (tau *ᶠ t)) (sine_remainder N.terms (tau *ᶠ t))) (sym (turns-add u w)) p.near_sine;
  near_cosine = subst (λ t. IsNear p.cosine (cosine_series N.terms (tau *ᶠ t)) (cosine_remainder N.terms (tau *ᶠ t))) (sym (turns-add u w)) p.near_cosine;
  turned = subst (λ k. Turned k p.sine p.cosine s c) (sym (ap (λ t. int_rem_euclid t (pos 4)) (quarter-add u w) ∙ rem-add (quarter_of u) w)) p.turned;
}

pub sine_back : (N : Level) (u s c : Fraction) (w : ℤ) → IsSineCosine N u s c → IsSineCosine N (u -ᶠ whole w) s c
sine_back N u s c w p = subst (λ t. IsSineCosine N (u +ᶠ t) s c) (sym (neg-ratio w 1)) (sine_on N u s c (neg_ℤ w) p)
