-- The quarters that an interval of turns meets.
use Rattle.std.specs.Prelude.{◌≡◌, ℤ, pos, ◌*◌, ◌^◌, refl, ◌+ℤ◌, ◌-ℤ◌, ◌*ℤ◌, neg_ℤ, ◌≤ℤ◌, [], ◌∷◌}
use Rattle.std.proofs.Common.{arith, ap, ◌∙◌}
use Rattle.std.proofs.lemmas.Int.{ints}
use Rattle.std.proofs.lemmas.Nat.{pow_pos}
use lib.Dec.{lit≤}
use Rattle.whole_numbers.specs.Rounding.{floor_of}
use Rattle.whole_numbers.proofs.Divisions.{floor_of_mono, floor_parts_low, floor_parts_high}
use Rattle.fractions.specs.Fraction.{Fraction, ratio, whole, ◌+ᶠ◌, ◌-ᶠ◌, ◌*ᶠ◌, ◌≤ᶠ◌}
use Rattle.fractions.proofs.Certificates.{at_most, not_negative}
use Rattle.fractions.proofs.Floors.{floor_low, ratio-floor_of, at_most-floor}
use Rattle.fractions.proofs.Laws.{≤ᶠ_trans}
use Rattle.fractions.proofs.Quote.{quote}
use Rattle.fractions.proofs.Ratios.{ratio-mul, ratio-add, ratio-same, ratio_at_most_out}
use Rattle.raim_model.specs.Sine.{quarter_of}
use Rattle.trig_laws.specs.SinCos.{nearest_quarter_of}

-- ---- the quarter of a fraction is between those of the ends
scaled : (z : ℤ) → ratio (pos 4) 1 *ᶠ ratio z (2 ^ 38) +ᶠ ratio (pos 1) 2 ≡ ratio (z +ℤ pos (2 ^ 35)) (2 ^ 36 * 1)
scaled z =
    ap (λ t. t +ᶠ ratio (pos 1) 2) (ratio-mul (pos 4) z 1 (2 ^ 38) (lit≤ tt) (pow_pos 38) ∙ ratio-same (pos 4 *ℤ z) z (1 * 2 ^ 38) (2 ^ 36) (pow_pos 38) (pow_pos 36) (fourth z))
    ∙ ap (λ t. ratio z (2 ^ 36) +ᶠ t) (ratio-same (pos 1) (pos (2 ^ 35)) 2 (2 ^ 36) (lit≤ tt) (pow_pos 36) refl)
    ∙ ratio-add z (pos (2 ^ 35)) (2 ^ 36)
  where
    fourth : (z : ℤ) → (pos 4 *ℤ z) *ℤ pos (2 ^ 36) ≡ z *ℤ pos (1 * 2 ^ 38)
    fourth z = omega (arith, ints)

pub quarter_above : (z : ℤ) (u : Fraction) → ratio z (2 ^ 38) ≤ᶠ u → nearest_quarter_of z ≤ℤ quarter_of u
quarter_above z u h =
    let e : Fraction = ratio z (2 ^ 38) in
    let k : ratio (pos 4) 1 *ᶠ e +ᶠ ratio (pos 1) 2 ≤ᶠ ratio (pos 4) 1 *ᶠ u +ᶠ ratio (pos 1) 2 = at_most (e ∷ u ∷ []) (ratio (pos 4) 1 *ᶠ (u -ᶠ e)) (search not_negative) (search quote depth 20) tt in
    (at_most-floor (nearest_quarter_of z) _).1 (≤ᶠ_trans (ratio-floor_of (z +ℤ pos (2 ^ 35)) (2 ^ 36) 1 (pow_pos 36) (lit≤ tt)) (rw (scaled z) at k))

pub quarter_below : (z : ℤ) (u : Fraction) → u ≤ᶠ ratio z (2 ^ 38) → quarter_of u ≤ℤ nearest_quarter_of z
quarter_below z u h =
    let e : Fraction = ratio z (2 ^ 38) in
    let k : ratio (pos 4) 1 *ᶠ u +ᶠ ratio (pos 1) 2 ≤ᶠ ratio (pos 4) 1 *ᶠ e +ᶠ ratio (pos 1) 2 = at_most (e ∷ u ∷ []) (ratio (pos 4) 1 *ᶠ (e -ᶠ u)) (search not_negative) (search quote depth 20) tt in
    let f : whole (quarter_of u) ≤ᶠ ratio (z +ℤ pos (2 ^ 35)) (2 ^ 36 * 1) = ≤ᶠ_trans (floor_low _) (rw (scaled z) at k) in
    least (quarter_of u) (z +ℤ pos (2 ^ 35)) (ratio_at_most_out (quarter_of u) (z +ℤ pos (2 ^ 35)) 1 (2 ^ 36) (lit≤ tt) (pow_pos 36) f)
  where
    least : (q y : ℤ) → (q *ℤ pos (2 ^ 36)) ≤ℤ (y *ℤ pos 1) → q ≤ℤ floor_of y (2 ^ 36)
    least q y h = omega (arith, ints, floor_parts_high y (2 ^ 36) (pow_pos 36))

-- ---- what a quarter between them leaves is an interval
pub quarter_spans : (z q : ℤ) → nearest_quarter_of z ≤ℤ q → (z -ℤ q *ℤ pos (2 ^ 36)) ≤ℤ pos (2 ^ 35)
quarter_spans z q h = omega (arith, ints, floor_parts_high (z +ℤ pos (2 ^ 35)) (2 ^ 36) (pow_pos 36))

pub spans_quarter : (z q : ℤ) → q ≤ℤ nearest_quarter_of z → neg_ℤ (pos (2 ^ 35)) ≤ℤ (z -ℤ q *ℤ pos (2 ^ 36))
spans_quarter z q h = omega (arith, ints, floor_parts_low (z +ℤ pos (2 ^ 35)) (2 ^ 36) (pow_pos 36))

pub quarter_mono : (y z : ℤ) → y ≤ℤ z → nearest_quarter_of y ≤ℤ nearest_quarter_of z
quarter_mono y z h = floor_of_mono (y +ℤ pos (2 ^ 35)) (z +ℤ pos (2 ^ 35)) (2 ^ 36) (pow_pos 36) (omega (arith, ints))
