-- The sine and cosine over intervals are the same a whole number of turns on.
use Rattle.std.specs.Prelude.{◌≡◌, ℕ, zero, suc, ℤ, pos, ◌^◌, ◌+ℤ◌, ◌-ℤ◌, ◌*ℤ◌, cond, unsigned_abs}
use Rattle.std.proofs.Common.{arith, ap, ap₂, ◌∙◌}
use Rattle.std.proofs.lemmas.Int.{ints}
use Rattle.std.proofs.lemmas.Nat.{pow_pos}
use lib.Signed.{le_z}
use Rattle.whole_numbers.proofs.Divisions.{floor_parts_low, floor_parts_high}
use Rattle.fix_interval.specs.Bounds.{clamp_of}
use Rattle.fix_interval.specs.Ends.{Ends}
use Rattle.fix_interval.specs.Sums.{sub_of}
use Rattle.fix_interval.specs.Pairs.{full_pair, pair_hull, hull_from}
use Rattle.series_laws.proofs.Periods.{rem-add}
use Rattle.trig_laws.specs.Quarter.{sine_of, cosine_of, left_of}
use Rattle.trig_laws.specs.SinCos.{turn_of, pair_at, nearest_quarter_of, sin_cos_of}

-- a, w turns on
abbrev pub turned_on : Ends → ℤ → Ends
turned_on a w = record { lo = a.lo +ℤ (w *ℤ pos (2 ^ 38)); hi = a.hi +ℤ (w *ℤ pos (2 ^ 38)) }

pub nearest_quarter_of-add : (z w : ℤ) → nearest_quarter_of (z +ℤ (w *ℤ pos (2 ^ 38))) ≡ nearest_quarter_of z +ℤ (pos 4 *ℤ w)
nearest_quarter_of-add z w =
    let y : ℤ = z +ℤ pos (2 ^ 35) in
    let v : ℤ = (z +ℤ (w *ℤ pos (2 ^ 38))) +ℤ pos (2 ^ 35) in
    omega (arith, ints, floor_parts_low y (2 ^ 36) (pow_pos 36), floor_parts_high y (2 ^ 36) (pow_pos 36), floor_parts_low v (2 ^ 36) (pow_pos 36), floor_parts_high v (2 ^ 36) (pow_pos 36))

left-add : (a : Ends) (q w : ℤ) → left_of (turned_on a w) (q +ℤ (pos 4 *ℤ w)) ≡ left_of a q
unfolding left_of sub_of
left-add a q w = ap₂ (λ y z. clamp_of record { lo = y; hi = z } (pos (2 ^ 35))) (same a.lo) (same a.hi)
  where
    same : (z : ℤ) → (z +ℤ (w *ℤ pos (2 ^ 38))) -ℤ ((q +ℤ (pos 4 *ℤ w)) *ℤ pos (2 ^ 36)) ≡ z -ℤ (q *ℤ pos (2 ^ 36))
    same z = omega (arith, ints)

pair-add : (a : Ends) (q w : ℤ) → pair_at (turned_on a w) (q +ℤ (pos 4 *ℤ w)) ≡ pair_at a q
unfolding pair_at
pair-add a q w = ap₂ (λ k l. turn_of k (sine_of l) (cosine_of l)) (rem-add q w) (left-add a q w)

hulls-add : (a : Ends) (q w : ℤ) (n : ℕ) → hull_from (pair_at (turned_on a w)) (q +ℤ (pos 4 *ℤ w)) n ≡ hull_from (pair_at a) q n
unfolding hull_from
hulls-add a q w zero = pair-add a q w
hulls-add a q w (suc n) =
    let e : (q +ℤ (pos 4 *ℤ w)) +ℤ pos (suc n) ≡ (q +ℤ pos (suc n)) +ℤ (pos 4 *ℤ w) = omega (arith, ints) in
    ap₂ pair_hull (hulls-add a q w n) (ap (pair_at (turned_on a w)) e ∙ pair-add a (q +ℤ pos (suc n)) w)

-- the written sine and cosine are the same w turns on
pub sin_cos_on : (a : Ends) (w : ℤ) → sin_cos_of (turned_on a w) ≡ sin_cos_of a
unfolding sin_cos_of
sin_cos_on a w =
    let f : ℤ = nearest_quarter_of a.lo in
    let l : ℤ = nearest_quarter_of a.hi in
    let n : unsigned_abs (nearest_quarter_of (turned_on a w).hi -ℤ nearest_quarter_of (turned_on a w).lo) ≡ unsigned_abs (l -ℤ f) = ap₂ (λ y z. unsigned_abs (y -ℤ z)) (nearest_quarter_of-add a.hi w) (nearest_quarter_of-add a.lo w) ∙ ap unsigned_abs (apart f l) in
    ap₂ (λ d p. cond (le_z (pos (2 ^ 38)) d) full_pair p) width (ap₂ (hull_from (pair_at (turned_on a w))) (nearest_quarter_of-add a.lo w) n ∙ hulls-add a f w (unsigned_abs (l -ℤ f)))
  where
    apart : (f l : ℤ) → (l +ℤ (pos 4 *ℤ w)) -ℤ (f +ℤ (pos 4 *ℤ w)) ≡ l -ℤ f
    apart f l = omega (arith, ints)

    width : (turned_on a w).hi -ℤ (turned_on a w).lo ≡ a.hi -ℤ a.lo
    width = omega (arith, ints)
