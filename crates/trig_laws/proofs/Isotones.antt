-- Wider turns give wider sines and cosines.
use Rattle.std.specs.Prelude.{zero, suc, ℤ, pos, negsuc, ◌^◌, refl, ◌*ℤ◌, ◌≤ℤ◌}
use Rattle.std.proofs.Common.{arith}
use Rattle.std.proofs.lemmas.Int.{ints, clamps}
use Rattle.std.specs.Int.{int_rem_euclid}
use lib.Dec.{lit≤}
use Rattle.whole_numbers.proofs.Divisions.{floor_of_mono, ceil_of_mono}
use Rattle.fractions.specs.Fraction.{ratio, ◌≤ᶠ◌}
use Rattle.fractions.proofs.Laws.{not_negative_square}
use Rattle.fractions.proofs.Ratios.{ratio_at_most_out}
use Rattle.fix_interval.specs.Bounds.{clamp_of, widen_of}
use Rattle.fix_interval.specs.Ends.{Ends, IsInside}
use Rattle.fix_interval.specs.Products.{sqr_wide_of, sqr_of, narrow76_of, mul_of, mul_wide_of}
use Rattle.fix_interval.specs.Quotients.{div_int_of, scale_of}
use Rattle.fix_interval.specs.Sums.{sub_of, neg_of}
use Rattle.fix_interval.proofs.EndProducts.{corner, mul_isotone, rounded_ordered}
use Rattle.fix_interval.proofs.EndSquares.{sqr_isotone}
use Rattle.fix_interval.specs.Ranges.{unit_ends, full_ends}
use Rattle.fix_interval.specs.Pairs.{PairInside}
use Rattle.fix_interval.proofs.EndInsides.{inside_trans}
use Rattle.fix_interval.proofs.EndSums.{neg_isotone}
use Rattle.trig_laws.specs.Quarter.{nested_of, trimmed, radians_of, sine_of, cosine_of, turn_parts, left_of, eighth_ends, sine_divisors, cosine_divisors}
use Rattle.trig_laws.specs.SinCos.{turn_of, pair_at, nearest_quarter_of}
use Rattle.trig_laws.proofs.Nested.{Positive, nested_isotone, none, more}
use Rattle.trig_laws.proofs.Quarters.{quarter_spans, spans_quarter}

pub whole_order : (m n : ℤ) → ratio m 1 ≤ᶠ ratio n 1 → m ≤ℤ n
whole_order m n h = let k = ratio_at_most_out m n 1 1 (lit≤ tt) (lit≤ tt) h in omega (arith, ints)

pub square_at_least : (z : ℤ) → pos 0 ≤ℤ (z *ℤ z)
square_at_least z = whole_order (pos 0) (z *ℤ z) (rw (corner z z 0 0) at (not_negative_square (ratio z 1)))

-- ---- the least square
-- ---- radians
pub radians_isotone : (a c : Ends) → IsInside a c → IsInside (radians_of a) (radians_of c)
unfolding scale_of
radians_isotone a c p = record {
  low = floor_of_mono (c.lo *ℤ pos turn_parts) (a.lo *ℤ pos turn_parts) (10 ^ 13) (lit≤ tt) (times c.lo a.lo p.low);
  ordered = rounded_ordered (a.lo *ℤ pos turn_parts) (a.hi *ℤ pos turn_parts) (10 ^ 13) (lit≤ tt) (times a.lo a.hi p.ordered);
  high = ceil_of_mono (a.hi *ℤ pos turn_parts) (c.hi *ℤ pos turn_parts) (10 ^ 13) (lit≤ tt) (times a.hi c.hi p.high);
}
  where
    times : (y z : ℤ) → y ≤ℤ z → (y *ℤ pos turn_parts) ≤ℤ (z *ℤ pos turn_parts)
    times y z h = omega (arith, ints)

-- ---- a unit outward, then from -1 to 1
pub trimmed_isotone : (a c : Ends) → IsInside a full_ends → IsInside a c → IsInside (trimmed a) (trimmed c)
unfolding widen_of clamp_of
trimmed_isotone a c f p = record { low = omega (arith, ints, clamps); ordered = omega (arith, ints, clamps); high = omega (arith, ints, clamps) }

pub trimmed_full : (a : Ends) → IsInside a full_ends → IsInside (trimmed a) full_ends
unfolding widen_of clamp_of
trimmed_full a f = record { low = omega (arith, ints, clamps); ordered = omega (arith, ints, clamps); high = omega (arith, ints, clamps) }

-- ---- at most an eighth of a turn either way
pub sine_positive : Positive sine_divisors
sine_positive = more (lit≤ tt) (more (lit≤ tt) (more (lit≤ tt) (more (lit≤ tt) (more (lit≤ tt) (more (lit≤ tt) none)))))

pub cosine_positive : Positive cosine_divisors
cosine_positive = more (lit≤ tt) (more (lit≤ tt) (more (lit≤ tt) (more (lit≤ tt) (more (lit≤ tt) (more (lit≤ tt) none)))))

square_widest : IsInside (sqr_of (radians_of eighth_ends)) unit_ends
unfolding sqr_of sqr_wide_of narrow76_of scale_of
square_widest = record { low = record { le = tt }; ordered = record { le = tt }; high = record { le = tt } }

sine_widest : IsInside (mul_of (radians_of eighth_ends) (nested_of (sqr_of (radians_of eighth_ends)) sine_divisors)) full_ends
unfolding nested_of sub_of mul_of mul_wide_of sqr_of sqr_wide_of narrow76_of scale_of div_int_of
sine_widest = record { low = record { le = tt }; ordered = record { le = tt }; high = record { le = tt } }

cosine_widest : IsInside (nested_of (sqr_of (radians_of eighth_ends)) cosine_divisors) full_ends
unfolding nested_of sub_of mul_of mul_wide_of sqr_of sqr_wide_of narrow76_of scale_of div_int_of
cosine_widest = record { low = record { le = tt }; ordered = record { le = tt }; high = record { le = tt } }

pub square_isotone : (r c : Ends) → IsInside r c → IsInside (sqr_of (radians_of r)) (sqr_of (radians_of c))
square_isotone r c p = sqr_isotone refl (radians_of c) (radians_isotone r c p)

pub square_unit : (r : Ends) → IsInside r eighth_ends → IsInside (sqr_of (radians_of r)) unit_ends
square_unit r p = inside_trans (square_isotone r eighth_ends p) square_widest

sine_inner : (r c : Ends) → IsInside r c → IsInside (mul_of (radians_of r) (nested_of (sqr_of (radians_of r)) sine_divisors)) (mul_of (radians_of c) (nested_of (sqr_of (radians_of c)) sine_divisors))
sine_inner r c p = mul_isotone refl _ _ (radians_isotone r c p) (nested_isotone _ _ sine_divisors sine_positive (square_isotone r c p))

cosine_inner : (r c : Ends) → IsInside r c → IsInside (nested_of (sqr_of (radians_of r)) cosine_divisors) (nested_of (sqr_of (radians_of c)) cosine_divisors)
cosine_inner r c p = nested_isotone _ _ cosine_divisors cosine_positive (square_isotone r c p)

pub sine_isotone : (r c : Ends) → IsInside r eighth_ends → IsInside r c → IsInside (sine_of r) (sine_of c)
unfolding sine_of
sine_isotone r c f p = trimmed_isotone _ _ (inside_trans (sine_inner r eighth_ends f) sine_widest) (sine_inner r c p)

pub cosine_isotone : (r c : Ends) → IsInside r eighth_ends → IsInside r c → IsInside (cosine_of r) (cosine_of c)
unfolding cosine_of
cosine_isotone r c f p = trimmed_isotone _ _ (inside_trans (cosine_inner r eighth_ends f) cosine_widest) (cosine_inner r c p)

pub sine_full : (r : Ends) → IsInside r eighth_ends → IsInside (sine_of r) full_ends
unfolding sine_of
sine_full r f = trimmed_full _ (inside_trans (sine_inner r eighth_ends f) sine_widest)

pub cosine_full : (r : Ends) → IsInside r eighth_ends → IsInside (cosine_of r) full_ends
unfolding cosine_of
cosine_full r f = trimmed_full _ (inside_trans (cosine_inner r eighth_ends f) cosine_widest)

-- ---- what is left at a quarter
pub left_isotone : (a c : Ends) (q : ℤ) → nearest_quarter_of a.lo ≤ℤ q → q ≤ℤ nearest_quarter_of a.hi → IsInside a c → IsInside (left_of a q) (left_of c q)
unfolding left_of clamp_of sub_of
left_isotone a c q h k p =
    let i = quarter_spans a.lo q h in
    let j = spans_quarter a.hi q k in
    record { low = omega (arith, ints, clamps); ordered = omega (arith, ints, clamps); high = omega (arith, ints, clamps) }

pub left_eighth : (a : Ends) (q : ℤ) → a.lo ≤ℤ a.hi → nearest_quarter_of a.lo ≤ℤ q → q ≤ℤ nearest_quarter_of a.hi → IsInside (left_of a q) eighth_ends
unfolding left_of clamp_of sub_of
left_eighth a q o h k =
    let i = quarter_spans a.lo q h in
    let j = spans_quarter a.hi q k in
    record { low = omega (arith, ints, clamps); ordered = omega (arith, ints, clamps); high = omega (arith, ints, clamps) }

-- ---- turned by quarters
pub turn_isotone : (k : ℤ) (a b c d : Ends) → IsInside a c → IsInside b d → PairInside (turn_of k a b) (turn_of k c d)
turn_isotone (pos zero) a b c d p q = record { sine = p; cosine = q }
turn_isotone (pos (suc zero)) a b c d p q = record { sine = q; cosine = neg_isotone a c p }
turn_isotone (pos (suc (suc zero))) a b c d p q = record { sine = neg_isotone a c p; cosine = neg_isotone b d q }
turn_isotone (pos (suc (suc (suc n)))) a b c d p q = record { sine = neg_isotone b d q; cosine = p }
turn_isotone (negsuc n) a b c d p q = record { sine = neg_isotone b d q; cosine = p }

neg_full : (a : Ends) → IsInside a full_ends → IsInside (neg_of a) full_ends
unfolding neg_of sub_of
neg_full a p = record { low = omega (arith, ints); ordered = omega (arith, ints); high = omega (arith, ints) }

pub turn_full : (k : ℤ) (a b : Ends) → IsInside a full_ends → IsInside b full_ends → PairInside (turn_of k a b) record { sine = full_ends; cosine = full_ends }
turn_full (pos zero) a b p q = record { sine = p; cosine = q }
turn_full (pos (suc zero)) a b p q = record { sine = q; cosine = neg_full a p }
turn_full (pos (suc (suc zero))) a b p q = record { sine = neg_full a p; cosine = neg_full b q }
turn_full (pos (suc (suc (suc n)))) a b p q = record { sine = neg_full b q; cosine = p }
turn_full (negsuc n) a b p q = record { sine = neg_full b q; cosine = p }

pub pair_isotone : (a c : Ends) (q : ℤ) → nearest_quarter_of a.lo ≤ℤ q → q ≤ℤ nearest_quarter_of a.hi → IsInside a c → PairInside (pair_at a q) (pair_at c q)
unfolding pair_at
pair_isotone a c q h k p =
    let l = left_isotone a c q h k p in
    let f = left_eighth a q p.ordered h k in
    turn_isotone (int_rem_euclid q (pos 4)) _ _ _ _ (sine_isotone _ _ f l) (cosine_isotone _ _ f l)

pub pair_full : (a : Ends) (q : ℤ) → a.lo ≤ℤ a.hi → nearest_quarter_of a.lo ≤ℤ q → q ≤ℤ nearest_quarter_of a.hi → PairInside (pair_at a q) record { sine = full_ends; cosine = full_ends }
unfolding pair_at
pair_full a q o h k =
    let f = left_eighth a q o h k in
    turn_full (int_rem_euclid q (pos 4)) _ _ (sine_full _ f) (cosine_full _ f)
