-- Decimals rounded outward enclose the fractions that they stand for, lie between the bounds of these, and are narrow.
use Rattle.std.specs.Prelude.{◌≡◌, ℕ, ℤ, pos, ◌*◌, ◌^◌, ◌<◌, ◌*ℤ◌, ◌≤ℤ◌, Bool, true, false, unsigned_abs, refl, [], ◌∷◌}
use Rattle.std.proofs.Common.{arith, ap, sym, ◌∙◌, subst, mul-pos}
use Rattle.std.proofs.lemmas.Int.{ints}
use Rattle.std.proofs.lemmas.Nat.{pow_pos}
use lib.Dec.{lit≤}
use Rattle.whole_numbers.proofs.Divisions.{at_most-floor_of, ceil_of-at_most, ceil_of-at_most-floor_of, floor_of-at_most-ceil_of}
use Rattle.whole_numbers.proofs.Quote.{quote, identity}
use Rattle.fractions.specs.Fraction.{ratio, whole, ◌*ᶠ◌, ◌≤ᶠ◌}
use Rattle.fractions.specs.Inverse.{◌/ᶠ◌}
use Rattle.fractions.proofs.Ratios.{ratio-mul, ratio-same, ratio_at_most_out}
use Rattle.fractions.proofs.StrictOrder.{positive_apart, positive_ratio, *ᶠ-inverse_cancel}
use Rattle.raim_model.specs.declared.decimal.Dec.{Dec}
use Rattle.raim_model.specs.Decimal.{signed, value_of}
use Rattle.fix_interval.specs.Ends.{Ends, IsInside, IsNarrow}
use Rattle.fix_interval.specs.Lies.{Lies}
use Rattle.fix_interval.specs.Quotients.{outward_of}
use Rattle.fix_interval.specs.Decimals.{from_dec_of, from_dec_over_of, dec56_milli_of, dec76_of}
use Rattle.fix_interval.proofs.EndQuotients.{outward_encloses}
use Rattle.fix_interval.proofs.Powers.{ten_positive}

-- digits with a sign are as great as the digits
pub signed_abs : (neg : Bool) (n : ℕ) → unsigned_abs (signed neg n) ≡ n
signed_abs true n = omega (arith, ints)
signed_abs false n = refl

-- m / (p k) is m / p over k
over : (m : ℤ) (p k : ℕ) → 0 < p → 0 < k → ratio m (p * k) ≡ ratio m p /ᶠ whole (pos k)
over m p k hp hk =
    let times : ratio m (p * k) *ᶠ whole (pos k) ≡ ratio m p = ratio-mul m (pos k) (p * k) 1 (mul-pos hp hk) (lit≤ tt) ∙ ratio-same (m *ℤ pos k) m (p * k * 1) p (mul-pos (mul-pos hp hk) (lit≤ tt)) hp (regroup m p k) in
    sym (*ᶠ-inverse_cancel (ratio m (p * k)) (whole (pos k)) (positive_apart (positive_ratio k 1 hk))) ∙ ap (λ t. t /ᶠ whole (pos k)) times
  where
    regroup : (m : ℤ) (p k : ℕ) → (m *ℤ pos k) *ℤ pos p ≡ m *ℤ pos (p * k * 1)
    regroup m p k = identity (m ∷ pos p ∷ pos k ∷ []) (search quote depth 20) tt

-- d / k lies in its ends
pub from_dec_over_encloses : {r : Ends} (d : Dec) (k : ℕ) → r ≡ from_dec_over_of d k → 0 < k → Lies r 38 (value_of d /ᶠ whole (pos k))
unfolding from_dec_over_of
from_dec_over_encloses {r} d k e h = subst (Lies r 38) (over (signed d.neg d.digits) (10 ^ d.places) k (ten_positive d.places) h) (outward_encloses (signed d.neg d.digits) (10 ^ d.places * k) 38 e (mul-pos (ten_positive d.places) h))

-- d lies in its ends
pub from_dec_encloses : {r : Ends} (d : Dec) → r ≡ from_dec_of d → Lies r 38 (value_of d)
unfolding from_dec_of from_dec_over_of
from_dec_encloses {r} d e = subst (λ (n : ℕ). Lies r 38 (ratio (signed d.neg d.digits) n)) (once (10 ^ d.places)) (outward_encloses (signed d.neg d.digits) (10 ^ d.places * 1) 38 e (mul-pos (ten_positive d.places) (lit≤ tt)))
  where
    once : (n : ℕ) → n * 1 ≡ n
    once n = omega arith

-- a thousandth of d lies in its ends at scale 56
pub dec56_milli_encloses : {r : Ends} (d : Dec) → r ≡ dec56_milli_of d → Lies r 56 (value_of d /ᶠ whole (pos 1000))
unfolding dec56_milli_of
dec56_milli_encloses {r} d e = subst (Lies r 56) (over (signed d.neg d.digits) (10 ^ d.places) 1000 (ten_positive d.places) (lit≤ tt)) (outward_encloses (signed d.neg d.digits) (10 ^ d.places * 1000) 56 e (mul-pos (ten_positive d.places) (lit≤ tt)))

-- d lies in its ends at scale 76
pub dec76_encloses : {r : Ends} (d : Dec) → r ≡ dec76_of d → Lies r 76 (value_of d)
unfolding dec76_of
dec76_encloses {r} d e = outward_encloses (signed d.neg d.digits) (10 ^ d.places) 76 e (ten_positive d.places)

-- ---- bounds and widths
-- a ratio between whole numbers of units has its ends between them
pub outward_inside : (num : ℤ) (den s : ℕ) (low high : ℤ) → 0 < den → ratio low (2 ^ s) ≤ᶠ ratio num den → ratio num den ≤ᶠ ratio high (2 ^ s) → IsInside (outward_of num den s) record { lo = low; hi = high }
unfolding outward_of
outward_inside num den s low high h p q = record {
  low = (at_most-floor_of low (num *ℤ pos (2 ^ s)) den h).1 (ratio_at_most_out low num (2 ^ s) den (pow_pos s) h p);
  ordered = floor_of-at_most-ceil_of (num *ℤ pos (2 ^ s)) den h;
  high = (ceil_of-at_most (num *ℤ pos (2 ^ s)) high den h).1 (ratio_at_most_out num high den (2 ^ s) h (pow_pos s) q);
}

-- and is at most a unit wide
pub outward_width : (num : ℤ) (den s : ℕ) → 0 < den → IsNarrow (outward_of num den s) 1
unfolding outward_of
outward_width num den s h = record { width = omega (arith, ints, ceil_of-at_most-floor_of (num *ℤ pos (2 ^ s)) den h) }

-- ---- at scale 76
-- between bounds
pub dec76_inside : (d : Dec) (low high : ℤ) → ratio low (2 ^ 76) ≤ᶠ value_of d → value_of d ≤ᶠ ratio high (2 ^ 76) → IsInside (dec76_of d) record { lo = low; hi = high }
unfolding dec76_of
dec76_inside d low high p q = outward_inside (signed d.neg d.digits) (10 ^ d.places) 76 low high (ten_positive d.places) p q

-- at most a unit wide
pub dec76_width : (d : Dec) → IsNarrow (dec76_of d) 1
unfolding dec76_of
dec76_width d = outward_width (signed d.neg d.digits) (10 ^ d.places) 76 (ten_positive d.places)

-- ---- at scale 38
-- between bounds
pub from_dec_inside : (d : Dec) (low high : ℤ) → ratio low (2 ^ 38) ≤ᶠ value_of d → value_of d ≤ᶠ ratio high (2 ^ 38) → IsInside (from_dec_of d) record { lo = low; hi = high }
unfolding from_dec_of from_dec_over_of
from_dec_inside d low high p q = subst (λ (n : ℕ). IsInside (outward_of (signed d.neg d.digits) n 38) record { lo = low; hi = high }) (once (10 ^ d.places)) (outward_inside (signed d.neg d.digits) (10 ^ d.places) 38 low high (ten_positive d.places) p q)
  where
    once : (n : ℕ) → n ≡ n * 1
    once n = omega arith

-- at most a unit wide
pub from_dec_width : (d : Dec) → IsNarrow (from_dec_of d) 1
unfolding from_dec_of from_dec_over_of
from_dec_width d = outward_width (signed d.neg d.digits) (10 ^ d.places * 1) 38 (mul-pos (ten_positive d.places) (lit≤ tt))

-- ---- a thousandth at scale 56
-- from thousandths of whole numbers of units
pub dec56_milli_inside : (d : Dec) (low high : ℤ) → ratio (low *ℤ pos 1000) (2 ^ 56) ≤ᶠ value_of d → value_of d ≤ᶠ ratio (high *ℤ pos 1000) (2 ^ 56) → IsInside (dec56_milli_of d) record { lo = low; hi = high }
unfolding dec56_milli_of outward_of
dec56_milli_inside d low high p q =
    let n : ℤ = signed d.neg d.digits in
    let den : ℕ = 10 ^ d.places in
    let h = ten_positive d.places in
    let h' : 0 < den * 1000 = mul-pos {m = den} {n = 1000} h (lit≤ tt) in
    let l = ratio_at_most_out (low *ℤ pos 1000) n (2 ^ 56) den (pow_pos 56) h p in
    let k = ratio_at_most_out n (high *ℤ pos 1000) den (2 ^ 56) h (pow_pos 56) q in
    record {
      low = (at_most-floor_of low (n *ℤ pos (2 ^ 56)) (den * 1000) h').1 (subst (λ z. z ≤ℤ (n *ℤ pos (2 ^ 56))) (regroup low den) l);
      ordered = floor_of-at_most-ceil_of (n *ℤ pos (2 ^ 56)) (den * 1000) h';
      high = (ceil_of-at_most (n *ℤ pos (2 ^ 56)) high (den * 1000) h').1 (subst (λ z. (n *ℤ pos (2 ^ 56)) ≤ℤ z) (regroup high den) k);
    }
  where
    regroup : (z : ℤ) (d : ℕ) → (z *ℤ pos 1000) *ℤ pos d ≡ z *ℤ pos (d * 1000)
    regroup z d = identity (z ∷ pos d ∷ []) (search quote depth 20) tt

-- at most a unit wide
pub dec56_milli_width : (d : Dec) → IsNarrow (dec56_milli_of d) 1
unfolding dec56_milli_of
dec56_milli_width d = outward_width (signed d.neg d.digits) (10 ^ d.places * 1000) 56 (mul-pos {m = 10 ^ d.places} {n = 1000} (ten_positive d.places) (lit≤ tt))
