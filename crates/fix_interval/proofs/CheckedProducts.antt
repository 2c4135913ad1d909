-- When a product of intervals has ends in 128 bits, and that narrower intervals have one where wider ones have.
use Rattle.std.specs.Prelude.{◌≡◌, ℤ, pos, neg_ℤ, ◌^◌, ◌-◌, ◌*ℤ◌, ◌≤ℤ◌, refl, Bool, true, false, ◌&&◌, if◌then◌else◌, Option, Some, None, is_some, IsSome, FitsSigned}
use Rattle.std.proofs.Common.{arith, sym, subst, ◌∙◌}
use mir.Syntax.{w128}
use Rattle.std.proofs.lemmas.Int.{ints}
use Rattle.std.specs.Option.{option_map}
use lib.Dec.{T}
use lib.Signed.{le_z, lt_z}
use Rattle.whole_numbers.specs.Corners.{least_corner, greatest_corner}
use Rattle.whole_numbers.proofs.Integers.{≤ℤ_trans}
use Rattle.whole_numbers.proofs.Products.{least_corner-least, greatest_corner-greatest}
use Rattle.fix_interval.specs.declared.interval.Iv.{Iv}
use Rattle.fix_interval.specs.Ends.{Ends, IsInside}
use Rattle.fix_interval.specs.Intervals.{ends}
use Rattle.fix_interval.specs.Products.{is_i128, mul_wide_of, checked_mul_of}
use Rattle.fix_interval.proofs.EndProducts.{least_above, greatest_below}

-- ---- the test
-- what fits passes the test
pub fits-is_i128 : (z : ℤ) → FitsSigned w128 z → is_i128 z ≡ true
fits-is_i128 z f = both (le_z (neg_ℤ (pos (2 ^ 127))) z) (lt_z z (pos (2 ^ 127))) refl refl
  where
    both : (t u : Bool) → le_z (neg_ℤ (pos (2 ^ 127))) z ≡ t → lt_z z (pos (2 ^ 127)) ≡ u → t && u ≡ true
    both true true d e = refl
    both true false d e = absurd (let g = f in omega (arith, ints))
    both false u d e = absurd (let g = f in omega (arith, ints))

-- and what does not fit fails it
pub unfit-is_i128 : (z : ℤ) → (FitsSigned w128 z → ⊥) → is_i128 z ≡ false
unfit-is_i128 z n = both (le_z (neg_ℤ (pos (2 ^ 127))) z) (lt_z z (pos (2 ^ 127))) refl refl
  where
    both : (t u : Bool) → le_z (neg_ℤ (pos (2 ^ 127))) z ≡ t → lt_z z (pos (2 ^ 127)) ≡ u → t && u ≡ false
    both true true d e = absurd (n (omega (arith, ints)))
    both true false d e = refl
    both false u d e = refl

-- what passes the test is in the range
i128_range : (z : ℤ) → is_i128 z ≡ true → (neg_ℤ (pos (2 ^ 127)) ≤ℤ z) × (z ≤ℤ pos (2 ^ 127 - 1))
i128_range z e = both (le_z (neg_ℤ (pos (2 ^ 127))) z) (lt_z z (pos (2 ^ 127))) refl refl (subst T (sym e) tt)
  where
    both : (t u : Bool) → le_z (neg_ℤ (pos (2 ^ 127))) z ≡ t → lt_z z (pos (2 ^ 127)) ≡ u → T (t && u) → (neg_ℤ (pos (2 ^ 127)) ≤ℤ z) × (z ≤ℤ pos (2 ^ 127 - 1))
    both true true d e h = (omega (arith, ints), omega (arith, ints))
    both true false d e h = absurd h
    both false u d e h = absurd h

-- and what is in the range passes it
in_range-is_i128 : (z : ℤ) → neg_ℤ (pos (2 ^ 127)) ≤ℤ z → z ≤ℤ pos (2 ^ 127 - 1) → is_i128 z ≡ true
in_range-is_i128 z l h = both (le_z (neg_ℤ (pos (2 ^ 127))) z) (lt_z z (pos (2 ^ 127))) refl refl
  where
    both : (t u : Bool) → le_z (neg_ℤ (pos (2 ^ 127))) z ≡ t → lt_z z (pos (2 ^ 127)) ≡ u → t && u ≡ true
    both true true d e = refl
    both true false d e = absurd (omega (arith, ints))
    both false u d e = absurd (omega (arith, ints))

-- ---- the four tests
-- where each product of ends passes the test there is a product
pub checked-some : (a b : Ends) → is_i128 (a.lo *ℤ b.lo) ≡ true → is_i128 (a.lo *ℤ b.hi) ≡ true → is_i128 (a.hi *ℤ b.lo) ≡ true → is_i128 (a.hi *ℤ b.hi) ≡ true → checked_mul_of a b ≡ Some (mul_wide_of a b)
unfolding checked_mul_of
checked-some a b p q r s = rw (p, q, r, s) refl

-- and none where one fails: the first
pub checked-none_low_low : (a b : Ends) → is_i128 (a.lo *ℤ b.lo) ≡ false → checked_mul_of a b ≡ None
unfolding checked_mul_of
checked-none_low_low a b e = rw e refl

-- the second
pub checked-none_low_high : (a b : Ends) → is_i128 (a.lo *ℤ b.hi) ≡ false → checked_mul_of a b ≡ None
unfolding checked_mul_of
checked-none_low_high a b e = rw e (pick (is_i128 (a.lo *ℤ b.lo)) (is_i128 (a.hi *ℤ b.lo) && is_i128 (a.hi *ℤ b.hi)) (mul_wide_of a b))
  where
    pick : (p t : Bool) (v : Ends) → (if (p && false) && t then Some v else None) ≡ None
    pick true t v = refl
    pick false t v = refl

-- the third
pub checked-none_high_low : (a b : Ends) → is_i128 (a.hi *ℤ b.lo) ≡ false → checked_mul_of a b ≡ None
unfolding checked_mul_of
checked-none_high_low a b e = rw e (pick (is_i128 (a.lo *ℤ b.lo) && is_i128 (a.lo *ℤ b.hi)) (mul_wide_of a b))
  where
    pick : (p : Bool) (v : Ends) → (if p && false then Some v else None) ≡ None
    pick true v = refl
    pick false v = refl

-- the fourth
pub checked-none_high_high : (a b : Ends) → is_i128 (a.hi *ℤ b.hi) ≡ false → checked_mul_of a b ≡ None
unfolding checked_mul_of
checked-none_high_high a b e = rw e (pick (is_i128 (a.lo *ℤ b.lo) && is_i128 (a.lo *ℤ b.hi)) (is_i128 (a.hi *ℤ b.lo)) (mul_wide_of a b))
  where
    pick : (p t : Bool) (v : Ends) → (if p && (t && false) then Some v else None) ≡ None
    pick true true v = refl
    pick true false v = refl
    pick false t v = refl

-- where there is a product, each product of ends passed the test
each : (p q r s : Bool) (v : Ends) → T (is_some (if (p && q) && (r && s) then Some v else None)) → (p ≡ true) × (q ≡ true) × (r ≡ true) × (s ≡ true)
each true true true true v h = (refl, refl, refl, refl)
each true true true false v h = absurd h
each true true false s v h = absurd h
each true false r s v h = absurd h
each false q r s v h = absurd h

-- the corners of a product that there is are in the range
corners : (c d : Ends) → IsSome (checked_mul_of c d) → (neg_ℤ (pos (2 ^ 127)) ≤ℤ least_corner c.lo c.hi d.lo d.hi) × (greatest_corner c.lo c.hi d.lo d.hi ≤ℤ pos (2 ^ 127 - 1))
unfolding checked_mul_of
corners c d h =
    let all = each (is_i128 (c.lo *ℤ d.lo)) (is_i128 (c.lo *ℤ d.hi)) (is_i128 (c.hi *ℤ d.lo)) (is_i128 (c.hi *ℤ d.hi)) (mul_wide_of c d) (subst T (sym h) tt) in
    let p = i128_range (c.lo *ℤ d.lo) all.0 in
    let q = i128_range (c.lo *ℤ d.hi) all.1 in
    let r = i128_range (c.hi *ℤ d.lo) all.2 in
    let s = i128_range (c.hi *ℤ d.hi) all.3 in (
      least_above (neg_ℤ (pos (2 ^ 127))) (c.lo *ℤ d.lo) (c.lo *ℤ d.hi) (c.hi *ℤ d.lo) (c.hi *ℤ d.hi) p.0 q.0 r.0 s.0,
      greatest_below (pos (2 ^ 127 - 1)) (c.lo *ℤ d.lo) (c.lo *ℤ d.hi) (c.hi *ℤ d.lo) (c.hi *ℤ d.hi) p.1 q.1 r.1 s.1,
    )

-- a product of numbers of ends with a product passes the test
between : (c d : Ends) → IsSome (checked_mul_of c d) → (x y : ℤ) → c.lo ≤ℤ x → x ≤ℤ c.hi → d.lo ≤ℤ y → y ≤ℤ d.hi → is_i128 (x *ℤ y) ≡ true
between c d h x y cx xc dy yd =
    let range = corners c d h in
    in_range-is_i128 (x *ℤ y)
    (≤ℤ_trans _ (least_corner c.lo c.hi d.lo d.hi) _ range.0 (least_corner-least c.lo c.hi d.lo d.hi x y cx xc dy yd))
    (≤ℤ_trans _ (greatest_corner c.lo c.hi d.lo d.hi) _ (greatest_corner-greatest c.lo c.hi d.lo d.hi x y cx xc dy yd) range.1)

-- where wider ends have a product, so have those inside
pub checked_isotone : (a b c d : Ends) → IsInside a c → IsInside b d → IsSome (checked_mul_of c d) → checked_mul_of a b ≡ Some (mul_wide_of a b)
checked_isotone a b c d p q h =
    let al = ≤ℤ_trans a.lo a.hi c.hi p.ordered p.high in
    let ah = ≤ℤ_trans c.lo a.lo a.hi p.low p.ordered in
    let bl = ≤ℤ_trans b.lo b.hi d.hi q.ordered q.high in
    let bh = ≤ℤ_trans d.lo b.lo b.hi q.low q.ordered in
    checked-some a b
    (between c d h a.lo b.lo p.low al q.low bl) (between c d h a.lo b.hi p.low al bh q.high)
    (between c d h a.hi b.lo ah p.high q.low bl) (between c d h a.hi b.hi ah p.high bh q.high)

-- and an answer by the definition is one
pub checked_isotone_some : {a b : Ends} (o : Option Iv) → option_map ends o ≡ checked_mul_of a b → (c d : Ends) → IsInside a c → IsInside b d → IsSome (checked_mul_of c d) → IsSome o
checked_isotone_some {a} {b} o e c d p q h = some o (e ∙ checked_isotone a b c d p q h)
  where
    some : (o : Option Iv) → option_map ends o ≡ Some (mul_wide_of a b) → IsSome o
    some None k = subst IsSome (sym k) refl
    some (Some v) k = refl
