-- Quotients of ends, rounded outward: they enclose those of fractions, and are isotone.
use Rattle.std.specs.Prelude.{◌≡◌, ℕ, ℤ, pos, ◌*◌, ◌^◌, ◌<◌, ◌≤◌, ◌*ℤ◌, ◌≤ℤ◌, unsigned_abs, [], ◌∷◌}
use Rattle.std.proofs.Common.{arith, ap, sym, ◌∙◌, subst, mul-pos}
use Rattle.std.proofs.lemmas.Int.{ints, clamps}
use Rattle.std.proofs.lemmas.Nat.{pow_pos}
use Rattle.std.specs.Int.{int_min, int_max}
use Rattle.whole_numbers.specs.Rounding.{floor_of, ceil_of}
use Rattle.whole_numbers.proofs.Integers.{≤ℤ_refl, ≤ℤ_trans, not_negative_natural, *ℤ_assoc}
use Rattle.whole_numbers.proofs.Products.{*ℤ_mono_left, *ℤ_mono_right, *ℤ_anti_right, corners_below as corners_below_whole, corners_above as corners_above_whole}
use Rattle.whole_numbers.proofs.Divisions.{floor_of_mono, ceil_of_mono, floor_of_low, ceil_of_high, at_most-floor_of, ceil_of-at_most, floor_of-at_most-ceil_of}
use Rattle.whole_numbers.proofs.Quote.{quote, identity}
use Rattle.fractions.specs.Fraction.{Fraction, ratio, zeroᶠ, ◌*ᶠ◌, ◌≤ᶠ◌, ◌<ᶠ◌}
use Rattle.fractions.specs.Inverse.{◌/ᶠ◌}
use Rattle.fractions.proofs.Laws.{≤ᶠ_refl, ≤ᶠ_trans, *ᶠ_comm, *ᶠ_mono_left, corners_below, corners_above}
use Rattle.fractions.proofs.Ratios.{ratio-mul, ratio-same, ratio_at_most, not_negative_ratio}
use Rattle.fractions.proofs.StrictOrder.{<ᶠ_at_most, <ᶠ_≤ᶠ_trans, positive_apart, positive_inverse, positive_ratio, *ᶠ-inverse_cancel}
use Rattle.fractions.proofs.Floors.{ratio-floor_of, ratio-ceil_of}
use Rattle.fix_interval.specs.Ends.{Ends, IsInside}
use Rattle.fix_interval.specs.Lies.{Lies}
use Rattle.fix_interval.specs.Quotients.{div_int_of, outward_of, from_ratio_of, div_of}
use Rattle.fix_interval.proofs.EndProducts.{rounded_ordered}

-- ---- div_int
-- z over k times the scale is 1 / k of z over the scale
part : (z : ℤ) (k s : ℕ) → 0 < k → ratio z (k * 2 ^ s) ≡ ratio (pos 1) k *ᶠ ratio z (2 ^ s)
part z k s h = ap (λ t. ratio t (k * 2 ^ s)) (once z) ∙ sym (ratio-mul (pos 1) z k (2 ^ s) h (pow_pos s))
  where
    once : (z : ℤ) → z ≡ pos 1 *ℤ z
    once z = omega (arith, ints)

-- 1 / k of what is ordered is ordered
part_mono : (k : ℕ) {x y : Fraction} → x ≤ᶠ y → ratio (pos 1) k *ᶠ x ≤ᶠ ratio (pos 1) k *ᶠ y
part_mono k {x} {y} h = rw (*ᶠ_comm (ratio (pos 1) k) x, *ᶠ_comm (ratio (pos 1) k) y) (*ᶠ_mono_left (not_negative_ratio 1 k) h)

-- a choice over k lies in the quotient
pub div_int_encloses : {a r : Ends} (k : ℕ) → r ≡ div_int_of a k → 0 < k → (s : ℕ) (x : Fraction) → Lies a s x → Lies r s (ratio (pos 1) k *ᶠ x)
unfolding div_int_of
div_int_encloses {a} {r} k e h s x l = rw e record {
  low = ≤ᶠ_trans (ratio-floor_of a.lo k (2 ^ s) h (pow_pos s)) (rw (part a.lo k s h) (part_mono k l.low));
  high = ≤ᶠ_trans (part_mono k l.high) (rw (sym (part a.hi k s h)) (ratio-ceil_of a.hi k (2 ^ s) h (pow_pos s)));
}

-- wider ends have a wider quotient
pub div_int_isotone : {a r : Ends} (k : ℕ) → r ≡ div_int_of a k → 0 < k → (c : Ends) → IsInside a c → IsInside r (div_int_of c k)
unfolding div_int_of
div_int_isotone {a} {r} k e h c p = rw e record { low = floor_of_mono c.lo a.lo k h p.low; ordered = rounded_ordered a.lo a.hi k h p.ordered; high = ceil_of_mono a.hi c.hi k h p.high }

-- ---- ratios
-- a ratio lies in its ends at each scale
pub outward_encloses : {r : Ends} (num : ℤ) (den s : ℕ) → r ≡ outward_of num den s → 0 < den → Lies r s (ratio num den)
unfolding outward_of
outward_encloses {r} num den s e h =
    let same : ratio (num *ℤ pos (2 ^ s)) (den * 2 ^ s) ≡ ratio num den = ratio-same (num *ℤ pos (2 ^ s)) num (den * 2 ^ s) den (mul-pos h (pow_pos s)) h (regroup num den (2 ^ s)) in
    rw e record {
      low = rw same at (ratio-floor_of (num *ℤ pos (2 ^ s)) den (2 ^ s) h (pow_pos s));
      high = rw same at (ratio-ceil_of (num *ℤ pos (2 ^ s)) den (2 ^ s) h (pow_pos s));
    }
  where
    regroup : (z : ℤ) (d f : ℕ) → (z *ℤ pos f) *ℤ pos d ≡ z *ℤ pos (d * f)
    regroup z d f = identity (z ∷ pos d ∷ pos f ∷ []) (search quote depth 20) tt

-- at scale 38
pub from_ratio_encloses : {r : Ends} (num : ℤ) (den : ℕ) → r ≡ from_ratio_of num den → 0 < den → Lies r 38 (ratio num den)
unfolding from_ratio_of
from_ratio_encloses num den e h = outward_encloses num den 38 e h

-- ---- div
-- what is at most the floors of z by the ends of a range is at most that by each divisor between
pub floor_between : (q z : ℤ) (m n k : ℕ) → 0 < m → m ≤ k → k ≤ n → q ≤ℤ floor_of z m → q ≤ℤ floor_of z n → q ≤ℤ floor_of z k
floor_between q z m n k h mk kn p r =
    let low = (at_most-floor_of q z m h).0 p in
    let high = (at_most-floor_of q z n (omega arith)).0 r in
    (at_most-floor_of q z k (omega arith)).1
    (corners_below_whole q q (pos m) (pos n) q (pos k) z (≤ℤ_refl q) (≤ℤ_refl q) (omega (arith, ints)) (omega (arith, ints)) low high low high)

-- and what is at least the ceilings is at least that
pub ceil_between : (q z : ℤ) (m n k : ℕ) → 0 < m → m ≤ k → k ≤ n → ceil_of z m ≤ℤ q → ceil_of z n ≤ℤ q → ceil_of z k ≤ℤ q
ceil_between q z m n k h mk kn p r =
    let low = (ceil_of-at_most z q m h).0 p in
    let high = (ceil_of-at_most z q n (omega arith)).0 r in
    (ceil_of-at_most z q k (omega arith)).1
    (corners_above_whole q q (pos m) (pos n) q (pos k) z (≤ℤ_refl q) (≤ℤ_refl q) (omega (arith, ints)) (omega (arith, ints)) low high low high)

-- an order of whole numbers where a unit is 1 / f, times a scale s
finer_at_most : (q z : ℤ) (k f s : ℕ) → (q *ℤ pos k) ≤ℤ (z *ℤ pos f) → ((q *ℤ pos k) *ℤ pos s) ≤ℤ (z *ℤ pos (f * s))
finer_at_most q z k f s h = subst (λ t. ((q *ℤ pos k) *ℤ pos s) ≤ℤ t) (*ℤ_assoc z (pos f) (pos s)) (*ℤ_mono_left (q *ℤ pos k) (z *ℤ pos f) (pos s) (not_negative_natural s) h)

-- and the other way round
finer_at_least : (q z : ℤ) (k f s : ℕ) → (z *ℤ pos f) ≤ℤ (q *ℤ pos k) → (z *ℤ pos (f * s)) ≤ℤ ((q *ℤ pos k) *ℤ pos s)
finer_at_least q z k f s h = subst (λ t. t ≤ℤ ((q *ℤ pos k) *ℤ pos s)) (*ℤ_assoc z (pos f) (pos s)) (*ℤ_mono_left (z *ℤ pos f) (q *ℤ pos k) (pos s) (not_negative_natural s) h)

-- a quotient rounded down, times its divisor, is at most the dividend
times_low : (q z : ℤ) (k f s : ℕ) → 0 < k → 0 < f → 0 < s → q ≤ℤ floor_of (z *ℤ pos f) k → ratio q f *ᶠ ratio (pos k) s ≤ᶠ ratio z s
times_low q z k f s hk hf hs p = rw (ratio-mul q (pos k) f s hf hs) (ratio_at_most (q *ℤ pos k) z (f * s) s (mul-pos hf hs) hs (finer_at_most q z k f s ((at_most-floor_of q (z *ℤ pos f) k hk).0 p)))

-- and rounded up it is at least
times_high : (q z : ℤ) (k f s : ℕ) → 0 < k → 0 < f → 0 < s → ceil_of (z *ℤ pos f) k ≤ℤ q → ratio z s ≤ᶠ ratio q f *ᶠ ratio (pos k) s
times_high q z k f s hk hf hs p = rw (ratio-mul q (pos k) f s hf hs) (ratio_at_most z (q *ℤ pos k) s (f * s) hs (mul-pos hf hs) (finer_at_least q z k f s ((ceil_of-at_most (z *ℤ pos f) q k hk).0 p)))

-- to be at most a quotient is that the product is at most the dividend
below_quotient : {x y r : Fraction} → zeroᶠ <ᶠ y → r *ᶠ y ≤ᶠ x → r ≤ᶠ x /ᶠ y
below_quotient {x} {y} {r} n h = rw (*ᶠ-inverse_cancel r y (positive_apart n)) at (*ᶠ_mono_left (<ᶠ_at_most (positive_inverse y n)) h)

-- and to be at least
above_quotient : {x y r : Fraction} → zeroᶠ <ᶠ y → x ≤ᶠ r *ᶠ y → x /ᶠ y ≤ᶠ r
above_quotient {x} {y} {r} n h = rw (*ᶠ-inverse_cancel r y (positive_apart n)) at (*ᶠ_mono_left (<ᶠ_at_most (positive_inverse y n)) h)

-- the lower end of a quotient by choices from m to n at one scale
quotient_low : (q z : ℤ) (m n f s : ℕ) (x y : Fraction) → 0 < m → 0 < n → 0 < f → 0 < s → q ≤ℤ floor_of (z *ℤ pos f) m → q ≤ℤ floor_of (z *ℤ pos f) n → ratio z s ≤ᶠ x → ratio (pos m) s ≤ᶠ y → y ≤ᶠ ratio (pos n) s → ratio q f ≤ᶠ x /ᶠ y
quotient_low q z m n f s x y hm hn hf hs p r zx my yn =
    let low = ≤ᶠ_trans (times_low q z m f s hm hf hs p) zx in
    let high = ≤ᶠ_trans (times_low q z n f s hn hf hs r) zx in
    below_quotient (<ᶠ_≤ᶠ_trans (positive_ratio m s hm) my) (corners_below (≤ᶠ_refl (ratio q f)) (≤ᶠ_refl (ratio q f)) my yn low high low high)

-- the upper end of one
quotient_high : (q z : ℤ) (m n f s : ℕ) (x y : Fraction) → 0 < m → 0 < n → 0 < f → 0 < s → ceil_of (z *ℤ pos f) m ≤ℤ q → ceil_of (z *ℤ pos f) n ≤ℤ q → x ≤ᶠ ratio z s → ratio (pos m) s ≤ᶠ y → y ≤ᶠ ratio (pos n) s → x /ᶠ y ≤ᶠ ratio q f
quotient_high q z m n f s x y hm hn hf hs p r xz my yn =
    let low = ≤ᶠ_trans xz (times_high q z m f s hm hf hs p) in
    let high = ≤ᶠ_trans xz (times_high q z n f s hn hf hs r) in
    above_quotient (<ᶠ_≤ᶠ_trans (positive_ratio m s hm) my) (corners_above (≤ᶠ_refl (ratio q f)) (≤ᶠ_refl (ratio q f)) my yn low high low high)

-- a divisor that is above 0 is a natural
natural : (z : ℤ) → pos 1 ≤ℤ z → pos (unsigned_abs z) ≡ z
natural z h = omega (arith, ints)

-- the smaller of two is at most each
smaller : (y z : ℤ) → (int_min y z ≤ℤ y) × (int_min y z ≤ℤ z)
smaller y z = (omega (arith, ints, clamps), omega (arith, ints, clamps))

-- the greater is at least each
greater : (y z : ℤ) → (y ≤ℤ int_max y z) × (z ≤ℤ int_max y z)
greater y z = (omega (arith, ints, clamps), omega (arith, ints, clamps))

-- the quotient of two choices lies in the quotient
pub div_encloses : {a b r : Ends} → r ≡ div_of a b → pos 1 ≤ℤ b.lo → b.lo ≤ℤ b.hi → (s : ℕ) (x y : Fraction) → Lies a s x → Lies b s y → Lies r 38 (x /ᶠ y)
unfolding div_of
div_encloses {a} {b} {r} e some o s x y p q =
    let my = subst (λ t. ratio t (2 ^ s) ≤ᶠ y) (sym (natural b.lo some)) q.low in
    let yn = subst (λ t. y ≤ᶠ ratio t (2 ^ s)) (sym (natural b.hi (≤ℤ_trans _ b.lo _ some o))) q.high in
    let hm : 0 < unsigned_abs b.lo = omega (arith, ints) in
    let hn : 0 < unsigned_abs b.hi = omega (arith, ints) in
    rw e record {
      low = let m = smaller (floor_of (a.lo *ℤ pos (2 ^ 38)) (unsigned_abs b.lo)) (floor_of (a.lo *ℤ pos (2 ^ 38)) (unsigned_abs b.hi)) in
          quotient_low _ a.lo (unsigned_abs b.lo) (unsigned_abs b.hi) (2 ^ 38) (2 ^ s) x y hm hn (pow_pos 38) (pow_pos s) m.0 m.1 p.low my yn;
      high = let m = greater (ceil_of (a.hi *ℤ pos (2 ^ 38)) (unsigned_abs b.lo)) (ceil_of (a.hi *ℤ pos (2 ^ 38)) (unsigned_abs b.hi)) in
          quotient_high _ a.hi (unsigned_abs b.lo) (unsigned_abs b.hi) (2 ^ 38) (2 ^ s) x y hm hn (pow_pos 38) (pow_pos s) m.0 m.1 p.high my yn;
    }

-- of a wider dividend and divisor the least floor is smaller
wider_floor : (y z : ℤ) (m n k : ℕ) → 0 < m → m ≤ k → k ≤ n → y ≤ℤ z → int_min (floor_of (y *ℤ pos (2 ^ 38)) m) (floor_of (y *ℤ pos (2 ^ 38)) n) ≤ℤ floor_of (z *ℤ pos (2 ^ 38)) k
wider_floor y z m n k h mk kn p =
    let s = smaller (floor_of (y *ℤ pos (2 ^ 38)) m) (floor_of (y *ℤ pos (2 ^ 38)) n) in
    ≤ℤ_trans _ (floor_of (y *ℤ pos (2 ^ 38)) k) _
    (floor_between _ (y *ℤ pos (2 ^ 38)) m n k h mk kn s.0 s.1)
    (floor_of_mono (y *ℤ pos (2 ^ 38)) (z *ℤ pos (2 ^ 38)) k (omega arith) (*ℤ_mono_left y z (pos (2 ^ 38)) (not_negative_natural (2 ^ 38)) p))

-- and the greatest ceiling greater
wider_ceil : (y z : ℤ) (m n k : ℕ) → 0 < m → m ≤ k → k ≤ n → y ≤ℤ z → ceil_of (y *ℤ pos (2 ^ 38)) k ≤ℤ int_max (ceil_of (z *ℤ pos (2 ^ 38)) m) (ceil_of (z *ℤ pos (2 ^ 38)) n)
wider_ceil y z m n k h mk kn p =
    let s = greater (ceil_of (z *ℤ pos (2 ^ 38)) m) (ceil_of (z *ℤ pos (2 ^ 38)) n) in
    ≤ℤ_trans _ (ceil_of (z *ℤ pos (2 ^ 38)) k) _
    (ceil_of_mono (y *ℤ pos (2 ^ 38)) (z *ℤ pos (2 ^ 38)) k (omega arith) (*ℤ_mono_left y z (pos (2 ^ 38)) (not_negative_natural (2 ^ 38)) p))
    (ceil_between _ (z *ℤ pos (2 ^ 38)) m n k h mk kn s.0 s.1)

-- the ends of a quotient are ordered
pub div_ordered : (a b : Ends) → pos 1 ≤ℤ b.lo → a.lo ≤ℤ a.hi → (div_of a b).lo ≤ℤ (div_of a b).hi
unfolding div_of
div_ordered a b some o =
    let l = smaller (floor_of (a.lo *ℤ pos (2 ^ 38)) (unsigned_abs b.lo)) (floor_of (a.lo *ℤ pos (2 ^ 38)) (unsigned_abs b.hi)) in
    let h = greater (ceil_of (a.hi *ℤ pos (2 ^ 38)) (unsigned_abs b.lo)) (ceil_of (a.hi *ℤ pos (2 ^ 38)) (unsigned_abs b.hi)) in
    ≤ℤ_trans _ (floor_of (a.lo *ℤ pos (2 ^ 38)) (unsigned_abs b.lo)) _ l.0
    (≤ℤ_trans _ (ceil_of (a.hi *ℤ pos (2 ^ 38)) (unsigned_abs b.lo)) _
    (rounded_ordered (a.lo *ℤ pos (2 ^ 38)) (a.hi *ℤ pos (2 ^ 38)) (unsigned_abs b.lo) (omega (arith, ints)) (*ℤ_mono_left a.lo a.hi (pos (2 ^ 38)) (not_negative_natural (2 ^ 38)) o))
    h.0)

-- wider ends have a wider quotient
pub div_isotone : {a b r : Ends} → r ≡ div_of a b → (c d : Ends) → pos 1 ≤ℤ d.lo → IsInside a c → IsInside b d → IsInside r (div_of c d)
unfolding div_of
div_isotone {a} {b} {r} e c d some p q =
    let dl : 0 < unsigned_abs d.lo = omega (arith, ints) in
    let ll : unsigned_abs d.lo ≤ unsigned_abs b.lo = naturals d.lo b.lo some q.low in
    let lh : unsigned_abs b.lo ≤ unsigned_abs d.hi = naturals b.lo d.hi (≤ℤ_trans _ d.lo _ some q.low) (≤ℤ_trans _ b.hi _ q.ordered q.high) in
    let hl : unsigned_abs d.lo ≤ unsigned_abs b.hi = naturals d.lo b.hi some (≤ℤ_trans _ b.lo _ q.low q.ordered) in
    let hh : unsigned_abs b.hi ≤ unsigned_abs d.hi = naturals b.hi d.hi (≤ℤ_trans _ b.lo _ (≤ℤ_trans _ d.lo _ some q.low) q.ordered) q.high in
    rw e record {
      low = least (wider_floor c.lo a.lo (unsigned_abs d.lo) (unsigned_abs d.hi) (unsigned_abs b.lo) dl ll lh p.low) (wider_floor c.lo a.lo (unsigned_abs d.lo) (unsigned_abs d.hi) (unsigned_abs b.hi) dl hl hh p.low);
      ordered = div_ordered a b (≤ℤ_trans _ d.lo _ some q.low) p.ordered;
      high = greatest (wider_ceil a.hi c.hi (unsigned_abs d.lo) (unsigned_abs d.hi) (unsigned_abs b.lo) dl ll lh p.high) (wider_ceil a.hi c.hi (unsigned_abs d.lo) (unsigned_abs d.hi) (unsigned_abs b.hi) dl hl hh p.high);
    }
  where
    naturals : (y z : ℤ) → pos 1 ≤ℤ y → y ≤ℤ z → unsigned_abs y ≤ unsigned_abs z
    naturals y z n h = omega (arith, ints)

    least : {m u v : ℤ} → m ≤ℤ u → m ≤ℤ v → m ≤ℤ int_min u v
    least i j = omega (arith, ints, clamps)

    greatest : {m u v : ℤ} → u ≤ℤ m → v ≤ℤ m → int_max u v ≤ℤ m
    greatest i j = omega (arith, ints, clamps)

-- ---- which end of the divisor
-- the lower end of a dividend below 0 is over the smaller divisor
pub floor-negative : (z : ℤ) (m n : ℕ) → 0 < m → m ≤ n → z ≤ℤ pos 0 → int_min (floor_of z m) (floor_of z n) ≡ floor_of z m
floor-negative z m n h mn p =
    let f = floor_of z m in
    let down : f ≤ℤ pos 0 = ≤ℤ_trans _ (ceil_of z m) _ (floor_of-at_most-ceil_of z m h) ((ceil_of-at_most z (pos 0) m h).1 (omega (arith, ints))) in
    left_least f (floor_of z n) ((at_most-floor_of f z n (omega arith)).1 (≤ℤ_trans _ (f *ℤ pos m) _ (*ℤ_anti_right (pos m) (pos n) f down (omega (arith, ints))) (floor_of_low z m h)))
  where
    left_least : (u v : ℤ) → u ≤ℤ v → int_min u v ≡ u
    left_least u v i = omega (arith, ints, clamps)

-- and that of another is over the greater
pub floor-not_negative : (z : ℤ) (m n : ℕ) → 0 < m → m ≤ n → pos 0 ≤ℤ z → int_min (floor_of z m) (floor_of z n) ≡ floor_of z n
floor-not_negative z m n h mn p =
    let f = floor_of z n in
    let some : 0 < n = omega arith in
    let up : pos 0 ≤ℤ f = (at_most-floor_of (pos 0) z n some).1 (omega (arith, ints)) in
    right_least (floor_of z m) f ((at_most-floor_of f z m h).1 (≤ℤ_trans _ (f *ℤ pos n) _ (*ℤ_mono_right (pos m) (pos n) f up (omega (arith, ints))) (floor_of_low z n some)))
  where
    right_least : (u v : ℤ) → v ≤ℤ u → int_min u v ≡ v
    right_least u v i = omega (arith, ints, clamps)

-- the upper end of a dividend below 0 is over the greater divisor
pub ceil-negative : (z : ℤ) (m n : ℕ) → 0 < m → m ≤ n → z ≤ℤ pos 0 → int_max (ceil_of z m) (ceil_of z n) ≡ ceil_of z n
ceil-negative z m n h mn p =
    let g = ceil_of z n in
    let some : 0 < n = omega arith in
    let down : g ≤ℤ pos 0 = (ceil_of-at_most z (pos 0) n some).1 (omega (arith, ints)) in
    right_greatest (ceil_of z m) g ((ceil_of-at_most z g m h).1 (≤ℤ_trans _ (g *ℤ pos n) _ (ceil_of_high z n some) (*ℤ_anti_right (pos m) (pos n) g down (omega (arith, ints)))))
  where
    right_greatest : (u v : ℤ) → u ≤ℤ v → int_max u v ≡ v
    right_greatest u v i = omega (arith, ints, clamps)

-- and that of another is over the smaller
pub ceil-not_negative : (z : ℤ) (m n : ℕ) → 0 < m → m ≤ n → pos 0 ≤ℤ z → int_max (ceil_of z m) (ceil_of z n) ≡ ceil_of z m
ceil-not_negative z m n h mn p =
    let g = ceil_of z m in
    let up : pos 0 ≤ℤ g = ≤ℤ_trans _ (floor_of z m) _ ((at_most-floor_of (pos 0) z m h).1 (omega (arith, ints))) (floor_of-at_most-ceil_of z m h) in
    left_greatest g (ceil_of z n) ((ceil_of-at_most z g n (omega arith)).1 (≤ℤ_trans _ (g *ℤ pos m) _ (ceil_of_high z m h) (*ℤ_mono_right (pos m) (pos n) g up (omega (arith, ints)))))
  where
    left_greatest : (u v : ℤ) → v ≤ℤ u → int_max u v ≡ u
    left_greatest u v i = omega (arith, ints, clamps)
