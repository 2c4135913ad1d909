-- Products of ends, wide and rounded outward: they enclose those of fractions, and are isotone.
use Rattle.std.specs.Prelude.{◌≡◌, ℕ, ℤ, ◌+◌, ◌*◌, ◌^◌, ◌<◌, refl, ◌*ℤ◌, ◌≤ℤ◌, Bool, true, false, cond}
use Rattle.std.proofs.Common.{arith, ap, sym, ◌∙◌, subst}
use Rattle.std.proofs.lemmas.Int.{ints, clamps}
use Rattle.std.proofs.lemmas.Nat.{pow_pos, pow-add}
use Rattle.std.specs.Int.{int_min, int_max}
use lib.Signed.{lt_z}
use Rattle.whole_numbers.specs.Corners.{least_corner, greatest_corner}
use Rattle.whole_numbers.specs.Rounding.{floor_of, ceil_of}
use Rattle.whole_numbers.proofs.FourNumbers.{least_least, greatest_greatest}
use Rattle.whole_numbers.proofs.Products.{least_corner-least, greatest_corner-greatest}
use Rattle.whole_numbers.proofs.Integers.{≤ℤ_trans}
use Rattle.whole_numbers.proofs.Divisions.{floor_of_mono, ceil_of_mono, floor_of-at_most-ceil_of}
use Rattle.fractions.specs.Fraction.{Fraction, ratio, whole, ◌*ᶠ◌, ◌≤ᶠ◌}
use Rattle.fractions.proofs.Laws.{≤ᶠ_trans, corners_below, corners_above}
use Rattle.fractions.proofs.Ratios.{ratio_mono, ratio-mul}
use Rattle.fractions.proofs.Floors.{ratio-floor_of, ratio-ceil_of}
use Rattle.fix_interval.specs.Ends.{Ends, IsInside}
use Rattle.fix_interval.specs.Lies.{Lies}
use Rattle.fix_interval.specs.Products.{mul_wide_of, narrow76_of, mul_of, scale_int_of}

-- ---- mul_wide
-- a number that is at most four is at most their least
pub least_above : (m p q r t : ℤ) → m ≤ℤ p → m ≤ℤ q → m ≤ℤ r → m ≤ℤ t → m ≤ℤ int_min (int_min p q) (int_min r t)
least_above m p q r t h i j k = omega (arith, ints, clamps)

-- and one that is at least four is at least their greatest
pub greatest_below : (m p q r t : ℤ) → p ≤ℤ m → q ≤ℤ m → r ≤ℤ m → t ≤ℤ m → int_max (int_max p q) (int_max r t) ≤ℤ m
greatest_below m p q r t h i j k = omega (arith, ints, clamps)

-- the product of two ends, at the sum of the scales
pub corner : (m n : ℤ) (s t : ℕ) → ratio m (2 ^ s) *ᶠ ratio n (2 ^ t) ≡ ratio (m *ℤ n) (2 ^ (s + t))
corner m n s t = ratio-mul m n (2 ^ s) (2 ^ t) (pow_pos s) (pow_pos t) ∙ ap (λ k. ratio (m *ℤ n) k) (sym (pow-add 2 s t))

-- the product of two choices lies in the product
pub mul_wide_encloses : {a b r : Ends} → r ≡ mul_wide_of a b → (s t : ℕ) (x y : Fraction) → Lies a s x → Lies b t y → Lies r (s + t) (x *ᶠ y)
unfolding mul_wide_of
mul_wide_encloses {a} {b} {r} e s t x y p q = rw e record {
  low = let m = least_least (a.lo *ℤ b.lo) (a.lo *ℤ b.hi) (a.hi *ℤ b.lo) (a.hi *ℤ b.hi) in
      corners_above p.low p.high q.low q.high
      (rw (corner a.lo b.lo s t) (ratio_mono (2 ^ (s + t)) m.0)) (rw (corner a.lo b.hi s t) (ratio_mono (2 ^ (s + t)) m.1))
      (rw (corner a.hi b.lo s t) (ratio_mono (2 ^ (s + t)) m.2)) (rw (corner a.hi b.hi s t) (ratio_mono (2 ^ (s + t)) m.3));
  high = let m = greatest_greatest (a.lo *ℤ b.lo) (a.lo *ℤ b.hi) (a.hi *ℤ b.lo) (a.hi *ℤ b.hi) in
      corners_below p.low p.high q.low q.high
      (rw (corner a.lo b.lo s t) (ratio_mono (2 ^ (s + t)) m.0)) (rw (corner a.lo b.hi s t) (ratio_mono (2 ^ (s + t)) m.1))
      (rw (corner a.hi b.lo s t) (ratio_mono (2 ^ (s + t)) m.2)) (rw (corner a.hi b.hi s t) (ratio_mono (2 ^ (s + t)) m.3));
}

-- wider ends have a wider product
pub mul_wide_isotone : {a b r : Ends} → r ≡ mul_wide_of a b → (c d : Ends) → IsInside a c → IsInside b d → IsInside r (mul_wide_of c d)
unfolding mul_wide_of
mul_wide_isotone {a} {b} {r} e c d p q =
    let al = ≤ℤ_trans a.lo a.hi c.hi p.ordered p.high in
    let ah = ≤ℤ_trans c.lo a.lo a.hi p.low p.ordered in
    let bl = ≤ℤ_trans b.lo b.hi d.hi q.ordered q.high in
    let bh = ≤ℤ_trans d.lo b.lo b.hi q.low q.ordered in
    rw e record {
      low = least_above (least_corner c.lo c.hi d.lo d.hi) (a.lo *ℤ b.lo) (a.lo *ℤ b.hi) (a.hi *ℤ b.lo) (a.hi *ℤ b.hi)
          (least_corner-least c.lo c.hi d.lo d.hi a.lo b.lo p.low al q.low bl) (least_corner-least c.lo c.hi d.lo d.hi a.lo b.hi p.low al bh q.high)
          (least_corner-least c.lo c.hi d.lo d.hi a.hi b.lo ah p.high q.low bl) (least_corner-least c.lo c.hi d.lo d.hi a.hi b.hi ah p.high bh q.high);
      ordered = spread (a.lo *ℤ b.lo) (a.lo *ℤ b.hi) (a.hi *ℤ b.lo) (a.hi *ℤ b.hi);
      high = greatest_below (greatest_corner c.lo c.hi d.lo d.hi) (a.lo *ℤ b.lo) (a.lo *ℤ b.hi) (a.hi *ℤ b.lo) (a.hi *ℤ b.hi)
          (greatest_corner-greatest c.lo c.hi d.lo d.hi a.lo b.lo p.low al q.low bl) (greatest_corner-greatest c.lo c.hi d.lo d.hi a.lo b.hi p.low al bh q.high)
          (greatest_corner-greatest c.lo c.hi d.lo d.hi a.hi b.lo ah p.high q.low bl) (greatest_corner-greatest c.lo c.hi d.lo d.hi a.hi b.hi ah p.high bh q.high);
    }
  where
    spread : (u v w x : ℤ) → int_min (int_min u v) (int_min w x) ≤ℤ int_max (int_max u v) (int_max w x)
    spread u v w x = omega (arith, ints, clamps)

-- ---- narrow76
-- 38 places and s more
split : (s : ℕ) → 2 ^ 38 * 2 ^ s ≡ 2 ^ (38 + s)
split s = sym (pow-add 2 38 s)

-- what an interval holds, it holds rounded outward
pub narrow76_encloses : {a r : Ends} → r ≡ narrow76_of a → (s : ℕ) (x : Fraction) → Lies a (38 + s) x → Lies r s x
unfolding narrow76_of
narrow76_encloses {a} {r} e s x p =
    let lo = rw (split s) at (ratio-floor_of a.lo (2 ^ 38) (2 ^ s) (pow_pos 38) (pow_pos s)) in
    let hi = rw (split s) at (ratio-ceil_of a.hi (2 ^ 38) (2 ^ s) (pow_pos 38) (pow_pos s)) in
    rw e record { low = ≤ᶠ_trans lo p.low; high = ≤ᶠ_trans p.high hi }

-- the ends of a floor and a ceiling by one number keep their order
pub rounded_ordered : (y z : ℤ) (k : ℕ) → 0 < k → y ≤ℤ z → floor_of y k ≤ℤ ceil_of z k
rounded_ordered y z k p h = ≤ℤ_trans _ (floor_of z k) _ (floor_of_mono y z k p h) (floor_of-at_most-ceil_of z k p)

-- wider ends are wider when rounded
pub narrow76_isotone : {a r : Ends} → r ≡ narrow76_of a → (c : Ends) → IsInside a c → IsInside r (narrow76_of c)
unfolding narrow76_of
narrow76_isotone {a} {r} e c p = rw e record {
  low = floor_of_mono c.lo a.lo (2 ^ 38) (pow_pos 38) p.low;
  ordered = rounded_ordered a.lo a.hi (2 ^ 38) (pow_pos 38) p.ordered;
  high = ceil_of_mono a.hi c.hi (2 ^ 38) (pow_pos 38) p.high;
}

-- ---- mul
-- the product of two choices lies in the product at scale 38
pub mul_encloses : {a b r : Ends} → r ≡ mul_of a b → (x y : Fraction) → Lies a 38 x → Lies b 38 y → Lies r 38 (x *ᶠ y)
unfolding mul_of
mul_encloses {a} {b} {r} e x y p q = narrow76_encloses e 38 (x *ᶠ y) (mul_wide_encloses refl 38 38 x y p q)

-- wider ends have a wider product at scale 38
pub mul_isotone : {a b r : Ends} → r ≡ mul_of a b → (c d : Ends) → IsInside a c → IsInside b d → IsInside r (mul_of c d)
unfolding mul_of
mul_isotone {a} {b} {r} e c d p q = narrow76_isotone e (mul_wide_of c d) (mul_wide_isotone refl c d p q)

-- ---- scale_int
-- no scale more is the scale
no_more : (s : ℕ) → s + 0 ≡ s
no_more s = omega arith

-- the product of a choice with a number from first to last lies in the product, at the scale of the choice
pub scale_int_encloses : {a r : Ends} (first last : ℤ) → r ≡ scale_int_of a first last → (s : ℕ) (x t : Fraction) → Lies a s x → whole first ≤ᶠ t → t ≤ᶠ whole last → Lies r s (x *ᶠ t)
unfolding scale_int_of
scale_int_encloses {a} {r} first last e s x t p h k = subst (λ n. Lies r n (x *ᶠ t)) (no_more s) (mul_wide_encloses e s 0 x t p record { low = h; high = k })

-- wider ends and a wider range have a wider product
pub scale_int_isotone : {a r : Ends} (first last : ℤ) → r ≡ scale_int_of a first last → first ≤ℤ last → (c d : Ends) → IsInside a c → d.lo ≤ℤ first → last ≤ℤ d.hi → IsInside r (scale_int_of c d.lo d.hi)
unfolding scale_int_of
scale_int_isotone {a} {r} first last e o c d p h k = mul_wide_isotone e c record { lo = d.lo; hi = d.hi } p record { low = h; ordered = o; high = k }

-- ---- of two numbers
-- what holds of two numbers holds of the smaller
pub pick_min : (P : ℤ → Type 0) (y z : ℤ) → P y → P z → P (int_min y z)
pick_min P y z p q = choose (lt_z z y)
  where
    choose : (t : Bool) → P (cond t z y)
    choose true = q
    choose false = p

-- and of the greater
pub pick_max : (P : ℤ → Type 0) (y z : ℤ) → P y → P z → P (int_max y z)
pick_max P y z p q = choose (lt_z z y)
  where
    choose : (t : Bool) → P (cond t y z)
    choose true = p
    choose false = q
