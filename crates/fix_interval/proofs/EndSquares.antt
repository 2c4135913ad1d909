-- Squares of ends enclose those of fractions, and are isotone.
use Rattle.std.specs.Prelude.{◌≡◌, ℕ, ℤ, pos, ◌+◌, ◌^◌, refl, ◌*ℤ◌, ◌≤ℤ◌, Bool, true, false, ◌&&◌, cond, [], ◌∷◌}
use Rattle.std.proofs.Common.{arith, sym, ⊎_elim}
use Rattle.std.proofs.lemmas.Int.{ints, clamps}
use Rattle.std.proofs.lemmas.Nat.{pow_pos}
use Rattle.std.specs.Int.{int_min, int_max}
use lib.Dec.{lit≤}
use lib.Signed.{le_z}
use Rattle.whole_numbers.proofs.Integers.{≤ℤ_refl, ≤ℤ_trans, ≤ℤ_total, not_negative_square}
use Rattle.whole_numbers.proofs.Products.{*ℤ_mono_left, *ℤ_mono_right, *ℤ_anti_left, *ℤ_anti_right}
use Rattle.fractions.specs.Fraction.{Fraction, ratio, zeroᶠ, ◌+ᶠ◌, ◌-ᶠ◌, ◌*ᶠ◌, ◌≤ᶠ◌}
use Rattle.fractions.proofs.Laws.{≤ᶠ_trans, by_order, *ᶠ_mono, not_negative_square as not_negative_square_fraction}
use Rattle.fractions.proofs.Ratios.{ratio_mono, ratio_at_most}
use Rattle.fractions.proofs.Quote.{quote}
use Rattle.fractions.proofs.Certificates.{at_most, not_negative}
use Rattle.fix_interval.specs.Ends.{Ends, IsInside}
use Rattle.fix_interval.specs.Lies.{Lies}
use Rattle.fix_interval.specs.Products.{sqr_wide_of, sqr_of}
use Rattle.fix_interval.proofs.EndProducts.{corner, narrow76_encloses, narrow76_isotone}

-- ---- encloses
-- of fractions that are not negative, the greater has the greater square
square_mono : {x y : Fraction} → zeroᶠ ≤ᶠ x → x ≤ᶠ y → x *ᶠ x ≤ᶠ y *ᶠ y
square_mono n h = *ᶠ_mono (≤ᶠ_trans n h) n h h

-- and of those that are not positive the smaller
square_anti : {x y : Fraction} → y ≤ᶠ zeroᶠ → x ≤ᶠ y → y *ᶠ y ≤ᶠ x *ᶠ x
square_anti {x} {y} n h = at_most (x ∷ y ∷ []) ((y -ᶠ x) *ᶠ ((zeroᶠ -ᶠ y) +ᶠ ((zeroᶠ -ᶠ y) +ᶠ (y -ᶠ x)))) (search not_negative) (search quote depth 20) tt

-- the square of a choice is at most the greater square of an end
square_high : (a : Ends) (s : ℕ) (x : Fraction) → Lies a s x → x *ᶠ x ≤ᶠ ratio (int_max (a.lo *ℤ a.lo) (a.hi *ℤ a.hi)) (2 ^ (s + s))
square_high a s x p = by_order zeroᶠ x
    (λ n. ≤ᶠ_trans (square_mono n p.high) (rw (corner a.hi a.hi s s) (ratio_mono (2 ^ (s + s)) (omega (arith, ints, clamps)))))
    (λ n. ≤ᶠ_trans (square_anti n p.low) (rw (corner a.lo a.lo s s) (ratio_mono (2 ^ (s + s)) (omega (arith, ints, clamps)))))

-- an end that is not negative stands for such a fraction
end_at_least : (z : ℤ) (s : ℕ) → pos 0 ≤ℤ z → zeroᶠ ≤ᶠ ratio z (2 ^ s)
end_at_least z s h = ratio_at_most (pos 0) z 1 (2 ^ s) (lit≤ tt) (pow_pos s) (omega (arith, ints))

-- and one that is not positive for such a one
end_at_most : (z : ℤ) (s : ℕ) → z ≤ℤ pos 0 → ratio z (2 ^ s) ≤ᶠ zeroᶠ
end_at_most z s h = ratio_at_most z (pos 0) (2 ^ s) 1 (pow_pos s) (lit≤ tt) (omega (arith, ints))

-- the square of a choice is at least the least square, in each case of the signs
square_low : (a : Ends) (s : ℕ) (x : Fraction) → Lies a s x → (t u : Bool) → le_z a.lo (pos 0) ≡ t → le_z (pos 0) a.hi ≡ u → ratio (cond (t && u) (pos 0) (int_min (a.lo *ℤ a.lo) (a.hi *ℤ a.hi))) (2 ^ (s + s)) ≤ᶠ x *ᶠ x
square_low a s x p true true d e = ≤ᶠ_trans (end_at_most (pos 0) (s + s) (omega (arith, ints))) (not_negative_square_fraction x)
square_low a s x p true false d e = ≤ᶠ_trans (rw (sym (corner a.hi a.hi s s)) at (ratio_mono (2 ^ (s + s)) (least_right (a.lo *ℤ a.lo) (a.hi *ℤ a.hi)))) (square_anti (end_at_most a.hi s (omega (arith, ints))) p.high)
  where
    least_right : (y z : ℤ) → int_min y z ≤ℤ z
    least_right y z = omega (arith, ints, clamps)
square_low a s x p false u d e = ≤ᶠ_trans (rw (sym (corner a.lo a.lo s s)) at (ratio_mono (2 ^ (s + s)) (least_left (a.lo *ℤ a.lo) (a.hi *ℤ a.hi)))) (square_mono (end_at_least a.lo s (omega (arith, ints))) p.low)
  where
    least_left : (y z : ℤ) → int_min y z ≤ℤ y
    least_left y z = omega (arith, ints, clamps)

-- the square of a choice lies in the square
pub sqr_wide_encloses : {a r : Ends} → r ≡ sqr_wide_of a → (s : ℕ) (x : Fraction) → Lies a s x → Lies r (s + s) (x *ᶠ x)
unfolding sqr_wide_of
sqr_wide_encloses {a} {r} e s x p = rw e record { low = square_low a s x p (le_z a.lo (pos 0)) (le_z (pos 0) a.hi) refl refl; high = square_high a s x p }

-- and at scale 38
pub sqr_encloses : {a r : Ends} → r ≡ sqr_of a → (x : Fraction) → Lies a 38 x → Lies r 38 (x *ᶠ x)
unfolding sqr_of
sqr_encloses {a} {r} e x p = narrow76_encloses e 38 (x *ᶠ x) (sqr_wide_encloses refl 38 x p)

-- ---- isotone
-- the square grows with what is not negative
square_grows : (x y : ℤ) → pos 0 ≤ℤ x → x ≤ℤ y → (x *ℤ x) ≤ℤ (y *ℤ y)
square_grows x y n h = ≤ℤ_trans _ (x *ℤ y) _ (*ℤ_mono_right x y x n h) (*ℤ_mono_left x y y (≤ℤ_trans _ x _ n h) h)

-- and falls with what is not positive
square_falls : (x y : ℤ) → y ≤ℤ pos 0 → x ≤ℤ y → (y *ℤ y) ≤ℤ (x *ℤ x)
square_falls x y n h = ≤ℤ_trans _ (x *ℤ y) _ (*ℤ_anti_left x y y n h) (*ℤ_anti_right x y x (≤ℤ_trans _ y _ h n) h)

-- the square of a number between ends is at most the greater square
greatest_square : (l h x : ℤ) → l ≤ℤ x → x ≤ℤ h → (x *ℤ x) ≤ℤ int_max (l *ℤ l) (h *ℤ h)
greatest_square l h x p q = ⊎_elim (λ n. right (l *ℤ l) (h *ℤ h) (square_grows x h n q)) (λ n. left (l *ℤ l) (h *ℤ h) (square_falls l x n p)) (≤ℤ_total (pos 0) x)
  where
    left : {z : ℤ} (u v : ℤ) → z ≤ℤ u → z ≤ℤ int_max u v
    left u v k = omega (arith, ints, clamps)

    right : {z : ℤ} (u v : ℤ) → z ≤ℤ v → z ≤ℤ int_max u v
    right u v k = omega (arith, ints, clamps)

-- and at least the least square, in each case of the signs
least_square : (l h x : ℤ) (t u : Bool) → le_z l (pos 0) ≡ t → le_z (pos 0) h ≡ u → l ≤ℤ x → x ≤ℤ h → cond (t && u) (pos 0) (int_min (l *ℤ l) (h *ℤ h)) ≤ℤ (x *ℤ x)
least_square l h x true true d e p q = not_negative_square x
least_square l h x true false d e p q = ≤ℤ_trans _ (h *ℤ h) _ (right (l *ℤ l) (h *ℤ h)) (square_falls x h (omega (arith, ints)) q)
  where
    right : (u v : ℤ) → int_min u v ≤ℤ v
    right u v = omega (arith, ints, clamps)
least_square l h x false u d e p q = ≤ℤ_trans _ (l *ℤ l) _ (left (l *ℤ l) (h *ℤ h)) (square_grows l x (omega (arith, ints)) p)
  where
    left : (u v : ℤ) → int_min u v ≤ℤ u
    left u v = omega (arith, ints, clamps)

-- a number that is at most the square of each number between ends is at most their least square
below_least : (m l h : ℤ) (t u : Bool) → le_z l (pos 0) ≡ t → le_z (pos 0) h ≡ u → l ≤ℤ h → ((x : ℤ) → l ≤ℤ x → x ≤ℤ h → m ≤ℤ (x *ℤ x)) → m ≤ℤ cond (t && u) (pos 0) (int_min (l *ℤ l) (h *ℤ h))
below_least m l h true true d e o f = let k : m ≤ℤ (pos 0 *ℤ pos 0) = f (pos 0) (omega (arith, ints)) (omega (arith, ints)) in omega (arith, ints)
below_least m l h true false d e o f = least (l *ℤ l) (h *ℤ h) (f l (omega (arith, ints)) o) (f h o (omega (arith, ints)))
  where
    least : (u v : ℤ) → m ≤ℤ u → m ≤ℤ v → m ≤ℤ int_min u v
    least u v i j = omega (arith, ints, clamps)
below_least m l h false u d e o f = least (l *ℤ l) (h *ℤ h) (f l (omega (arith, ints)) o) (f h o (omega (arith, ints)))
  where
    least : (u v : ℤ) → m ≤ℤ u → m ≤ℤ v → m ≤ℤ int_min u v
    least u v i j = omega (arith, ints, clamps)

-- wider ends have a wider square
pub sqr_wide_isotone : {a r : Ends} → r ≡ sqr_wide_of a → (c : Ends) → IsInside a c → IsInside r (sqr_wide_of c)
unfolding sqr_wide_of
sqr_wide_isotone {a} {r} e c p =
    let al = ≤ℤ_trans a.lo a.hi c.hi p.ordered p.high in
    let ah = ≤ℤ_trans c.lo a.lo a.hi p.low p.ordered in
    rw e record {
      low = below_least _ a.lo a.hi (le_z a.lo (pos 0)) (le_z (pos 0) a.hi) refl refl p.ordered
          (λ x i j. least_square c.lo c.hi x (le_z c.lo (pos 0)) (le_z (pos 0) c.hi) refl refl (≤ℤ_trans _ a.lo _ p.low i) (≤ℤ_trans _ a.hi _ j p.high));
      ordered = ≤ℤ_trans _ (a.lo *ℤ a.lo) _ (least_square a.lo a.hi a.lo (le_z a.lo (pos 0)) (le_z (pos 0) a.hi) refl refl (≤ℤ_refl a.lo) p.ordered) (greatest_square a.lo a.hi a.lo (≤ℤ_refl a.lo) p.ordered);
      high = both (a.lo *ℤ a.lo) (a.hi *ℤ a.hi) (greatest_square c.lo c.hi a.lo p.low al) (greatest_square c.lo c.hi a.hi ah p.high);
    }
  where
    both : {m : ℤ} (u v : ℤ) → u ≤ℤ m → v ≤ℤ m → int_max u v ≤ℤ m
    both u v i j = omega (arith, ints, clamps)

-- and at scale 38
pub sqr_isotone : {a r : Ends} → r ≡ sqr_of a → (c : Ends) → IsInside a c → IsInside r (sqr_of c)
unfolding sqr_of
sqr_isotone {a} {r} e c p = narrow76_isotone e (sqr_wide_of c) (sqr_wide_isotone refl c p)

-- the least square is at most the greatest
pub sqr_wide_ordered : (a : Ends) → a.lo ≤ℤ a.hi → (sqr_wide_of a).lo ≤ℤ (sqr_wide_of a).hi
sqr_wide_ordered a o = (sqr_wide_isotone refl a record { low = ≤ℤ_refl a.lo; ordered = o; high = ≤ℤ_refl a.hi }).ordered

-- a number that is at most both squares of ends, and at most 0 where the ends hold 0, is at most the least square
pub below_least_square : (a : Ends) (m : ℤ) → a.lo ≤ℤ a.hi → (t u : Bool) → le_z a.lo (pos 0) ≡ t → le_z (pos 0) a.hi ≡ u → (pos 0 ≤ℤ a.hi → a.lo ≤ℤ pos 0 → m ≤ℤ pos 0) → m ≤ℤ (a.lo *ℤ a.lo) → m ≤ℤ (a.hi *ℤ a.hi) → m ≤ℤ cond (t && u) (pos 0) (int_min (a.lo *ℤ a.lo) (a.hi *ℤ a.hi))
below_least_square a m o true true d e z p q = z (omega (arith, ints)) (omega (arith, ints))
below_least_square a m o true false d e z p q = at_min (a.lo *ℤ a.lo) (a.hi *ℤ a.hi) p q
  where
    at_min : (y z : ℤ) → m ≤ℤ y → m ≤ℤ z → m ≤ℤ int_min y z
    at_min y z h k = omega (arith, ints, clamps)
below_least_square a m o false u d e z p q = at_min (a.lo *ℤ a.lo) (a.hi *ℤ a.hi) p q
  where
    at_min : (y z : ℤ) → m ≤ℤ y → m ≤ℤ z → m ≤ℤ int_min y z
    at_min y z h k = omega (arith, ints, clamps)
