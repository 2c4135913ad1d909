-- Forms of fixed ends, of quantities that grow evenly, of whole multiples, and of anything within a bound.
use Rattle.std.proofs.Common.{[], ◌∷◌, ℕ, ℤ, pos, neg_ℤ, ◌+ℤ◌, ◌-ℤ◌, ◌*ℤ◌, ◌≤ℤ◌, refl, arith}
use Rattle.std.proofs.lemmas.Int.{ints}
use Rattle.std.specs.Int.{int_min, int_max}
use lib.Dec.{lit≤}
use Rattle.whole_numbers.specs.Rounding.{floor_of}
use Rattle.whole_numbers.proofs.Integers.{≤ℤ_refl, not_negative_natural}
use Rattle.whole_numbers.proofs.Divisions.{floor_of_low}
use Rattle.whole_numbers.proofs.Quote.{quote}
use Rattle.whole_numbers.proofs.Certificates.{at_most, not_negative}
use Rattle.fix_interval.specs.Ends.{Ends}
use Rattle.fix_interval.specs.Ranges.{point}
use Rattle.fix_interval.specs.Products.{mul_wide_of, scale_int_of}
use Rattle.fix_interval.proofs.EndInsides.{inside_self}
use Rattle.fix_interval.proofs.EndProducts.{mul_wide_isotone, pick_min, pick_max}
use Rattle.time_forms.specs.Forms.{Form, IsTime, LiesIn, Holds, size}
use Rattle.time_forms.specs.Operations.{fixed_of, linear_of, moving_of, scale_form, bounded_of}
use Rattle.time_forms.proofs.Bounds.{size_high, size_low}
use Rattle.time_forms.proofs.FormSpans.{turn_high, holds_lo, holds_hi, holds_both}
use Rattle.time_forms.proofs.FormProducts.{IsAround, away, around_high, around_low}

-- ---- fixed ends
fixed_low : (h d c lo hi : ℤ) → pos 0 ≤ℤ h → (c *ℤ pos 2) ≤ℤ (lo +ℤ hi) → (h *ℤ (c -ℤ (hi -ℤ c)) +ℤ pos 0 *ℤ d) ≤ℤ (h *ℤ lo)
fixed_low h d c lo hi n p = at_most (h ∷ d ∷ c ∷ lo ∷ hi ∷ []) (h *ℤ ((lo +ℤ hi) -ℤ c *ℤ pos 2)) (search not_negative) (search quote depth 20) tt

fixed_high : (h d c hi : ℤ) → (h *ℤ hi) ≤ℤ (h *ℤ (c +ℤ (hi -ℤ c)) +ℤ pos 0 *ℤ d)
fixed_high h d c hi = at_most (h ∷ d ∷ c ∷ hi ∷ []) (pos 0) (≤ℤ_refl (pos 0)) (search quote depth 20) tt

pub fixed_holds : (h : ℕ) (d : ℤ) (e : Ends) → e.lo ≤ℤ e.hi → Holds h d (fixed_of e) e
unfolding fixed_of
fixed_holds h d e o = record {
  low = fixed_low (pos h) d (floor_of (e.lo +ℤ e.hi) 2) e.lo e.hi (not_negative_natural h) (floor_of_low (e.lo +ℤ e.hi) 2 (lit≤ tt));
  ordered = o;
  high = fixed_high (pos h) d (floor_of (e.lo +ℤ e.hi) 2) e.hi;
}

-- ---- whole multiples, whatever the number at each time
-- the product of ends with one number lies in a form where the product of each end does
multiple_holds : {h : ℕ} {d : ℤ} (f : Form) (a : Ends) (k : ℤ) → a.lo ≤ℤ a.hi → LiesIn h d f (a.lo *ℤ k) → LiesIn h d f (a.hi *ℤ k) → Holds h d f (scale_int_of a k k)
unfolding scale_int_of mul_wide_of
multiple_holds {h} {d} f a k o p q = holds_both
    ((mul_wide_isotone refl a (point k) (inside_self a o) (inside_self (point k) (≤ℤ_refl k))).ordered)
    (pick_min (LiesIn h d f) (int_min (a.lo *ℤ k) (a.lo *ℤ k)) (int_min (a.hi *ℤ k) (a.hi *ℤ k)) (pick_min (LiesIn h d f) (a.lo *ℤ k) (a.lo *ℤ k) p p) (pick_min (LiesIn h d f) (a.hi *ℤ k) (a.hi *ℤ k) q q))
    (pick_max (LiesIn h d f) (int_max (a.lo *ℤ k) (a.lo *ℤ k)) (int_max (a.hi *ℤ k) (a.hi *ℤ k)) (pick_max (LiesIn h d f) (a.lo *ℤ k) (a.lo *ℤ k) p p) (pick_max (LiesIn h d f) (a.hi *ℤ k) (a.hi *ℤ k) q q))

-- ---- k times what a form holds
scaled_low : (h d c v r k s z : ℤ) → neg_ℤ ((h *ℤ r) *ℤ s) ≤ℤ ((h *ℤ z -ℤ (h *ℤ c +ℤ v *ℤ d)) *ℤ k) → (h *ℤ (c *ℤ k -ℤ r *ℤ s) +ℤ (v *ℤ k) *ℤ d) ≤ℤ (h *ℤ (z *ℤ k))
scaled_low h d c v r k s z p = at_most (h ∷ d ∷ c ∷ v ∷ r ∷ k ∷ s ∷ z ∷ []) ((h *ℤ z -ℤ (h *ℤ c +ℤ v *ℤ d)) *ℤ k -ℤ neg_ℤ ((h *ℤ r) *ℤ s)) (search not_negative) (search quote depth 20) tt

scaled_high : (h d c v r k s z : ℤ) → ((h *ℤ z -ℤ (h *ℤ c +ℤ v *ℤ d)) *ℤ k) ≤ℤ ((h *ℤ r) *ℤ s) → (h *ℤ (z *ℤ k)) ≤ℤ (h *ℤ (c *ℤ k +ℤ r *ℤ s) +ℤ (v *ℤ k) *ℤ d)
scaled_high h d c v r k s z p = at_most (h ∷ d ∷ c ∷ v ∷ r ∷ k ∷ s ∷ z ∷ []) ((h *ℤ r) *ℤ s -ℤ (h *ℤ z -ℤ (h *ℤ c +ℤ v *ℤ d)) *ℤ k) (search not_negative) (search quote depth 20) tt

size_around : (k : ℤ) → IsAround (size k) k
size_around k = record { low = size_low k; high = size_high k }

scale_near : {h : ℕ} {d : ℤ} (f : Form) (k z : ℤ) → LiesIn h d f z → LiesIn h d (scale_form f k) (z *ℤ k)
unfolding scale_form
scale_near {h} {d} f k z p = record {
  low = scaled_low (pos h) d f.centre f.turning f.remainder k (size k) z (around_low (away f z p) (size_around k));
  high = scaled_high (pos h) d f.centre f.turning f.remainder k (size k) z (around_high (away f z p) (size_around k));
}

pub scale_holds : {h : ℕ} {d : ℤ} (f : Form) (a : Ends) (k : ℤ) → Holds h d f a → Holds h d (scale_form f k) (scale_int_of a k k)
scale_holds {h} {d} f a k p = multiple_holds (scale_form f k) a k p.ordered (scale_near f k a.lo (holds_lo p)) (scale_near f k a.hi (holds_hi p))

-- ---- what grows evenly
line_low : (h d c e k s z : ℤ) → pos 0 ≤ℤ h → neg_ℤ (e *ℤ (s +ℤ h)) ≤ℤ ((z -ℤ c) *ℤ (k +ℤ d)) → (h *ℤ (c *ℤ k -ℤ e *ℤ (s +ℤ h)) +ℤ (c *ℤ h) *ℤ d) ≤ℤ (h *ℤ (z *ℤ (k +ℤ d)))
line_low h d c e k s z n p = at_most (h ∷ d ∷ c ∷ e ∷ k ∷ s ∷ z ∷ []) (h *ℤ ((z -ℤ c) *ℤ (k +ℤ d) -ℤ neg_ℤ (e *ℤ (s +ℤ h)))) (search not_negative) (search quote depth 20) tt

line_high : (h d c e k s z : ℤ) → pos 0 ≤ℤ h → ((z -ℤ c) *ℤ (k +ℤ d)) ≤ℤ (e *ℤ (s +ℤ h)) → (h *ℤ (z *ℤ (k +ℤ d))) ≤ℤ (h *ℤ (c *ℤ k +ℤ e *ℤ (s +ℤ h)) +ℤ (c *ℤ h) *ℤ d)
line_high h d c e k s z n p = at_most (h ∷ d ∷ c ∷ e ∷ k ∷ s ∷ z ∷ []) (h *ℤ (e *ℤ (s +ℤ h) -ℤ (z -ℤ c) *ℤ (k +ℤ d))) (search not_negative) (search quote depth 20) tt

linear_near : {h : ℕ} {d : ℤ} (e : Ends) (k z : ℤ) → IsTime h d → e.lo ≤ℤ z → z ≤ℤ e.hi → LiesIn h d (linear_of e k h) (z *ℤ (k +ℤ d))
unfolding linear_of
linear_near {h} {d} e k z t l u =
    let c = floor_of (e.lo +ℤ e.hi) 2 in
    let near : IsAround (e.hi -ℤ c) (z -ℤ c) = off e.lo e.hi c z (floor_of_low (e.lo +ℤ e.hi) 2 (lit≤ tt)) l u in
    let far : IsAround (size k +ℤ pos h) (k +ℤ d) = reach k d (pos h) t.after t.before in
    record {
      low = line_low (pos h) d c (e.hi -ℤ c) k (size k) z (not_negative_natural h) (around_low near far);
      high = line_high (pos h) d c (e.hi -ℤ c) k (size k) z (not_negative_natural h) (around_high near far);
    }
  where
    off : (lo hi c z : ℤ) → (c *ℤ pos 2) ≤ℤ (lo +ℤ hi) → lo ≤ℤ z → z ≤ℤ hi → IsAround (hi -ℤ c) (z -ℤ c)
    off lo hi c z p l u = record { low = omega (arith, ints); high = omega (arith, ints) }

    reach : (k d h : ℤ) → neg_ℤ h ≤ℤ d → d ≤ℤ h → IsAround (size k +ℤ h) (k +ℤ d)
    reach k d h p q = record { low = let i = size_low k in omega (arith, ints); high = let i = size_high k in omega (arith, ints) }

-- k + d times a choice of fixed ends
pub linear_holds : {h : ℕ} {d : ℤ} (e : Ends) (k : ℤ) → IsTime h d → e.lo ≤ℤ e.hi → Holds h d (linear_of e k h) (scale_int_of e (k +ℤ d) (k +ℤ d))
linear_holds {h} {d} e k t o = multiple_holds (linear_of e k h) e (k +ℤ d) o (linear_near e k e.lo t (≤ℤ_refl e.lo) o) (linear_near e k e.hi t o (≤ℤ_refl e.hi))

-- ---- anything within a bound
pub bounded_holds : (h : ℕ) (d : ℤ) (m : ℕ) (e : Ends) → neg_ℤ (pos m) ≤ℤ e.lo → e.lo ≤ℤ e.hi → e.hi ≤ℤ pos m → Holds h d (bounded_of m) e
unfolding bounded_of
bounded_holds h d m e l o u = record { low = below (pos h) d (pos m) e.lo (not_negative_natural h) l; ordered = o; high = above (pos h) d (pos m) e.hi (not_negative_natural h) u }
  where
    below : (h d m z : ℤ) → pos 0 ≤ℤ h → neg_ℤ m ≤ℤ z → (h *ℤ (pos 0 -ℤ m) +ℤ pos 0 *ℤ d) ≤ℤ (h *ℤ z)
    below h d m z n p = at_most (h ∷ d ∷ m ∷ z ∷ []) (h *ℤ (z -ℤ neg_ℤ m)) (search not_negative) (search quote depth 20) tt

    above : (h d m z : ℤ) → pos 0 ≤ℤ h → z ≤ℤ m → (h *ℤ z) ≤ℤ (h *ℤ (pos 0 +ℤ m) +ℤ pos 0 *ℤ d)
    above h d m z n p = at_most (h ∷ d ∷ m ∷ z ∷ []) (h *ℤ (m -ℤ z)) (search not_negative) (search quote depth 20) tt

-- ---- what is e at the middle, and grows by g a millisecond, each end by its own
moving_low : (h d c lo hi g w : ℤ) → pos 0 ≤ℤ h → pos 0 ≤ℤ w → (c *ℤ pos 2) ≤ℤ (lo +ℤ hi) → (h *ℤ (c -ℤ ((hi -ℤ c) +ℤ w *ℤ h)) +ℤ (g *ℤ h) *ℤ d) ≤ℤ (h *ℤ (lo +ℤ g *ℤ d))
moving_low h d c lo hi g w n m p = at_most (h ∷ d ∷ c ∷ lo ∷ hi ∷ g ∷ w ∷ []) (h *ℤ ((lo +ℤ hi) -ℤ c *ℤ pos 2) +ℤ h *ℤ (w *ℤ h)) (search not_negative) (search quote depth 20) tt

moving_high : (h d c hi g k w : ℤ) → pos 0 ≤ℤ h → ((k -ℤ g) *ℤ d) ≤ℤ (w *ℤ h) → (h *ℤ (hi +ℤ k *ℤ d)) ≤ℤ (h *ℤ (c +ℤ ((hi -ℤ c) +ℤ w *ℤ h)) +ℤ (g *ℤ h) *ℤ d)
moving_high h d c hi g k w n p = at_most (h ∷ d ∷ c ∷ hi ∷ g ∷ k ∷ w ∷ []) (h *ℤ (w *ℤ h -ℤ (k -ℤ g) *ℤ d)) (search not_negative) (search quote depth 20) tt

pub moving_holds : {h : ℕ} {d : ℤ} (e g : Ends) → IsTime h d → (e.lo +ℤ g.lo *ℤ d) ≤ℤ (e.hi +ℤ g.hi *ℤ d) → Holds h d (moving_of e g h) record { lo = e.lo +ℤ g.lo *ℤ d; hi = e.hi +ℤ g.hi *ℤ d }
unfolding moving_of
moving_holds {h} {d} e g t o = record {
  low = moving_low (pos h) d (floor_of (e.lo +ℤ e.hi) 2) e.lo e.hi g.lo (size (g.hi -ℤ g.lo)) (not_negative_natural h) (not_negative_natural _) (floor_of_low (e.lo +ℤ e.hi) 2 (lit≤ tt));
  ordered = o;
  high = moving_high (pos h) d (floor_of (e.lo +ℤ e.hi) 2) e.hi g.lo g.hi (size (g.hi -ℤ g.lo)) (not_negative_natural h) (turn_high (g.hi -ℤ g.lo) t);
}
