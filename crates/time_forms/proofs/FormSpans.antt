-- What a form holds lies between its least and its greatest.
use Rattle.std.proofs.Common.{[], ◌∷◌, ℕ, ◌*◌, ◌<◌, ℤ, pos, neg_ℤ, ◌+ℤ◌, ◌-ℤ◌, ◌*ℤ◌, ◌≤ℤ◌, ◌<ℤ◌, arith}
use Rattle.std.proofs.lemmas.Int.{ints}
use Rattle.whole_numbers.proofs.Integers.{≤ℤ_trans}
use Rattle.whole_numbers.proofs.Products.{*ℤ_mono_right}
use Rattle.whole_numbers.proofs.Integers.{not_negative_natural}
use Rattle.whole_numbers.proofs.Quote.{quote}
use Rattle.whole_numbers.proofs.Certificates.{at_most_scaled, not_negative}
use Rattle.fix_interval.specs.Ends.{Ends, IsInside}
use Rattle.time_forms.specs.Forms.{Form, IsTime, LiesIn, Holds, size, least_of, greatest_of, span_of}
use Rattle.time_forms.proofs.Bounds.{product_high, product_low, size_high, size_low}

-- both ends of what a form holds lie in it, and what lies between
pub holds_lo : {h : ℕ} {d : ℤ} {f : Form} {e : Ends} → Holds h d f e → LiesIn h d f e.lo
holds_lo {h} {d} {f} {e} p = record { low = p.low; high = ≤ℤ_trans _ (pos h *ℤ e.hi) _ (*ℤ_mono_right e.lo e.hi (pos h) (not_negative_natural h) p.ordered) p.high }

pub holds_hi : {h : ℕ} {d : ℤ} {f : Form} {e : Ends} → Holds h d f e → LiesIn h d f e.hi
holds_hi {h} {d} {f} {e} p = record { low = ≤ℤ_trans _ (pos h *ℤ e.lo) _ p.low (*ℤ_mono_right e.lo e.hi (pos h) (not_negative_natural h) p.ordered); high = p.high }

pub holds_between : {h : ℕ} {d : ℤ} {f : Form} {e : Ends} → Holds h d f e → (z : ℤ) → e.lo ≤ℤ z → z ≤ℤ e.hi → LiesIn h d f z
holds_between {h} {d} {f} {e} p z l u = record {
  low = ≤ℤ_trans _ (pos h *ℤ e.lo) _ p.low (*ℤ_mono_right e.lo z (pos h) (not_negative_natural h) l);
  high = ≤ℤ_trans _ (pos h *ℤ e.hi) _ (*ℤ_mono_right z e.hi (pos h) (not_negative_natural h) u) p.high;
}

-- ends that lie in a form are held by it
pub holds_both : {h : ℕ} {d : ℤ} {f : Form} {e : Ends} → e.lo ≤ℤ e.hi → LiesIn h d f e.lo → LiesIn h d f e.hi → Holds h d f e
holds_both {h} {d} {f} {e} o p q = record { low = p.low; ordered = o; high = q.high }

-- the part that turns is at most its greatest, in size
pub turn_high : {h : ℕ} {d : ℤ} (v : ℤ) → IsTime h d → (v *ℤ d) ≤ℤ (size v *ℤ pos h)
turn_high {h} {d} v t = product_high v d (size v) (pos h) (size_low v) (size_high v) t.after t.before

pub turn_low : {h : ℕ} {d : ℤ} (v : ℤ) → IsTime h d → neg_ℤ (size v *ℤ pos h) ≤ℤ (v *ℤ d)
turn_low {h} {d} v t = product_low v d (size v) (pos h) (size_low v) (size_high v) t.after t.before

low_end : (h : ℕ) (d c v r s z : ℤ) → 0 < h → neg_ℤ (s *ℤ pos h) ≤ℤ (v *ℤ d) → (pos h *ℤ (c -ℤ r) +ℤ v *ℤ d) ≤ℤ (pos h *ℤ z) → ((c -ℤ s) -ℤ r) ≤ℤ z
low_end h d c v r s z some t p = at_most_scaled (pos h ∷ d ∷ c ∷ v ∷ r ∷ s ∷ z ∷ []) h some ((pos h *ℤ z -ℤ (pos h *ℤ (c -ℤ r) +ℤ v *ℤ d)) +ℤ (v *ℤ d -ℤ neg_ℤ (s *ℤ pos h))) (search not_negative) (search quote depth 20) tt

high_end : (h : ℕ) (d c v r s z : ℤ) → 0 < h → (v *ℤ d) ≤ℤ (s *ℤ pos h) → (pos h *ℤ z) ≤ℤ (pos h *ℤ (c +ℤ r) +ℤ v *ℤ d) → z ≤ℤ ((c +ℤ s) +ℤ r)
high_end h d c v r s z some t p = at_most_scaled (pos h ∷ d ∷ c ∷ v ∷ r ∷ s ∷ z ∷ []) h some (((pos h *ℤ (c +ℤ r) +ℤ v *ℤ d) -ℤ pos h *ℤ z) +ℤ (s *ℤ pos h -ℤ v *ℤ d)) (search not_negative) (search quote depth 20) tt

-- what lies in a form at a time is at least its least, and at most its greatest
pub least_low : {h : ℕ} {d : ℤ} (f : Form) (z : ℤ) → IsTime h d → LiesIn h d f z → least_of f ≤ℤ z
unfolding least_of
least_low {h} {d} f z t p = low_end h d f.centre f.turning f.remainder (size f.turning) z t.some (turn_low f.turning t) p.low

pub greatest_high : {h : ℕ} {d : ℤ} (f : Form) (z : ℤ) → IsTime h d → LiesIn h d f z → z ≤ℤ greatest_of f
unfolding greatest_of
greatest_high {h} {d} f z t p = high_end h d f.centre f.turning f.remainder (size f.turning) z t.some (turn_high f.turning t) p.high

-- so what a form holds is inside its span
pub span_inside : {h : ℕ} {d : ℤ} (f : Form) (e : Ends) → IsTime h d → Holds h d f e → IsInside e (span_of f)
unfolding span_of
span_inside {h} {d} f e t p = record { low = least_low f e.lo t (holds_lo p); ordered = p.ordered; high = greatest_high f e.hi t (holds_hi p) }

-- what is certain of forms is certain of what they hold
pub certain_le : {h : ℕ} {d : ℤ} (f g : Form) (a b : Ends) → IsTime h d → greatest_of f ≤ℤ least_of g → Holds h d f a → Holds h d g b → a.hi ≤ℤ b.lo
certain_le {h} {d} f g a b t o p q = ≤ℤ_trans _ (greatest_of f) _ (greatest_high f a.hi t (holds_hi p)) (≤ℤ_trans _ (least_of g) _ o (least_low g b.lo t (holds_lo q)))

pub certain_lt : {h : ℕ} {d : ℤ} (f g : Form) (a b : Ends) → IsTime h d → greatest_of f <ℤ least_of g → Holds h d f a → Holds h d g b → a.hi <ℤ b.lo
certain_lt {h} {d} f g a b t o p q = below a.hi (greatest_of f) (least_of g) b.lo (greatest_high f a.hi t (holds_hi p)) o (least_low g b.lo t (holds_lo q))
  where
    below : (y m n z : ℤ) → y ≤ℤ m → m <ℤ n → n ≤ℤ z → y <ℤ z
    below y m n z i j k = omega (arith, ints)

-- a form that holds something has a remainder that is not negative
pub remainder_not_negative : {h : ℕ} {d : ℤ} (f : Form) (z : ℤ) → IsTime h d → LiesIn h d f z → pos 0 ≤ℤ f.remainder
remainder_not_negative {h} {d} f z t p = apart h d f.centre f.turning f.remainder z (let s = t.some in omega arith) p.low p.high
  where
    apart : (h : ℕ) (d c v r z : ℤ) → 0 < 2 * h → (pos h *ℤ (c -ℤ r) +ℤ v *ℤ d) ≤ℤ (pos h *ℤ z) → (pos h *ℤ z) ≤ℤ (pos h *ℤ (c +ℤ r) +ℤ v *ℤ d) → pos 0 ≤ℤ r
    apart h d c v r z some p q = at_most_scaled (pos h ∷ d ∷ c ∷ v ∷ r ∷ z ∷ []) (2 * h) some ((pos h *ℤ z -ℤ (pos h *ℤ (c -ℤ r) +ℤ v *ℤ d)) +ℤ ((pos h *ℤ (c +ℤ r) +ℤ v *ℤ d) -ℤ pos h *ℤ z)) (search not_negative) (search quote depth 20) tt

-- and its least is at most its centre
pub least_at_most_centre : {h : ℕ} {d : ℤ} (f : Form) (z : ℤ) → IsTime h d → LiesIn h d f z → least_of f ≤ℤ f.centre
unfolding least_of
least_at_most_centre {h} {d} f z t p = drop f.centre (size f.turning) f.remainder (not_negative_natural (Rattle.std.proofs.Common.unsigned_abs f.turning)) (remainder_not_negative f z t p)
  where
    drop : (c v r : ℤ) → pos 0 ≤ℤ v → pos 0 ≤ℤ r → ((c -ℤ v) -ℤ r) ≤ℤ c
    drop c v r p q = omega (arith, ints)
