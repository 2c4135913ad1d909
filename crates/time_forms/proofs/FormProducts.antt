-- The wide product of forms holds the wide product of what they hold.
use Rattle.std.proofs.Common.{◌≡◌, Bool, true, false, ◌&&◌, cond, [], ◌∷◌, ℕ, ◌<◌, ℤ, pos, neg_ℤ, ◌+ℤ◌, ◌-ℤ◌, ◌*ℤ◌, ◌≤ℤ◌, refl, arith}
use Rattle.std.proofs.lemmas.Int.{ints}
use Rattle.std.specs.Int.{int_min, int_max}
use lib.Dec.{lit≤}
use lib.Signed.{le_z}
use Rattle.whole_numbers.specs.Rounding.{floor_of}
use Rattle.whole_numbers.proofs.Integers.{not_negative_natural}
use Rattle.whole_numbers.proofs.Divisions.{floor_of_low, floor_of_high}
use Rattle.whole_numbers.proofs.Quote.{quote}
use Rattle.whole_numbers.proofs.Certificates.{at_most, at_most_scaled, not_negative}
use Rattle.fix_interval.specs.Ends.{Ends}
use Rattle.fix_interval.specs.Products.{mul_wide_of, sqr_wide_of}
use Rattle.fix_interval.proofs.EndInsides.{inside_self}
use Rattle.fix_interval.proofs.EndProducts.{mul_wide_isotone, pick_min, pick_max}
use Rattle.fix_interval.proofs.EndSquares.{sqr_wide_ordered}
use Rattle.time_forms.specs.Forms.{Form, IsTime, LiesIn, Holds, size}
use Rattle.time_forms.specs.Operations.{wide_form}
use Rattle.time_forms.proofs.Bounds.{product_high, product_low, size_high, size_low, bend_high, bend_low}
use Rattle.time_forms.proofs.FormSpans.{turn_high, turn_low, holds_lo, holds_hi, holds_between, holds_both}

-- ---- how far a form's middle goes, and how far a number near it
middle_high : (h d c v m s : ℤ) → pos 0 ≤ℤ h → c ≤ℤ m → (v *ℤ d) ≤ℤ (s *ℤ h) → (h *ℤ c +ℤ v *ℤ d) ≤ℤ (h *ℤ (m +ℤ s))
middle_high h d c v m s n p q = at_most (h ∷ d ∷ c ∷ v ∷ m ∷ s ∷ []) (h *ℤ (m -ℤ c) +ℤ (s *ℤ h -ℤ v *ℤ d)) (search not_negative) (search quote depth 20) tt

middle_low : (h d c v m s : ℤ) → pos 0 ≤ℤ h → neg_ℤ m ≤ℤ c → neg_ℤ (s *ℤ h) ≤ℤ (v *ℤ d) → neg_ℤ (h *ℤ (m +ℤ s)) ≤ℤ (h *ℤ c +ℤ v *ℤ d)
middle_low h d c v m s n p q = at_most (h ∷ d ∷ c ∷ v ∷ m ∷ s ∷ []) (h *ℤ (c -ℤ neg_ℤ m) +ℤ (v *ℤ d -ℤ neg_ℤ (s *ℤ h))) (search not_negative) (search quote depth 20) tt

-- the middle of a form at a time
abbrev pub middle : ℕ → ℤ → Form → ℤ
middle h d f = pos h *ℤ f.centre +ℤ f.turning *ℤ d

pub record IsAround (m y : ℤ) : Type 0 where
  pub low : neg_ℤ m ≤ℤ y
  pub high : y ≤ℤ m

pub middle_around : {h : ℕ} {d : ℤ} (f : Form) → IsTime h d → IsAround (pos h *ℤ (size f.centre +ℤ size f.turning)) (middle h d f)
middle_around {h} {d} f t = record {
  low = middle_low (pos h) d f.centre f.turning (size f.centre) (size f.turning) (not_negative_natural h) (size_low f.centre) (turn_low f.turning t);
  high = middle_high (pos h) d f.centre f.turning (size f.centre) (size f.turning) (not_negative_natural h) (size_high f.centre) (turn_high f.turning t);
}

-- the distance from the middle
pub away : {h : ℕ} {d : ℤ} (f : Form) (z : ℤ) → LiesIn h d f z → IsAround (pos h *ℤ f.remainder) (pos h *ℤ z -ℤ middle h d f)
away {h} {d} f z p = record { low = below (pos h) d f.centre f.turning f.remainder z p.low; high = above (pos h) d f.centre f.turning f.remainder z p.high }
  where
    below : (h d c v r z : ℤ) → (h *ℤ (c -ℤ r) +ℤ v *ℤ d) ≤ℤ (h *ℤ z) → neg_ℤ (h *ℤ r) ≤ℤ (h *ℤ z -ℤ (h *ℤ c +ℤ v *ℤ d))
    below h d c v r z p = at_most (h ∷ d ∷ c ∷ v ∷ r ∷ z ∷ []) (h *ℤ z -ℤ (h *ℤ (c -ℤ r) +ℤ v *ℤ d)) (search not_negative) (search quote depth 20) tt

    above : (h d c v r z : ℤ) → (h *ℤ z) ≤ℤ (h *ℤ (c +ℤ r) +ℤ v *ℤ d) → (h *ℤ z -ℤ (h *ℤ c +ℤ v *ℤ d)) ≤ℤ (h *ℤ r)
    above h d c v r z p = at_most (h ∷ d ∷ c ∷ v ∷ r ∷ z ∷ []) ((h *ℤ (c +ℤ r) +ℤ v *ℤ d) -ℤ h *ℤ z) (search not_negative) (search quote depth 20) tt

-- the number itself
pub whole_around : {h : ℕ} {d : ℤ} (f : Form) (z : ℤ) → IsTime h d → LiesIn h d f z → IsAround (pos h *ℤ ((size f.centre +ℤ size f.turning) +ℤ f.remainder)) (pos h *ℤ z)
whole_around {h} {d} f z t p = let m = middle_around f t in let a = away f z p in
    record { low = below (pos h) (size f.centre +ℤ size f.turning) f.remainder (pos h *ℤ z) (middle h d f) m.low a.low; high = above (pos h) (size f.centre +ℤ size f.turning) f.remainder (pos h *ℤ z) (middle h d f) m.high a.high }
  where
    below : (h m r y a : ℤ) → neg_ℤ (h *ℤ m) ≤ℤ a → neg_ℤ (h *ℤ r) ≤ℤ (y -ℤ a) → neg_ℤ (h *ℤ (m +ℤ r)) ≤ℤ y
    below h m r y a p q = at_most (h ∷ m ∷ r ∷ y ∷ a ∷ []) ((a -ℤ neg_ℤ (h *ℤ m)) +ℤ ((y -ℤ a) -ℤ neg_ℤ (h *ℤ r))) (search not_negative) (search quote depth 20) tt

    above : (h m r y a : ℤ) → a ≤ℤ (h *ℤ m) → (y -ℤ a) ≤ℤ (h *ℤ r) → y ≤ℤ (h *ℤ (m +ℤ r))
    above h m r y a p q = at_most (h ∷ m ∷ r ∷ y ∷ a ∷ []) ((h *ℤ m -ℤ a) +ℤ (h *ℤ r -ℤ (y -ℤ a))) (search not_negative) (search quote depth 20) tt

pub around_high : {m y n z : ℤ} → IsAround m y → IsAround n z → (y *ℤ z) ≤ℤ (m *ℤ n)
around_high {m} {y} {n} {z} p q = product_high y z m n p.low p.high q.low q.high

pub around_low : {m y n z : ℤ} → IsAround m y → IsAround n z → neg_ℤ (m *ℤ n) ≤ℤ (y *ℤ z)
around_low {m} {y} {n} {z} p q = product_low y z m n p.low p.high q.low q.high

-- ---- half of the product of what turns
half_above : (q : ℤ) → pos 0 ≤ℤ (floor_of q 2 +ℤ (floor_of (size q) 2 +ℤ pos 1))
half_above q = let a = floor_of_low q 2 (lit≤ tt) in let b = floor_of_high q 2 (lit≤ tt) in let c = floor_of_low (size q) 2 (lit≤ tt) in let e = floor_of_high (size q) 2 (lit≤ tt) in omega (arith, ints)

half_high : (q : ℤ) → q ≤ℤ (floor_of q 2 +ℤ (floor_of (size q) 2 +ℤ pos 1))
half_high q = let a = floor_of_low q 2 (lit≤ tt) in let b = floor_of_high q 2 (lit≤ tt) in let c = floor_of_low (size q) 2 (lit≤ tt) in let e = floor_of_high (size q) 2 (lit≤ tt) in omega (arith, ints)

half_below : (q : ℤ) → (floor_of q 2 -ℤ (floor_of (size q) 2 +ℤ pos 1)) ≤ℤ pos 0
half_below q = let a = floor_of_low q 2 (lit≤ tt) in let b = floor_of_high q 2 (lit≤ tt) in let c = floor_of_low (size q) 2 (lit≤ tt) in let e = floor_of_high (size q) 2 (lit≤ tt) in omega (arith, ints)

half_low : (q : ℤ) → (floor_of q 2 -ℤ (floor_of (size q) 2 +ℤ pos 1)) ≤ℤ q
half_low q = let a = floor_of_low q 2 (lit≤ tt) in let b = floor_of_high q 2 (lit≤ tt) in let c = floor_of_low (size q) 2 (lit≤ tt) in let e = floor_of_high (size q) 2 (lit≤ tt) in omega (arith, ints)

-- the square of a time is at most that of half the length
time_square : {h : ℕ} {d : ℤ} → IsTime h d → (d *ℤ d) ≤ℤ (pos h *ℤ pos h)
time_square {h} {d} t = product_high d d (pos h) (pos h) t.after t.before t.after t.before

-- ---- the product of two numbers
corner_high : (h : ℕ) (d a u r b w s x y m q k l : ℤ) → 0 < h
    → ((u *ℤ w) *ℤ (d *ℤ d)) ≤ℤ ((m +ℤ q) *ℤ (pos h *ℤ pos h))
    → ((pos h *ℤ a +ℤ u *ℤ d) *ℤ (pos h *ℤ y -ℤ (pos h *ℤ b +ℤ w *ℤ d))) ≤ℤ ((pos h *ℤ k) *ℤ (pos h *ℤ s))
    → ((pos h *ℤ y) *ℤ (pos h *ℤ x -ℤ (pos h *ℤ a +ℤ u *ℤ d))) ≤ℤ ((pos h *ℤ (l +ℤ s)) *ℤ (pos h *ℤ r))
    → (pos h *ℤ (x *ℤ y)) ≤ℤ (pos h *ℤ ((a *ℤ b +ℤ m) +ℤ ((k *ℤ s +ℤ (l +ℤ s) *ℤ r) +ℤ q)) +ℤ (a *ℤ w +ℤ u *ℤ b) *ℤ d)
corner_high h d a u r b w s x y m q k l some i j n = at_most_scaled (pos h ∷ d ∷ a ∷ u ∷ r ∷ b ∷ w ∷ s ∷ x ∷ y ∷ m ∷ q ∷ k ∷ l ∷ []) h some
    ((((m +ℤ q) *ℤ (pos h *ℤ pos h)) -ℤ ((u *ℤ w) *ℤ (d *ℤ d)))
    +ℤ ((((pos h *ℤ k) *ℤ (pos h *ℤ s)) -ℤ ((pos h *ℤ a +ℤ u *ℤ d) *ℤ (pos h *ℤ y -ℤ (pos h *ℤ b +ℤ w *ℤ d))))
    +ℤ (((pos h *ℤ (l +ℤ s)) *ℤ (pos h *ℤ r)) -ℤ ((pos h *ℤ y) *ℤ (pos h *ℤ x -ℤ (pos h *ℤ a +ℤ u *ℤ d))))))
    (search not_negative) (search quote depth 20) tt

corner_low : (h : ℕ) (d a u r b w s x y m q k l : ℤ) → 0 < h
    → ((m -ℤ q) *ℤ (pos h *ℤ pos h)) ≤ℤ ((u *ℤ w) *ℤ (d *ℤ d))
    → neg_ℤ ((pos h *ℤ k) *ℤ (pos h *ℤ s)) ≤ℤ ((pos h *ℤ a +ℤ u *ℤ d) *ℤ (pos h *ℤ y -ℤ (pos h *ℤ b +ℤ w *ℤ d)))
    → neg_ℤ ((pos h *ℤ (l +ℤ s)) *ℤ (pos h *ℤ r)) ≤ℤ ((pos h *ℤ y) *ℤ (pos h *ℤ x -ℤ (pos h *ℤ a +ℤ u *ℤ d)))
    → (pos h *ℤ ((a *ℤ b +ℤ m) -ℤ ((k *ℤ s +ℤ (l +ℤ s) *ℤ r) +ℤ q)) +ℤ (a *ℤ w +ℤ u *ℤ b) *ℤ d) ≤ℤ (pos h *ℤ (x *ℤ y))
corner_low h d a u r b w s x y m q k l some i j n = at_most_scaled (pos h ∷ d ∷ a ∷ u ∷ r ∷ b ∷ w ∷ s ∷ x ∷ y ∷ m ∷ q ∷ k ∷ l ∷ []) h some
    ((((u *ℤ w) *ℤ (d *ℤ d)) -ℤ ((m -ℤ q) *ℤ (pos h *ℤ pos h)))
    +ℤ ((((pos h *ℤ a +ℤ u *ℤ d) *ℤ (pos h *ℤ y -ℤ (pos h *ℤ b +ℤ w *ℤ d))) -ℤ neg_ℤ ((pos h *ℤ k) *ℤ (pos h *ℤ s)))
    +ℤ (((pos h *ℤ y) *ℤ (pos h *ℤ x -ℤ (pos h *ℤ a +ℤ u *ℤ d))) -ℤ neg_ℤ ((pos h *ℤ (l +ℤ s)) *ℤ (pos h *ℤ r)))))
    (search not_negative) (search quote depth 20) tt

-- the product of numbers near two forms is near their wide product
pub product_near : {h : ℕ} {d : ℤ} (f g : Form) (x y : ℤ) → IsTime h d → LiesIn h d f x → LiesIn h d g y → LiesIn h d (wide_form f g) (x *ℤ y)
unfolding wide_form
product_near {h} {d} f g x y t p q =
    let turn = f.turning *ℤ g.turning in
    let sq = time_square t in
    record {
      low = corner_low h d f.centre f.turning f.remainder g.centre g.turning g.remainder x y (floor_of turn 2) (floor_of (size turn) 2 +ℤ pos 1) (size f.centre +ℤ size f.turning) (size g.centre +ℤ size g.turning) t.some
          (bend_low turn _ d (pos h) (half_below turn) (half_low turn) sq)
          (around_low (middle_around f t) (away g y q))
          (around_low (whole_around g y t q) (away f x p));
      high = corner_high h d f.centre f.turning f.remainder g.centre g.turning g.remainder x y (floor_of turn 2) (floor_of (size turn) 2 +ℤ pos 1) (size f.centre +ℤ size f.turning) (size g.centre +ℤ size g.turning) t.some
          (bend_high turn _ d (pos h) (half_above turn) (half_high turn) sq)
          (around_high (middle_around f t) (away g y q))
          (around_high (whole_around g y t q) (away f x p));
    }

-- ---- intervals
pub mul_wide_holds : {h : ℕ} {d : ℤ} (f g : Form) (a b : Ends) → IsTime h d → Holds h d f a → Holds h d g b → Holds h d (wide_form f g) (mul_wide_of a b)
unfolding mul_wide_of
mul_wide_holds {h} {d} f g a b t p q =
    let ll = product_near f g a.lo b.lo t (holds_lo p) (holds_lo q) in
    let lh = product_near f g a.lo b.hi t (holds_lo p) (holds_hi q) in
    let hl = product_near f g a.hi b.lo t (holds_hi p) (holds_lo q) in
    let hh = product_near f g a.hi b.hi t (holds_hi p) (holds_hi q) in
    holds_both
    ((mul_wide_isotone refl a b (inside_self a p.ordered) (inside_self b q.ordered)).ordered)
    (pick_min (LiesIn h d (wide_form f g)) (int_min (a.lo *ℤ b.lo) (a.lo *ℤ b.hi)) (int_min (a.hi *ℤ b.lo) (a.hi *ℤ b.hi)) (pick_min (LiesIn h d (wide_form f g)) (a.lo *ℤ b.lo) (a.lo *ℤ b.hi) ll lh) (pick_min (LiesIn h d (wide_form f g)) (a.hi *ℤ b.lo) (a.hi *ℤ b.hi) hl hh))
    (pick_max (LiesIn h d (wide_form f g)) (int_max (a.lo *ℤ b.lo) (a.lo *ℤ b.hi)) (int_max (a.hi *ℤ b.lo) (a.hi *ℤ b.hi)) (pick_max (LiesIn h d (wide_form f g)) (a.lo *ℤ b.lo) (a.lo *ℤ b.hi) ll lh) (pick_max (LiesIn h d (wide_form f g)) (a.hi *ℤ b.lo) (a.hi *ℤ b.hi) hl hh))

-- the least square of ends, in each case of the signs
square_near : {h : ℕ} {d : ℤ} (f : Form) (a : Ends) → IsTime h d → Holds h d f a → (t u : Bool) → le_z a.lo (pos 0) ≡ t → le_z (pos 0) a.hi ≡ u
    → LiesIn h d (wide_form f f) (cond (t && u) (pos 0) (int_min (a.lo *ℤ a.lo) (a.hi *ℤ a.hi)))
square_near {h} {d} f a t p true true i j = let z = holds_between p (pos 0) (omega (arith, ints)) (omega (arith, ints)) in product_near f f (pos 0) (pos 0) t z z
square_near {h} {d} f a t p true false i j = pick_min (LiesIn h d (wide_form f f)) (a.lo *ℤ a.lo) (a.hi *ℤ a.hi) (product_near f f a.lo a.lo t (holds_lo p) (holds_lo p)) (product_near f f a.hi a.hi t (holds_hi p) (holds_hi p))
square_near {h} {d} f a t p false u i j = pick_min (LiesIn h d (wide_form f f)) (a.lo *ℤ a.lo) (a.hi *ℤ a.hi) (product_near f f a.lo a.lo t (holds_lo p) (holds_lo p)) (product_near f f a.hi a.hi t (holds_hi p) (holds_hi p))

pub sqr_wide_holds : {h : ℕ} {d : ℤ} (f : Form) (a : Ends) → IsTime h d → Holds h d f a → Holds h d (wide_form f f) (sqr_wide_of a)
unfolding sqr_wide_of
sqr_wide_holds {h} {d} f a t p = holds_both
    (sqr_wide_ordered a p.ordered)
    (square_near f a t p (le_z a.lo (pos 0)) (le_z (pos 0) a.hi) refl refl)
    (pick_max (LiesIn h d (wide_form f f)) (a.lo *ℤ a.lo) (a.hi *ℤ a.hi) (product_near f f a.lo a.lo t (holds_lo p) (holds_lo p)) (product_near f f a.hi a.hi t (holds_hi p) (holds_hi p)))
