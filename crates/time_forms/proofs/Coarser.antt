-- A form in larger units holds what is rounded outward to such units.
use Rattle.std.proofs.Common.{[], ◌∷◌, ℕ, ◌<◌, ◌^◌, ℤ, pos, neg_ℤ, ◌+ℤ◌, ◌-ℤ◌, ◌*ℤ◌, ◌≤ℤ◌, ◌<ℤ◌, arith}
use Rattle.std.proofs.lemmas.Int.{ints}
use Rattle.std.proofs.lemmas.Nat.{pow_pos}
use Rattle.whole_numbers.specs.Rounding.{floor_of, ceil_of}
use Rattle.whole_numbers.proofs.Integers.{not_negative_natural}
use Rattle.whole_numbers.proofs.Divisions.{floor_of_low, floor_of_high, ceil_of_low}
use Rattle.whole_numbers.proofs.Quote.{quote}
use Rattle.whole_numbers.proofs.Certificates.{at_most_scaled, not_negative}
use Rattle.fix_interval.specs.Ends.{Ends}
use Rattle.fix_interval.specs.Products.{narrow76_of, mul_of, mul_wide_of, sqr_of, sqr_wide_of}
use Rattle.fix_interval.specs.Quotients.{div_int_of}
use Rattle.fix_interval.proofs.EndProducts.{rounded_ordered}
use Rattle.time_forms.specs.Forms.{Form, IsTime, Holds}
use Rattle.time_forms.specs.Operations.{wide_form, coarser_form, narrow_form, mul_form}
use Rattle.time_forms.proofs.Bounds.{product_high, product_low}
use Rattle.time_forms.proofs.FormProducts.{mul_wide_holds, sqr_wide_holds}

-- ---- what is left by rounding down
rest_low : (z : ℤ) (k : ℕ) → 0 < k → neg_ℤ (pos k) ≤ℤ (z -ℤ floor_of z k *ℤ pos k)
rest_low z k h = let a = floor_of_low z k h in omega (arith, ints)

rest_high : (z : ℤ) (k : ℕ) → 0 < k → (z -ℤ floor_of z k *ℤ pos k) ≤ℤ pos k
rest_high z k h = let a = floor_of_high z k h in omega (arith, ints)

weaken : (y z : ℤ) → y <ℤ z → y ≤ℤ z
weaken y z p = omega (arith, ints)

coarser_low : (k : ℕ) (h d c v r c' v' r' y y' : ℤ) → 0 < k → pos 0 ≤ℤ h → pos 0 ≤ℤ pos k
    → (h *ℤ (c -ℤ r) +ℤ v *ℤ d) ≤ℤ (h *ℤ y)
    → y ≤ℤ (y' *ℤ pos k +ℤ pos k)
    → (c' *ℤ pos k) ≤ℤ c
    → r ≤ℤ (r' *ℤ pos k +ℤ pos k)
    → neg_ℤ (pos k *ℤ h) ≤ℤ ((v -ℤ v' *ℤ pos k) *ℤ d)
    → (h *ℤ (c' -ℤ (r' +ℤ pos 4)) +ℤ v' *ℤ d) ≤ℤ (h *ℤ y')
coarser_low k h d c v r c' v' r' y y' some n m p q s t u = at_most_scaled (pos k ∷ h ∷ d ∷ c ∷ v ∷ r ∷ c' ∷ v' ∷ r' ∷ y ∷ y' ∷ []) k some
    ((h *ℤ y -ℤ (h *ℤ (c -ℤ r) +ℤ v *ℤ d)) +ℤ (h *ℤ ((y' *ℤ pos k +ℤ pos k) -ℤ y) +ℤ (h *ℤ (c -ℤ c' *ℤ pos k) +ℤ (h *ℤ ((r' *ℤ pos k +ℤ pos k) -ℤ r) +ℤ (((v -ℤ v' *ℤ pos k) *ℤ d -ℤ neg_ℤ (pos k *ℤ h)) +ℤ h *ℤ pos k)))))
    (search not_negative depth 12) (search quote depth 24) tt

coarser_high : (k : ℕ) (h d c v r c' v' r' y y' : ℤ) → 0 < k → pos 0 ≤ℤ h
    → (h *ℤ y) ≤ℤ (h *ℤ (c +ℤ r) +ℤ v *ℤ d)
    → (y' *ℤ pos k) ≤ℤ (y +ℤ pos k)
    → c ≤ℤ (c' *ℤ pos k +ℤ pos k)
    → r ≤ℤ (r' *ℤ pos k +ℤ pos k)
    → ((v -ℤ v' *ℤ pos k) *ℤ d) ≤ℤ (pos k *ℤ h)
    → (h *ℤ y') ≤ℤ (h *ℤ (c' +ℤ (r' +ℤ pos 4)) +ℤ v' *ℤ d)
coarser_high k h d c v r c' v' r' y y' some n p q s t u = at_most_scaled (pos k ∷ h ∷ d ∷ c ∷ v ∷ r ∷ c' ∷ v' ∷ r' ∷ y ∷ y' ∷ []) k some
    (((h *ℤ (c +ℤ r) +ℤ v *ℤ d) -ℤ h *ℤ y) +ℤ (h *ℤ ((y +ℤ pos k) -ℤ y' *ℤ pos k) +ℤ (h *ℤ ((c' *ℤ pos k +ℤ pos k) -ℤ c) +ℤ (h *ℤ ((r' *ℤ pos k +ℤ pos k) -ℤ r) +ℤ (pos k *ℤ h -ℤ (v -ℤ v' *ℤ pos k) *ℤ d)))))
    (search not_negative depth 12) (search quote depth 24) tt

pub coarser_holds : {h : ℕ} {d : ℤ} (k : ℕ) (f : Form) (a : Ends) → 0 < k → IsTime h d → Holds h d f a → Holds h d (coarser_form f k) (div_int_of a k)
unfolding coarser_form div_int_of
coarser_holds {h} {d} k f a some t p = record {
  low = coarser_low k (pos h) d f.centre f.turning f.remainder (floor_of f.centre k) (floor_of f.turning k) (floor_of f.remainder k) a.lo (floor_of a.lo k) some (not_negative_natural h) (not_negative_natural k) p.low
      (weaken _ _ (floor_of_high a.lo k some)) (floor_of_low f.centre k some) (weaken _ _ (floor_of_high f.remainder k some))
      (product_low (f.turning -ℤ floor_of f.turning k *ℤ pos k) d (pos k) (pos h) (rest_low f.turning k some) (rest_high f.turning k some) t.after t.before);
  ordered = rounded_ordered a.lo a.hi k some p.ordered;
  high = coarser_high k (pos h) d f.centre f.turning f.remainder (floor_of f.centre k) (floor_of f.turning k) (floor_of f.remainder k) a.hi (ceil_of a.hi k) some (not_negative_natural h) p.high
      (weaken _ _ (ceil_of_low a.hi k some)) (weaken _ _ (floor_of_high f.centre k some)) (weaken _ _ (floor_of_high f.remainder k some))
      (product_high (f.turning -ℤ floor_of f.turning k *ℤ pos k) d (pos k) (pos h) (rest_low f.turning k some) (rest_high f.turning k some) t.after t.before);
}

pub narrow_holds : {h : ℕ} {d : ℤ} (f : Form) (a : Ends) → IsTime h d → Holds h d f a → Holds h d (narrow_form f) (narrow76_of a)
unfolding narrow_form narrow76_of div_int_of
narrow_holds {h} {d} f a t p = coarser_holds (2 ^ 38) f a (pow_pos 38) t p

pub mul_holds : {h : ℕ} {d : ℤ} (f g : Form) (a b : Ends) → IsTime h d → Holds h d f a → Holds h d g b → Holds h d (mul_form f g) (mul_of a b)
unfolding mul_form mul_of
mul_holds {h} {d} f g a b t p q = narrow_holds (wide_form f g) (mul_wide_of a b) t (mul_wide_holds f g a b t p q)

pub sqr_holds : {h : ℕ} {d : ℤ} (f : Form) (a : Ends) → IsTime h d → Holds h d f a → Holds h d (mul_form f f) (sqr_of a)
unfolding mul_form sqr_of
sqr_holds {h} {d} f a t p = narrow_holds (wide_form f f) (sqr_wide_of a) t (sqr_wide_holds f a t p)
