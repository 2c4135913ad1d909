-- Sums, differences and negatives of forms hold those of what the forms hold, with no rounding.
use Rattle.std.proofs.Common.{◌≡◌, [], ◌∷◌, ℕ, ℤ, pos, neg_ℤ, ◌+ℤ◌, ◌-ℤ◌, ◌*ℤ◌, ◌≤ℤ◌, arith}
use Rattle.std.proofs.lemmas.Int.{ints}
use Rattle.whole_numbers.proofs.Quote.{quote}
use Rattle.whole_numbers.proofs.Certificates.{at_most, not_negative}
use Rattle.fix_interval.specs.Ends.{Ends}
use Rattle.fix_interval.specs.Sums.{add_of, sub_of, neg_of}
use Rattle.time_forms.specs.Forms.{Form, Holds}
use Rattle.time_forms.specs.Operations.{add_form, sub_form, neg_form, less_form, wider_of}

-- ---- in whole numbers
sum_low : (h d c v r c' v' r' y z : ℤ) → (h *ℤ (c -ℤ r) +ℤ v *ℤ d) ≤ℤ (h *ℤ y) → (h *ℤ (c' -ℤ r') +ℤ v' *ℤ d) ≤ℤ (h *ℤ z)
    → (h *ℤ ((c +ℤ c') -ℤ (r +ℤ r')) +ℤ (v +ℤ v') *ℤ d) ≤ℤ (h *ℤ (y +ℤ z))
sum_low h d c v r c' v' r' y z p q = at_most (h ∷ d ∷ c ∷ v ∷ r ∷ c' ∷ v' ∷ r' ∷ y ∷ z ∷ []) ((h *ℤ y -ℤ (h *ℤ (c -ℤ r) +ℤ v *ℤ d)) +ℤ (h *ℤ z -ℤ (h *ℤ (c' -ℤ r') +ℤ v' *ℤ d))) (search not_negative) (search quote depth 20) tt

sum_high : (h d c v r c' v' r' y z : ℤ) → (h *ℤ y) ≤ℤ (h *ℤ (c +ℤ r) +ℤ v *ℤ d) → (h *ℤ z) ≤ℤ (h *ℤ (c' +ℤ r') +ℤ v' *ℤ d)
    → (h *ℤ (y +ℤ z)) ≤ℤ (h *ℤ ((c +ℤ c') +ℤ (r +ℤ r')) +ℤ (v +ℤ v') *ℤ d)
sum_high h d c v r c' v' r' y z p q = at_most (h ∷ d ∷ c ∷ v ∷ r ∷ c' ∷ v' ∷ r' ∷ y ∷ z ∷ []) (((h *ℤ (c +ℤ r) +ℤ v *ℤ d) -ℤ h *ℤ y) +ℤ ((h *ℤ (c' +ℤ r') +ℤ v' *ℤ d) -ℤ h *ℤ z)) (search not_negative) (search quote depth 20) tt

difference_low : (h d c v r c' v' r' y z : ℤ) → (h *ℤ (c -ℤ r) +ℤ v *ℤ d) ≤ℤ (h *ℤ y) → (h *ℤ z) ≤ℤ (h *ℤ (c' +ℤ r') +ℤ v' *ℤ d)
    → (h *ℤ ((c -ℤ c') -ℤ (r +ℤ r')) +ℤ (v -ℤ v') *ℤ d) ≤ℤ (h *ℤ (y -ℤ z))
difference_low h d c v r c' v' r' y z p q = at_most (h ∷ d ∷ c ∷ v ∷ r ∷ c' ∷ v' ∷ r' ∷ y ∷ z ∷ []) ((h *ℤ y -ℤ (h *ℤ (c -ℤ r) +ℤ v *ℤ d)) +ℤ ((h *ℤ (c' +ℤ r') +ℤ v' *ℤ d) -ℤ h *ℤ z)) (search not_negative) (search quote depth 20) tt

difference_high : (h d c v r c' v' r' y z : ℤ) → (h *ℤ y) ≤ℤ (h *ℤ (c +ℤ r) +ℤ v *ℤ d) → (h *ℤ (c' -ℤ r') +ℤ v' *ℤ d) ≤ℤ (h *ℤ z)
    → (h *ℤ (y -ℤ z)) ≤ℤ (h *ℤ ((c -ℤ c') +ℤ (r +ℤ r')) +ℤ (v -ℤ v') *ℤ d)
difference_high h d c v r c' v' r' y z p q = at_most (h ∷ d ∷ c ∷ v ∷ r ∷ c' ∷ v' ∷ r' ∷ y ∷ z ∷ []) (((h *ℤ (c +ℤ r) +ℤ v *ℤ d) -ℤ h *ℤ y) +ℤ (h *ℤ z -ℤ (h *ℤ (c' -ℤ r') +ℤ v' *ℤ d))) (search not_negative) (search quote depth 20) tt

wider_low : (h d c v r k z : ℤ) → pos 0 ≤ℤ h → pos 0 ≤ℤ k → (h *ℤ (c -ℤ r) +ℤ v *ℤ d) ≤ℤ (h *ℤ z) → (h *ℤ (c -ℤ (r +ℤ k)) +ℤ v *ℤ d) ≤ℤ (h *ℤ z)
wider_low h d c v r k z i j p = at_most (h ∷ d ∷ c ∷ v ∷ r ∷ k ∷ z ∷ []) ((h *ℤ z -ℤ (h *ℤ (c -ℤ r) +ℤ v *ℤ d)) +ℤ h *ℤ k) (search not_negative) (search quote depth 20) tt

wider_high : (h d c v r k z : ℤ) → pos 0 ≤ℤ h → pos 0 ≤ℤ k → (h *ℤ z) ≤ℤ (h *ℤ (c +ℤ r) +ℤ v *ℤ d) → (h *ℤ z) ≤ℤ (h *ℤ (c +ℤ (r +ℤ k)) +ℤ v *ℤ d)
wider_high h d c v r k z i j p = at_most (h ∷ d ∷ c ∷ v ∷ r ∷ k ∷ z ∷ []) (((h *ℤ (c +ℤ r) +ℤ v *ℤ d) -ℤ h *ℤ z) +ℤ h *ℤ k) (search not_negative) (search quote depth 20) tt

natural_is : (n : ℕ) → pos 0 ≤ℤ pos n
natural_is n = omega (arith, ints)

-- ---- forms
pub add_holds : {h : ℕ} {d : ℤ} (f g : Form) (a b : Ends) → Holds h d f a → Holds h d g b → Holds h d (add_form f g) (add_of a b)
unfolding add_form add_of
add_holds {h} {d} f g a b p q = record {
  low = sum_low (pos h) d f.centre f.turning f.remainder g.centre g.turning g.remainder a.lo b.lo p.low q.low;
  ordered = let i = p.ordered in let j = q.ordered in omega (arith, ints);
  high = sum_high (pos h) d f.centre f.turning f.remainder g.centre g.turning g.remainder a.hi b.hi p.high q.high;
}

pub sub_holds : {h : ℕ} {d : ℤ} (f g : Form) (a b : Ends) → Holds h d f a → Holds h d g b → Holds h d (sub_form f g) (sub_of a b)
unfolding sub_form sub_of
sub_holds {h} {d} f g a b p q = record {
  low = difference_low (pos h) d f.centre f.turning f.remainder g.centre g.turning g.remainder a.lo b.hi p.low q.high;
  ordered = let i = p.ordered in let j = q.ordered in omega (arith, ints);
  high = difference_high (pos h) d f.centre f.turning f.remainder g.centre g.turning g.remainder a.hi b.lo p.high q.low;
}

-- a form of one number, and its negative
negated_low : (h d c v r z : ℤ) → (h *ℤ z) ≤ℤ (h *ℤ (c +ℤ r) +ℤ v *ℤ d) → (h *ℤ (neg_ℤ c -ℤ r) +ℤ neg_ℤ v *ℤ d) ≤ℤ (h *ℤ (pos 0 -ℤ z))
negated_low h d c v r z p = at_most (h ∷ d ∷ c ∷ v ∷ r ∷ z ∷ []) ((h *ℤ (c +ℤ r) +ℤ v *ℤ d) -ℤ h *ℤ z) (search not_negative) (search quote depth 20) tt

negated_high : (h d c v r z : ℤ) → (h *ℤ (c -ℤ r) +ℤ v *ℤ d) ≤ℤ (h *ℤ z) → (h *ℤ (pos 0 -ℤ z)) ≤ℤ (h *ℤ (neg_ℤ c +ℤ r) +ℤ neg_ℤ v *ℤ d)
negated_high h d c v r z p = at_most (h ∷ d ∷ c ∷ v ∷ r ∷ z ∷ []) (h *ℤ z -ℤ (h *ℤ (c -ℤ r) +ℤ v *ℤ d)) (search not_negative) (search quote depth 20) tt

pub neg_holds : {h : ℕ} {d : ℤ} (f : Form) (a : Ends) → Holds h d f a → Holds h d (neg_form f) (neg_of a)
unfolding neg_form neg_of sub_of
neg_holds {h} {d} f a p = record {
  low = negated_low (pos h) d f.centre f.turning f.remainder a.hi p.high;
  ordered = let i = p.ordered in omega (arith, ints);
  high = negated_high (pos h) d f.centre f.turning f.remainder a.lo p.low;
}

pub wider_holds : {h : ℕ} {d : ℤ} (f : Form) (k : ℕ) (a : Ends) → Holds h d f a → Holds h d (wider_of f k) a
unfolding wider_of
wider_holds {h} {d} f k a p = record {
  low = wider_low (pos h) d f.centre f.turning f.remainder (pos k) a.lo (natural_is h) (natural_is k) p.low;
  ordered = p.ordered;
  high = wider_high (pos h) d f.centre f.turning f.remainder (pos k) a.hi (natural_is h) (natural_is k) p.high;
}

-- a sum without a part of it is the sum of the others
pub same_form : {f g : Form} → f.centre ≡ g.centre → f.turning ≡ g.turning → f.remainder ≡ g.remainder → f ≡ g
same_form p q s = λ i. record { centre = p i; turning = q i; remainder = s i }

pub less-add : (f g : Form) → less_form (add_form f g) g ≡ f
unfolding less_form add_form
less-add f g = same_form (back f.centre g.centre) (back f.turning g.turning) (back f.remainder g.remainder)
  where
    back : (y z : ℤ) → (y +ℤ z) -ℤ z ≡ y
    back y z = omega (arith, ints)

pub add_form-comm : (f g : Form) → add_form f g ≡ add_form g f
unfolding add_form
add_form-comm f g = same_form (turn f.centre g.centre) (turn f.turning g.turning) (turn f.remainder g.remainder)
  where
    turn : (y z : ℤ) → y +ℤ z ≡ z +ℤ y
    turn y z = omega (arith, ints)

pub add_form-assoc : (f g k : Form) → add_form (add_form f g) k ≡ add_form f (add_form g k)
unfolding add_form
add_form-assoc f g k = same_form (turn f.centre g.centre k.centre) (turn f.turning g.turning k.turning) (turn f.remainder g.remainder k.remainder)
  where
    turn : (x y z : ℤ) → (x +ℤ y) +ℤ z ≡ x +ℤ (y +ℤ z)
    turn x y z = omega (arith, ints)
