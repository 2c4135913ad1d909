-- The product of forms is within six times the product of their bounds, and one.
use Rattle.std.proofs.Common.{arith, ℕ, ℤ, pos, ◌+◌, ◌*◌, ◌+ℤ◌, ◌*ℤ◌}
use Rattle.std.proofs.lemmas.Int.{ints}
use lib.Dec.{lit≤}
use Rattle.whole_numbers.specs.Rounding.{floor_of}
use Rattle.whole_numbers.proofs.Divisions.{floor_of_low, floor_of_high}
use Rattle.time_forms.specs.Forms.{Form, size}
use Rattle.time_forms.specs.Operations.{wide_form, scale_form}
use Rattle.time_forms.specs.Programs.{IsNumberWithin, IsFormWithin}
use Rattle.time_forms.proofs.Bits.{centre_within, turning_within, remainder_within, form_within}
use Rattle.time_forms.proofs.Bounds.{product_high, product_low}

product_bound : (x y : ℤ) (m n : ℕ) → IsNumberWithin x m → IsNumberWithin y n → IsNumberWithin (x *ℤ y) (m * n)
product_bound x y m n p q = record {
  low = let a = product_low x y (pos m) (pos n) p.low p.high q.low q.high in omega (arith, ints);
  high = let a = product_high x y (pos m) (pos n) p.low p.high q.low q.high in omega (arith, ints);
}

pub size_bound : (z : ℤ) (m : ℕ) → IsNumberWithin z m → IsNumberWithin (size z) m
size_bound z m p = let l = p.low in let h = p.high in record { low = omega (arith, ints); high = omega (arith, ints) }

two_sizes : (y z : ℤ) (m : ℕ) → IsNumberWithin y m → IsNumberWithin z m → IsNumberWithin (size y +ℤ size z) (m + m)
two_sizes y z m p q = let pl = p.low in let ph = p.high in let ql = q.low in let qh = q.high in record { low = omega (arith, ints); high = omega (arith, ints) }

three_sizes : (x y z : ℤ) (m : ℕ) → IsNumberWithin x m → IsNumberWithin y m → IsNumberWithin z m → IsNumberWithin ((size x +ℤ size y) +ℤ z) (m + m + m)
three_sizes x y z m p q s = let pl = p.low in let ph = p.high in let ql = q.low in let qh = q.high in let sl = s.low in let sh = s.high in record { low = omega (arith, ints); high = omega (arith, ints) }

-- half, rounded down
half_bound : (z : ℤ) (k : ℕ) → IsNumberWithin z k → IsNumberWithin (floor_of z 2) (k + 1)
half_bound z k p =
    let a = floor_of_low z 2 (lit≤ tt) in
    let b = floor_of_high z 2 (lit≤ tt) in
    let l = p.low in
    let h = p.high in
    record { low = omega (arith, ints); high = omega (arith, ints) }

-- half of a size, rounded down, and one
half_size_bound : (z : ℤ) (k : ℕ) → IsNumberWithin z k → IsNumberWithin (floor_of (size z) 2 +ℤ pos 1) (k + 1)
half_size_bound z k p =
    let a = floor_of_low (size z) 2 (lit≤ tt) in
    let b = floor_of_high (size z) 2 (lit≤ tt) in
    let l = p.low in
    let h = p.high in
    record { low = omega (arith, ints); high = omega (arith, ints) }

centre_joined : (y z : ℤ) (k : ℕ) → IsNumberWithin y k → IsNumberWithin z (k + 1) → IsNumberWithin (y +ℤ z) (6 * k + 1)
centre_joined y z k p q = let pl = p.low in let ph = p.high in let ql = q.low in let qh = q.high in record { low = omega (arith, ints); high = omega (arith, ints) }

turning_joined : (y z : ℤ) (k : ℕ) → IsNumberWithin y k → IsNumberWithin z k → IsNumberWithin (y +ℤ z) (6 * k + 1)
turning_joined y z k p q = let pl = p.low in let ph = p.high in let ql = q.low in let qh = q.high in record { low = omega (arith, ints); high = omega (arith, ints) }

remainder_joined : (x y z : ℤ) (m n : ℕ) → IsNumberWithin x ((m + m) * n) → IsNumberWithin y ((n + n + n) * m) → IsNumberWithin z (m * n + 1) → IsNumberWithin ((x +ℤ y) +ℤ z) (6 * (m * n) + 1)
remainder_joined x y z m n p q s = let pl = p.low in let ph = p.high in let ql = q.low in let qh = q.high in let sl = s.low in let sh = s.high in record { low = omega (arith, ints); high = omega (arith, ints) }

pub wide_within : (f g : Form) (m n : ℕ) → IsFormWithin f m → IsFormWithin g n → IsFormWithin (wide_form f g) (6 * (m * n) + 1)
unfolding wide_form
wide_within f g m n p q =
    let fc = centre_within p in
    let fv = turning_within p in
    let fr = remainder_within p in
    let gc = centre_within q in
    let gv = turning_within q in
    let gr = remainder_within q in
    let turn = product_bound f.turning g.turning m n fv gv in
    form_within (wide_form f g) (6 * (m * n) + 1)
    (centre_joined _ _ (m * n) (product_bound f.centre g.centre m n fc gc) (half_bound _ (m * n) turn))
    (turning_joined _ _ (m * n) (product_bound f.centre g.turning m n fc gv) (product_bound f.turning g.centre m n fv gc))
    (remainder_joined _ _ _ m n (product_bound _ g.remainder (m + m) n (two_sizes f.centre f.turning m fc fv) gr) (product_bound _ f.remainder (n + n + n) m (three_sizes g.centre g.turning g.remainder n gc gv gr) fr) (half_size_bound _ (m * n) turn))

pub scale_within : (f : Form) (k : ℤ) (m n : ℕ) → IsFormWithin f m → IsNumberWithin k n → IsFormWithin (scale_form f k) (m * n)
unfolding scale_form
scale_within f k m n p q = form_within (scale_form f k) (m * n) (product_bound f.centre k m n (centre_within p) q) (product_bound f.turning k m n (turning_within p) q) (product_bound f.remainder (size k) m n (remainder_within p) (size_bound k n q))
