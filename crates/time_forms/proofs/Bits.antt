-- Bounds by powers of two.
use Rattle.std.specs.Prelude.{◌≡◌, ℕ, ℤ, pos, neg_ℤ, ◌≤ℤ◌, ◌^◌, ◌+ℤ◌, ◌*ℤ◌, ◌-ℤ◌}
use Rattle.std.proofs.Common.{arith, ap, ap₂, ◌∙◌, ◌+◌, ◌≤◌, to_z, of_z, FitsSigned}
use mir.Syntax.{w64, w128}
use Rattle.std.proofs.lemmas.Int.{ints}
use lib.Dec.{lit≤}
use Rattle.whole_numbers.specs.Rounding.{floor_of}
use Rattle.whole_numbers.proofs.Divisions.{floor_of_low, floor_of_high}
use Rattle.time_forms.specs.Forms.{Form}
use Rattle.time_forms.specs.Operations.{add_form, sub_form, neg_form}
use Rattle.time_forms.specs.Programs.{IsNumberWithin, IsFormWithin}
use Rattle.time_forms.proofs.Bounds.{product_high, product_low}

pub product_within : (x y : ℤ) → IsNumberWithin x (2 ^ 62) → IsNumberWithin y (2 ^ 60) → IsNumberWithin (x *ℤ y) (2 ^ 122)
product_within x y p q = record { low = product_low x y (pos (2 ^ 62)) (pos (2 ^ 60)) p.low p.high q.low q.high; high = product_high x y (pos (2 ^ 62)) (pos (2 ^ 60)) p.low p.high q.low q.high }

pub half_within : (z : ℤ) → IsNumberWithin z (2 ^ 122) → IsNumberWithin (floor_of z 2) (2 ^ 122)
half_within z p =
    let a = floor_of_low z 2 (lit≤ tt) in
    let b = floor_of_high z 2 (lit≤ tt) in
    let l = p.low in
    let h = p.high in
    record { low = omega (arith, ints); high = omega (arith, ints) }

-- ---- numbers of the program that went to bits and are read again
pub read_64 : (z : ℤ) → IsNumberWithin z (2 ^ 62) → to_z w64 (of_z w64 z) ≡ z
read_64 z p = let l = p.low in let h = p.high in omega (arith, ints)

pub read_128 : (z : ℤ) → IsNumberWithin z (2 ^ 126) → to_z w128 (of_z w128 z) ≡ z
read_128 z p = let l = p.low in let h = p.high in omega (arith, ints)

pub wider_bits : {z : ℤ} (m n : ℕ) → m ≤ n → IsNumberWithin z m → IsNumberWithin z n
wider_bits {z} m n h p = let l = p.low in let u = p.high in record { low = omega (arith, ints); high = omega (arith, ints) }

pub sum_within : (y z : ℤ) (m n : ℕ) → IsNumberWithin y m → IsNumberWithin z n → IsNumberWithin (y +ℤ z) (m + n)
sum_within y z m n p q = let pl = p.low in let ph = p.high in let ql = q.low in let qh = q.high in record { low = omega (arith, ints); high = omega (arith, ints) }

pub sum_fits : (y z : ℤ) → IsNumberWithin y (2 ^ 125) → IsNumberWithin z (2 ^ 125) → FitsSigned w128 (to_z w128 (of_z w128 y) +ℤ to_z w128 (of_z w128 z))
sum_fits y z p q = let pl = p.low in let ph = p.high in let ql = q.low in let qh = q.high in omega (arith, ints)

pub sum-plain : (y z : ℤ) → IsNumberWithin y (2 ^ 125) → IsNumberWithin z (2 ^ 125) → to_z w128 (of_z w128 (to_z w128 (of_z w128 y) +ℤ to_z w128 (of_z w128 z))) ≡ y +ℤ z
sum-plain y z p q = let pl = p.low in let ph = p.high in let ql = q.low in let qh = q.high in omega (arith, ints)

-- the parts of a form
pub centre_within : {f : Form} {m : ℕ} → IsFormWithin f m → IsNumberWithin f.centre m
centre_within p = record { low = p.centre_low; high = p.centre_high }

pub turning_within : {f : Form} {m : ℕ} → IsFormWithin f m → IsNumberWithin f.turning m
turning_within p = record { low = p.turning_low; high = p.turning_high }

pub remainder_within : {f : Form} {m : ℕ} → IsFormWithin f m → IsNumberWithin f.remainder m
remainder_within p = record { low = p.remainder_low; high = p.remainder_high }

pub form_within : (f : Form) (m : ℕ) → IsNumberWithin f.centre m → IsNumberWithin f.turning m → IsNumberWithin f.remainder m → IsFormWithin f m
form_within f m p q s = record { centre_low = p.low; centre_high = p.high; turning_low = q.low; turning_high = q.high; remainder_low = s.low; remainder_high = s.high }

pub read_within : (z : ℤ) → IsNumberWithin z (2 ^ 60) → IsNumberWithin (to_z w64 (of_z w64 z)) (2 ^ 62)
read_within z p = rw (read_64 z (wider_bits (2 ^ 60) (2 ^ 62) (lit≤ tt) p)) (wider_bits (2 ^ 60) (2 ^ 62) (lit≤ tt) p)

pub sum_short : (y z : ℤ) → IsNumberWithin y (2 ^ 122) → IsNumberWithin z (2 ^ 122) → IsNumberWithin (y +ℤ z) (2 ^ 123)
sum_short y z p q = let pl = p.low in let ph = p.high in let ql = q.low in let qh = q.high in record { low = omega (arith, ints); high = omega (arith, ints) }

pub sum_longer : (y z : ℤ) → IsNumberWithin y (2 ^ 123) → IsNumberWithin z (2 ^ 123) → IsNumberWithin (y +ℤ z) (2 ^ 124)
sum_longer y z p q = let pl = p.low in let ph = p.high in let ql = q.low in let qh = q.high in record { low = omega (arith, ints); high = omega (arith, ints) }

-- two numbers, added as the program does
pub added : (y z : ℤ) → IsNumberWithin y (2 ^ 122) → IsNumberWithin z (2 ^ 122) → to_z w128 (of_z w128 y) +ℤ to_z w128 (of_z w128 z) ≡ y +ℤ z
added y z p q = ap₂ ◌+ℤ◌ (read_128 y (wider_bits (2 ^ 122) (2 ^ 126) (lit≤ tt) p)) (read_128 z (wider_bits (2 ^ 122) (2 ^ 126) (lit≤ tt) q))

pub two-plain : (y z : ℤ) → IsNumberWithin y (2 ^ 122) → IsNumberWithin z (2 ^ 122) → to_z w128 (of_z w128 (to_z w128 (of_z w128 y) +ℤ to_z w128 (of_z w128 z))) ≡ y +ℤ z
two-plain y z p q = ap (λ t. to_z w128 (of_z w128 t)) (added y z p q) ∙ read_128 (y +ℤ z) (wider_bits (2 ^ 123) (2 ^ 126) (lit≤ tt) (sum_short y z p q))

pub two_fit : (y z : ℤ) → IsNumberWithin y (2 ^ 122) → IsNumberWithin z (2 ^ 122) → FitsSigned w128 (to_z w128 (of_z w128 y) +ℤ to_z w128 (of_z w128 z))
two_fit y z p q = sum_fits y z (wider_bits (2 ^ 122) (2 ^ 125) (lit≤ tt) p) (wider_bits (2 ^ 122) (2 ^ 125) (lit≤ tt) q)

-- and three
pub three-plain : (x y z : ℤ) → IsNumberWithin x (2 ^ 122) → IsNumberWithin y (2 ^ 122) → IsNumberWithin z (2 ^ 123) → to_z w128 (of_z w128 (to_z w128 (of_z w128 (to_z w128 (of_z w128 x) +ℤ to_z w128 (of_z w128 y))) +ℤ to_z w128 (of_z w128 z))) ≡ (x +ℤ y) +ℤ z
three-plain x y z p q s = ap (λ t. to_z w128 (of_z w128 t)) (ap₂ ◌+ℤ◌ (two-plain x y p q) (read_128 z (wider_bits (2 ^ 123) (2 ^ 126) (lit≤ tt) s))) ∙ read_128 ((x +ℤ y) +ℤ z) (wider_bits (2 ^ 124) (2 ^ 126) (lit≤ tt) (sum_longer (x +ℤ y) z (sum_short x y p q) s))

pub three_fit : (x y z : ℤ) → IsNumberWithin x (2 ^ 122) → IsNumberWithin y (2 ^ 122) → IsNumberWithin z (2 ^ 123) → FitsSigned w128 (to_z w128 (of_z w128 (to_z w128 (of_z w128 x) +ℤ to_z w128 (of_z w128 y))) +ℤ to_z w128 (of_z w128 z))
three_fit x y z p q s = rw (added x y p q) (sum_fits (x +ℤ y) z (wider_bits (2 ^ 123) (2 ^ 125) (lit≤ tt) (sum_short x y p q)) (wider_bits (2 ^ 123) (2 ^ 125) (lit≤ tt) s))

difference_within : (y z : ℤ) (m n : ℕ) → IsNumberWithin y m → IsNumberWithin z n → IsNumberWithin (y -ℤ z) (m + n)
difference_within y z m n p q = let pl = p.low in let ph = p.high in let ql = q.low in let qh = q.high in record { low = omega (arith, ints); high = omega (arith, ints) }

-- sums and differences of forms within bounds
pub add_within : (f g : Form) (m n : ℕ) → IsFormWithin f m → IsFormWithin g n → IsFormWithin (add_form f g) (m + n)
unfolding add_form
add_within f g m n p q = form_within (add_form f g) (m + n) (sum_within f.centre g.centre m n (centre_within p) (centre_within q)) (sum_within f.turning g.turning m n (turning_within p) (turning_within q)) (sum_within f.remainder g.remainder m n (remainder_within p) (remainder_within q))

pub sub_within : (f g : Form) (m n : ℕ) → IsFormWithin f m → IsFormWithin g n → IsFormWithin (sub_form f g) (m + n)
unfolding sub_form
sub_within f g m n p q = form_within (sub_form f g) (m + n) (difference_within f.centre g.centre m n (centre_within p) (centre_within q)) (difference_within f.turning g.turning m n (turning_within p) (turning_within q)) (sum_within f.remainder g.remainder m n (remainder_within p) (remainder_within q))

pub neg_within : (f : Form) (m : ℕ) → IsFormWithin f m → IsFormWithin (neg_form f) m
unfolding neg_form
neg_within f m p = form_within (neg_form f) m (turned f.centre (centre_within p)) (turned f.turning (turning_within p)) (remainder_within p)
  where
    turned : (z : ℤ) → IsNumberWithin z m → IsNumberWithin (neg_ℤ z) m
    turned z p = let l = p.low in let h = p.high in record { low = omega (arith, ints); high = omega (arith, ints) }

-- the sum of two and a small number, as the program adds them
pub sum_and-plain : (y z : ℤ) (k : ℕ) → k ≤ 16 → IsNumberWithin y (2 ^ 124 + 1) → IsNumberWithin z (2 ^ 124 + 1) → to_z w128 (of_z w128 (to_z w128 (of_z w128 (to_z w128 (of_z w128 y) +ℤ to_z w128 (of_z w128 z))) +ℤ pos k)) ≡ (y +ℤ z) +ℤ pos k
sum_and-plain y z k h p q =
    ap (λ t. to_z w128 (of_z w128 (t +ℤ pos k))) (sum-plain y z (wider_bits (2 ^ 124 + 1) (2 ^ 125) (lit≤ tt) p) (wider_bits (2 ^ 124 + 1) (2 ^ 125) (lit≤ tt) q))
    ∙ read_128 ((y +ℤ z) +ℤ pos k) (joined (sum_within y z (2 ^ 124 + 1) (2 ^ 124 + 1) p q))
  where
    joined : IsNumberWithin (y +ℤ z) ((2 ^ 124 + 1) + (2 ^ 124 + 1)) → IsNumberWithin ((y +ℤ z) +ℤ pos k) (2 ^ 126)
    joined s = let l = s.low in let u = s.high in record { low = omega (arith, ints); high = omega (arith, ints) }

-- the sum of three, and of three and a small number
three_within : {x y z : ℤ} → IsNumberWithin x (2 ^ 124 + 1) → IsNumberWithin y (2 ^ 124 + 1) → IsNumberWithin z (2 ^ 124 + 1) → IsNumberWithin ((x +ℤ y) +ℤ z) (((2 ^ 124 + 1) + (2 ^ 124 + 1)) + (2 ^ 124 + 1))
three_within {x} {y} {z} p q s = sum_within (x +ℤ y) z ((2 ^ 124 + 1) + (2 ^ 124 + 1)) (2 ^ 124 + 1) (sum_within x y (2 ^ 124 + 1) (2 ^ 124 + 1) p q) s

pub sum_of_three-plain : (x y z : ℤ) → IsNumberWithin x (2 ^ 124 + 1) → IsNumberWithin y (2 ^ 124 + 1) → IsNumberWithin z (2 ^ 124 + 1)
    → to_z w128 (of_z w128 (to_z w128 (of_z w128 (to_z w128 (of_z w128 x) +ℤ to_z w128 (of_z w128 y))) +ℤ to_z w128 (of_z w128 z))) ≡ (x +ℤ y) +ℤ z
sum_of_three-plain x y z p q s =
    ap (λ t. to_z w128 (of_z w128 (t +ℤ to_z w128 (of_z w128 z)))) (sum-plain x y (wider_bits (2 ^ 124 + 1) (2 ^ 125) (lit≤ tt) p) (wider_bits (2 ^ 124 + 1) (2 ^ 125) (lit≤ tt) q))
    ∙ ap (λ t. to_z w128 (of_z w128 ((x +ℤ y) +ℤ t))) (read_128 z (wider_bits (2 ^ 124 + 1) (2 ^ 126) (lit≤ tt) s))
    ∙ read_128 ((x +ℤ y) +ℤ z) (wider_bits (((2 ^ 124 + 1) + (2 ^ 124 + 1)) + (2 ^ 124 + 1)) (2 ^ 126) (lit≤ tt) (three_within p q s))

pub sum_of_three_and-plain : (x y z : ℤ) (k : ℕ) → k ≤ 16 → IsNumberWithin x (2 ^ 124 + 1) → IsNumberWithin y (2 ^ 124 + 1) → IsNumberWithin z (2 ^ 124 + 1)
    → to_z w128 (of_z w128 (to_z w128 (of_z w128 (to_z w128 (of_z w128 (to_z w128 (of_z w128 x) +ℤ to_z w128 (of_z w128 y))) +ℤ to_z w128 (of_z w128 z))) +ℤ pos k)) ≡ ((x +ℤ y) +ℤ z) +ℤ pos k
sum_of_three_and-plain x y z k h p q s = ap (λ t. to_z w128 (of_z w128 (t +ℤ pos k))) (sum_of_three-plain x y z p q s) ∙ read_128 (((x +ℤ y) +ℤ z) +ℤ pos k) (more (three_within p q s))
  where
    more : IsNumberWithin ((x +ℤ y) +ℤ z) (((2 ^ 124 + 1) + (2 ^ 124 + 1)) + (2 ^ 124 + 1)) → IsNumberWithin (((x +ℤ y) +ℤ z) +ℤ pos k) (2 ^ 126)
    more t = let l = t.low in let u = t.high in record { low = omega (arith, ints); high = omega (arith, ints) }

-- these fit, as the program adds them
pub three_shares_fit : (x y z : ℤ) → IsNumberWithin x (2 ^ 124 + 1) → IsNumberWithin y (2 ^ 124 + 1) → IsNumberWithin z (2 ^ 124 + 1)
    → FitsSigned w128 (to_z w128 (of_z w128 (to_z w128 (of_z w128 x) +ℤ to_z w128 (of_z w128 y))) +ℤ to_z w128 (of_z w128 z))
three_shares_fit x y z p q s =
    rw (sum-plain x y (wider_bits (2 ^ 124 + 1) (2 ^ 125) (lit≤ tt) p) (wider_bits (2 ^ 124 + 1) (2 ^ 125) (lit≤ tt) q), read_128 z (wider_bits (2 ^ 124 + 1) (2 ^ 126) (lit≤ tt) s)) (fits ((x +ℤ y) +ℤ z) (three_within p q s))
  where
    fits : (t : ℤ) → IsNumberWithin t (((2 ^ 124 + 1) + (2 ^ 124 + 1)) + (2 ^ 124 + 1)) → FitsSigned w128 t
    fits t b = let l = b.low in let h = b.high in omega (arith, ints)

pub three_shares_and_fit : (x y z : ℤ) → IsNumberWithin x (2 ^ 124 + 1) → IsNumberWithin y (2 ^ 124 + 1) → IsNumberWithin z (2 ^ 124 + 1)
    → FitsSigned w128 (to_z w128 (of_z w128 (to_z w128 (of_z w128 (to_z w128 (of_z w128 x) +ℤ to_z w128 (of_z w128 y))) +ℤ to_z w128 (of_z w128 z))) +ℤ pos 2)
three_shares_and_fit x y z p q s = rw (sum_of_three-plain x y z p q s) (fits ((x +ℤ y) +ℤ z) (three_within p q s))
  where
    fits : (t : ℤ) → IsNumberWithin t (((2 ^ 124 + 1) + (2 ^ 124 + 1)) + (2 ^ 124 + 1)) → FitsSigned w128 (t +ℤ pos 2)
    fits t b = let l = b.low in let h = b.high in omega (arith, ints)

-- a difference, as the program takes it
pub difference-plain : (y z : ℤ) → IsNumberWithin y (2 ^ 124) → IsNumberWithin z (2 ^ 124) → to_z w128 (of_z w128 (to_z w128 (of_z w128 y) -ℤ to_z w128 (of_z w128 z))) ≡ y -ℤ z
difference-plain y z p q = let pl = p.low in let ph = p.high in let ql = q.low in let qh = q.high in omega (arith, ints)

-- both ends of an interval within a bound, and its middle, rounded down
pub lower_within : (lo hi : ℤ) (m : ℕ) → neg_ℤ (pos m) ≤ℤ lo → lo ≤ℤ hi → hi ≤ℤ pos m → IsNumberWithin lo m
lower_within lo hi m p o q = record { low = omega (arith, ints); high = omega (arith, ints) }

pub upper_within : (lo hi : ℤ) (m : ℕ) → neg_ℤ (pos m) ≤ℤ lo → lo ≤ℤ hi → hi ≤ℤ pos m → IsNumberWithin hi m
upper_within lo hi m p o q = record { low = omega (arith, ints); high = omega (arith, ints) }

pub middle_within : (lo hi : ℤ) (m : ℕ) → IsNumberWithin lo m → IsNumberWithin hi m → IsNumberWithin (floor_of (lo +ℤ hi) 2) m
middle_within lo hi m p q =
    let a = floor_of_low (lo +ℤ hi) 2 (lit≤ tt) in
    let b = floor_of_high (lo +ℤ hi) 2 (lit≤ tt) in
    let pl = p.low in
    let ph = p.high in
    let ql = q.low in
    let qh = q.high in
    record { low = omega (arith, ints); high = omega (arith, ints) }
