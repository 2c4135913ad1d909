-- The quotient of forms holds the quotient of what they hold, where the divisor is above 0.
use Rattle.std.proofs.Common.{◌≡◌, sym, subst, [], ◌∷◌, ℕ, ◌*◌, ◌<◌, ◌≤◌, ℤ, pos, neg_ℤ, ◌+ℤ◌, ◌-ℤ◌, ◌*ℤ◌, ◌≤ℤ◌, ◌<ℤ◌, refl, arith, mul-pos, unsigned_abs}
use Rattle.std.proofs.lemmas.Int.{ints}
use Rattle.std.proofs.lemmas.Nat.{pow_pos}
use Rattle.std.proofs.Math.Nat.{mul-le-mul}
use Rattle.whole_numbers.specs.Rounding.{floor_of, ceil_of}
use Rattle.whole_numbers.proofs.Integers.{≤ℤ_trans, not_negative_natural, not_negative_product, not_negative_sum}
use Rattle.whole_numbers.proofs.Divisions.{floor_of_low, floor_of_high, ceil_of_low, ceil_of_high, at_most-floor_of}
use Rattle.whole_numbers.proofs.Quote.{quote}
use Rattle.whole_numbers.proofs.Certificates.{at_most, at_most_scaled, not_negative}
use Rattle.fix_interval.specs.Ends.{Ends}
use Rattle.fix_interval.specs.Quotients.{div_of}
use Rattle.fix_interval.proofs.EndProducts.{pick_min, pick_max}
use Rattle.fix_interval.proofs.EndQuotients.{div_ordered}
use Rattle.time_forms.specs.Forms.{Form, IsTime, LiesIn, Holds, size, least_of, greatest_of}
use Rattle.time_forms.specs.QuotientForms.{one, quotient_centre, quotient_turn, quotient_offset, quotient_gap, quotient_bend, quotient_times, div_form}
use Rattle.time_forms.proofs.Bounds.{size_high, size_low}
use Rattle.time_forms.proofs.FormSpans.{least_low, greatest_high, holds_lo, holds_hi, holds_both, remainder_not_negative, least_at_most_centre}
use Rattle.time_forms.proofs.FormProducts.{IsAround, away, around_high, around_low}
use Rattle.time_forms.proofs.Rests.{next_floor, rest_around, time_around}

-- ---- in whole numbers: a quotient at scale 38, times the divisor y; p is the divisor's centre, and f the units in one
above_line : (p : ℕ) (h d f y x q r s b ac av ar bv br e l m v w k : ℤ) → 0 < p → pos 0 ≤ℤ h → pos 0 ≤ℤ y → pos 0 ≤ℤ f → pos 0 ≤ℤ pos p
    → (h *ℤ x) ≤ℤ (h *ℤ (ac +ℤ ar) +ℤ av *ℤ d)
    → neg_ℤ (m *ℤ (h *ℤ br)) ≤ℤ (q *ℤ (h *ℤ y -ℤ (h *ℤ pos p +ℤ bv *ℤ d)))
    → (ac *ℤ f) ≤ℤ (q *ℤ pos p +ℤ pos p)
    → pos p ≤ℤ (k *ℤ y)
    → ((e *ℤ f -ℤ b *ℤ pos p) *ℤ d) ≤ℤ (pos p *ℤ h)
    → neg_ℤ ((v *ℤ w) *ℤ h) ≤ℤ ((e *ℤ (y -ℤ pos p)) *ℤ d)
    → (f *ℤ (v *ℤ w)) ≤ℤ (s *ℤ (pos p *ℤ y))
    → (((av *ℤ f -ℤ q *ℤ bv) -ℤ e *ℤ f) *ℤ d) ≤ℤ (f *ℤ h)
    → (m *ℤ br) ≤ℤ (l *ℤ f +ℤ f)
    → (f *ℤ ((ar +ℤ l) +ℤ pos 2)) ≤ℤ (r *ℤ y)
    → ((h *ℤ x) *ℤ f) ≤ℤ (y *ℤ (h *ℤ (q +ℤ (((r +ℤ s) +ℤ k) +ℤ pos 1)) +ℤ b *ℤ d))
above_line p h d f y x q r s b ac av ar bv br e l m v w k some nh ny nf np h1 h2 h3 h4 h5 h6 h7 h8 h9 h10 =
    at_most_scaled (pos p ∷ h ∷ d ∷ f ∷ y ∷ x ∷ q ∷ r ∷ s ∷ b ∷ ac ∷ av ∷ ar ∷ bv ∷ br ∷ e ∷ l ∷ m ∷ v ∷ w ∷ k ∷ []) p some
    (y *ℤ (pos p *ℤ h -ℤ (e *ℤ f -ℤ b *ℤ pos p) *ℤ d) +ℤ ((pos p *ℤ h) *ℤ ((q *ℤ pos p +ℤ pos p) -ℤ ac *ℤ f) +ℤ ((pos p *ℤ h) *ℤ (k *ℤ y -ℤ pos p)
    +ℤ (f *ℤ ((e *ℤ (y -ℤ pos p)) *ℤ d -ℤ neg_ℤ ((v *ℤ w) *ℤ h)) +ℤ (h *ℤ (s *ℤ (pos p *ℤ y) -ℤ f *ℤ (v *ℤ w)) +ℤ (pos p *ℤ (f *ℤ h -ℤ ((av *ℤ f -ℤ q *ℤ bv) -ℤ e *ℤ f) *ℤ d)
    +ℤ ((pos p *ℤ f) *ℤ ((h *ℤ (ac +ℤ ar) +ℤ av *ℤ d) -ℤ h *ℤ x) +ℤ (pos p *ℤ (q *ℤ (h *ℤ y -ℤ (h *ℤ pos p +ℤ bv *ℤ d)) -ℤ neg_ℤ (m *ℤ (h *ℤ br)))
    +ℤ ((pos p *ℤ h) *ℤ ((l *ℤ f +ℤ f) -ℤ m *ℤ br) +ℤ (pos p *ℤ h) *ℤ (r *ℤ y -ℤ f *ℤ ((ar +ℤ l) +ℤ pos 2)))))))))))
    (search not_negative depth 16) (search quote depth 30) tt

below_line : (p : ℕ) (h d f y x q r s b ac av ar bv br e l m v w k : ℤ) → 0 < p → pos 0 ≤ℤ h → pos 0 ≤ℤ y → pos 0 ≤ℤ f → pos 0 ≤ℤ pos p
    → (h *ℤ (ac -ℤ ar) +ℤ av *ℤ d) ≤ℤ (h *ℤ x)
    → (q *ℤ (h *ℤ y -ℤ (h *ℤ pos p +ℤ bv *ℤ d))) ≤ℤ (m *ℤ (h *ℤ br))
    → (q *ℤ pos p) ≤ℤ (ac *ℤ f)
    → pos 0 ≤ℤ k
    → neg_ℤ (pos p *ℤ h) ≤ℤ ((e *ℤ f -ℤ b *ℤ pos p) *ℤ d)
    → ((e *ℤ (y -ℤ pos p)) *ℤ d) ≤ℤ ((v *ℤ w) *ℤ h)
    → (f *ℤ (v *ℤ w)) ≤ℤ (s *ℤ (pos p *ℤ y))
    → neg_ℤ (f *ℤ h) ≤ℤ (((av *ℤ f -ℤ q *ℤ bv) -ℤ e *ℤ f) *ℤ d)
    → (m *ℤ br) ≤ℤ (l *ℤ f +ℤ f)
    → (f *ℤ ((ar +ℤ l) +ℤ pos 2)) ≤ℤ (r *ℤ y)
    → (y *ℤ (h *ℤ (q -ℤ (((r +ℤ s) +ℤ k) +ℤ pos 1)) +ℤ b *ℤ d)) ≤ℤ ((h *ℤ x) *ℤ f)
below_line p h d f y x q r s b ac av ar bv br e l m v w k some nh ny nf np h1 h2 h3 h4 h5 h6 h7 h8 h9 h10 =
    at_most_scaled (pos p ∷ h ∷ d ∷ f ∷ y ∷ x ∷ q ∷ r ∷ s ∷ b ∷ ac ∷ av ∷ ar ∷ bv ∷ br ∷ e ∷ l ∷ m ∷ v ∷ w ∷ k ∷ []) p some
    (y *ℤ ((e *ℤ f -ℤ b *ℤ pos p) *ℤ d -ℤ neg_ℤ (pos p *ℤ h)) +ℤ ((pos p *ℤ h) *ℤ (ac *ℤ f -ℤ q *ℤ pos p) +ℤ ((pos p *ℤ h) *ℤ (k *ℤ y)
    +ℤ (f *ℤ ((v *ℤ w) *ℤ h -ℤ (e *ℤ (y -ℤ pos p)) *ℤ d) +ℤ (h *ℤ (s *ℤ (pos p *ℤ y) -ℤ f *ℤ (v *ℤ w)) +ℤ (pos p *ℤ (((av *ℤ f -ℤ q *ℤ bv) -ℤ e *ℤ f) *ℤ d -ℤ neg_ℤ (f *ℤ h))
    +ℤ ((pos p *ℤ f) *ℤ (h *ℤ x -ℤ (h *ℤ (ac -ℤ ar) +ℤ av *ℤ d)) +ℤ (pos p *ℤ (m *ℤ (h *ℤ br) -ℤ q *ℤ (h *ℤ y -ℤ (h *ℤ pos p +ℤ bv *ℤ d)))
    +ℤ ((pos p *ℤ h) *ℤ ((l *ℤ f +ℤ f) -ℤ m *ℤ br) +ℤ (pos p *ℤ h) *ℤ (r *ℤ y -ℤ f *ℤ ((ar +ℤ l) +ℤ pos 2)))))))))))
    (search not_negative depth 16) (search quote depth 30) tt

-- a number u within one of the quotient of t by y is near where the quotient is
rounded_near : (y : ℕ) (h d q k b t u : ℤ) → 0 < y → pos 0 ≤ℤ h → pos 0 ≤ℤ pos y → t ≤ℤ (u *ℤ pos y +ℤ pos y) → (u *ℤ pos y) ≤ℤ (t +ℤ pos y)
    → (pos y *ℤ (h *ℤ (q -ℤ (k +ℤ pos 1)) +ℤ b *ℤ d)) ≤ℤ (h *ℤ t) → (h *ℤ t) ≤ℤ (pos y *ℤ (h *ℤ (q +ℤ (k +ℤ pos 1)) +ℤ b *ℤ d))
    → ((h *ℤ (q -ℤ (k +ℤ pos 2)) +ℤ b *ℤ d) ≤ℤ (h *ℤ u)) × ((h *ℤ u) ≤ℤ (h *ℤ (q +ℤ (k +ℤ pos 2)) +ℤ b *ℤ d))
rounded_near y h d q k b t u some nh ny p r low high = (
  at_most_scaled (pos y ∷ h ∷ d ∷ q ∷ k ∷ b ∷ t ∷ u ∷ []) y some (h *ℤ ((u *ℤ pos y +ℤ pos y) -ℤ t) +ℤ (h *ℤ t -ℤ pos y *ℤ (h *ℤ (q -ℤ (k +ℤ pos 1)) +ℤ b *ℤ d))) (search not_negative) (search quote depth 20) tt,
  at_most_scaled (pos y ∷ h ∷ d ∷ q ∷ k ∷ b ∷ t ∷ u ∷ []) y some (h *ℤ ((t +ℤ pos y) -ℤ u *ℤ pos y) +ℤ (pos y *ℤ (h *ℤ (q +ℤ (k +ℤ pos 1)) +ℤ b *ℤ d) -ℤ h *ℤ t)) (search not_negative) (search quote depth 20) tt,
)

-- ---- what the definitions give, for a divisor whose centre is the natural p
abbrev divisor : ℕ → ℤ → ℤ → Form
divisor p v r = record { centre = pos p; turning = v; remainder = r }

-- a number from p less m to p and m is away from p by at most m
off_centre : (c v r z : ℤ) → ((c -ℤ v) -ℤ r) ≤ℤ z → z ≤ℤ ((c +ℤ v) +ℤ r) → IsAround (v +ℤ r) (z -ℤ c)
off_centre c v r z p q = record { low = omega (arith, ints); high = omega (arith, ints) }

regrouped : (h d q k b t x f y : ℤ) → ((h *ℤ x) *ℤ f) ≤ℤ (y *ℤ (h *ℤ (q +ℤ (k +ℤ pos 1)) +ℤ b *ℤ d)) → (h *ℤ (x *ℤ f)) ≤ℤ (y *ℤ (h *ℤ (q +ℤ (k +ℤ pos 1)) +ℤ b *ℤ d))
regrouped h d q k b t x f y p = at_most (h ∷ d ∷ q ∷ k ∷ b ∷ x ∷ f ∷ y ∷ []) (y *ℤ (h *ℤ (q +ℤ (k +ℤ pos 1)) +ℤ b *ℤ d) -ℤ (h *ℤ x) *ℤ f) (search not_negative) (search quote depth 20) tt

regrouped_low : (h d q k b t x f y : ℤ) → (y *ℤ (h *ℤ (q -ℤ (k +ℤ pos 1)) +ℤ b *ℤ d)) ≤ℤ ((h *ℤ x) *ℤ f) → (y *ℤ (h *ℤ (q -ℤ (k +ℤ pos 1)) +ℤ b *ℤ d)) ≤ℤ (h *ℤ (x *ℤ f))
regrouped_low h d q k b t x f y p = at_most (h ∷ d ∷ q ∷ k ∷ b ∷ x ∷ f ∷ y ∷ []) ((h *ℤ x) *ℤ f -ℤ y *ℤ (h *ℤ (q -ℤ (k +ℤ pos 1)) +ℤ b *ℤ d)) (search not_negative) (search quote depth 20) tt

weaken : {y z : ℤ} → y <ℤ z → y ≤ℤ z
weaken p = omega (arith, ints)

-- u is within one of the quotient of t by y
record IsRounded (t : ℤ) (y : ℕ) (u : ℤ) : Type 0 where
  low : t ≤ℤ (u *ℤ pos y +ℤ pos y)
  high : (u *ℤ pos y) ≤ℤ (t +ℤ pos y)

quotient_near : {h : ℕ} {d : ℤ} (f : Form) (p : ℕ) (v r : ℤ) (x : ℤ) (y : ℕ) (u : ℤ) → IsTime h d
    → pos 1 ≤ℤ least_of (divisor p v r)
    → LiesIn h d f x → LiesIn h d (divisor p v r) (pos y) → IsRounded (x *ℤ pos one) y u → LiesIn h d (div_form f (divisor p v r)) u
unfolding div_form least_of greatest_of
quotient_near {h} {d} f p v r x y u t some a b rounded =
    let g = divisor p v r in
    let least = least_low g (pos y) t b in
    let greatest = greatest_high g (pos y) t b in
    let nr : pos 0 ≤ℤ r = remainder_not_negative g (pos y) t b in
    let nar : pos 0 ≤ℤ f.remainder = remainder_not_negative f x t a in
    let nv = not_negative_natural (unsigned_abs v) in
    let y0 : 0 < y = positive (least_of g) y some least in
    let p0 : 0 < p = centre_some (pos p) (size v) r (least_of g) refl some nv nr in
    let l0 : 0 < unsigned_abs (least_of g) = size_some (least_of g) some in
    let ly : unsigned_abs (least_of g) ≤ y = size_below (least_of g) y some least in
    let f0 : 0 < one = pow_pos 38 in
    let q = quotient_centre f g in
    let e = quotient_turn f g in
    let w = size v +ℤ r in
    let m = size q in
    let fl = floor_of (size q *ℤ r) one in
    let b' = floor_of (e *ℤ pos one) p in
    let nw : pos 0 ≤ℤ w = not_negative_sum (size v) r nv nr in
    let nmr : pos 0 ≤ℤ (m *ℤ r) = not_negative_product m r (not_negative_natural _) nr in
    let nfl : pos 0 ≤ℤ fl = (at_most-floor_of (pos 0) (m *ℤ r) one f0).1 nmr in
    let noff : pos 0 ≤ℤ (pos one *ℤ quotient_offset f g) = not_negative_product (pos one) (quotient_offset f g) (not_negative_natural one) (three f.remainder fl nar nfl) in
    let nbend : pos 0 ≤ℤ (pos one *ℤ (size e *ℤ w)) = not_negative_product (pos one) (size e *ℤ w) (not_negative_natural one) (not_negative_product (size e) w (not_negative_natural _) nw) in
    let qa : IsAround m q = record { low = size_low q; high = size_high q } in
    let ea : IsAround (size e) e = record { low = size_low e; high = size_high e } in
    let yb = away g (pos y) b in
    let yp : IsAround w (pos y -ℤ pos p) = off_centre (pos p) (size v) r (pos y) least greatest in
    let ep : IsAround (size e *ℤ w) (e *ℤ (pos y -ℤ pos p)) = record { low = around_low ea yp; high = around_high ea yp } in
    let nu = rest_around (e *ℤ pos one) p p0 in
    let be = rest_around (f.turning *ℤ pos one -ℤ q *ℤ v) one f0 in
    let h7 : (pos one *ℤ (size e *ℤ w)) ≤ℤ (quotient_bend f g *ℤ (pos p *ℤ pos y)) = next_floor (pos one *ℤ (size e *ℤ w)) (p * unsigned_abs (least_of g)) (p * y) (mul-pos p0 l0) (grow p (unsigned_abs (least_of g)) y ly) nbend in
    let h9 : (m *ℤ r) ≤ℤ (fl *ℤ pos one +ℤ pos one) = weaken (floor_of_high (m *ℤ r) one f0) in
    let h10 : (pos one *ℤ quotient_offset f g) ≤ℤ (quotient_gap f g *ℤ pos y) = next_floor (pos one *ℤ quotient_offset f g) (unsigned_abs (least_of g)) y l0 ly noff in
    let times = quotient_times g in
    let h4 : pos p ≤ℤ (times *ℤ pos y) = next_floor (pos p) (unsigned_abs (least_of g)) y l0 ly (not_negative_natural p) in
    let ntimes : pos 0 ≤ℤ times = one_more (floor_of (pos p) (unsigned_abs (least_of g))) ((at_most-floor_of (pos 0) (pos p) (unsigned_abs (least_of g)) l0).1 (no_times p (unsigned_abs (least_of g)))) in
    let high = above_line p (pos h) d (pos one) (pos y) x q (quotient_gap f g) (quotient_bend f g) b' f.centre f.turning f.remainder v r e fl m (size e) w times p0 (not_negative_natural h) (not_negative_natural y) (not_negative_natural one) (not_negative_natural p)
    a.high (around_low qa yb) (weaken (floor_of_high (f.centre *ℤ pos one) p p0)) h4
    (around_high nu (time_around t)) (around_low ep (time_around t)) h7 (around_high be (time_around t)) h9 h10 in
    let low = below_line p (pos h) d (pos one) (pos y) x q (quotient_gap f g) (quotient_bend f g) b' f.centre f.turning f.remainder v r e fl m (size e) w times p0 (not_negative_natural h) (not_negative_natural y) (not_negative_natural one) (not_negative_natural p)
    a.low (around_high qa yb) (floor_of_low (f.centre *ℤ pos one) p p0) ntimes
    (around_low nu (time_around t)) (around_high ep (time_around t)) h7 (around_low be (time_around t)) h9 h10 in
    let k = (quotient_gap f g +ℤ quotient_bend f g) +ℤ times in
    let n = rounded_near y (pos h) d q k b' (x *ℤ pos one) u y0 (not_negative_natural h) (not_negative_natural y) rounded.low rounded.high
    (regrouped_low (pos h) d q k b' (pos 0) x (pos one) (pos y) low) (regrouped (pos h) d q k b' (pos 0) x (pos one) (pos y) high) in
    record { low = n.0; high = n.1 }
  where
    positive : (l : ℤ) (y : ℕ) → pos 1 ≤ℤ l → l ≤ℤ pos y → 0 < y
    positive l y p q = omega (arith, ints)

    centre_some : (c v r l : ℤ) {p : ℕ} → c ≡ pos p → pos 1 ≤ℤ ((c -ℤ v) -ℤ r) → pos 0 ≤ℤ v → pos 0 ≤ℤ r → 0 < p
    centre_some c v r l {p} e s i j = omega (arith, ints)

    size_some : (z : ℤ) → pos 1 ≤ℤ z → 0 < unsigned_abs z
    size_some z h = omega (arith, ints)

    size_below : (z : ℤ) (y : ℕ) → pos 1 ≤ℤ z → z ≤ℤ pos y → unsigned_abs z ≤ y
    size_below z y h k = omega (arith, ints)

    three : (y z : ℤ) → pos 0 ≤ℤ y → pos 0 ≤ℤ z → pos 0 ≤ℤ ((y +ℤ z) +ℤ pos 2)
    three y z p q = omega (arith, ints)

    grow : (p l y : ℕ) → l ≤ y → p * l ≤ p * y
    grow p l y h = let same : p ≤ p = omega arith in mul-le-mul same h

    no_times : (p l : ℕ) → (pos 0 *ℤ pos l) ≤ℤ pos p
    no_times p l = omega (arith, ints)

    one_more : (z : ℤ) → pos 0 ≤ℤ z → pos 0 ≤ℤ (z +ℤ pos 1)
    one_more z h = omega (arith, ints)

-- ---- any divisor that is above 0
natural : (z : ℤ) → pos 1 ≤ℤ z → pos (unsigned_abs z) ≡ z
natural z h = omega (arith, ints)

quotient_at : {h : ℕ} {d : ℤ} (f g : Form) (x y u : ℤ) → IsTime h d → pos 1 ≤ℤ g.centre → pos 1 ≤ℤ y → pos 1 ≤ℤ least_of g
    → LiesIn h d f x → LiesIn h d g y → IsRounded (x *ℤ pos one) (unsigned_abs y) u → LiesIn h d (div_form f g) u
quotient_at {h} {d} f g x y u t c1 y1 some a b rounded =
    subst (λ (k : Form). pos 1 ≤ℤ least_of k → LiesIn h d k (pos (unsigned_abs y)) → LiesIn h d (div_form f k) u)
    (λ i. record { centre = natural g.centre c1 i; turning = g.turning; remainder = g.remainder })
    (λ s n. quotient_near f (unsigned_abs g.centre) g.turning g.remainder x (unsigned_abs y) u t s a n rounded)
    some (subst (λ z. LiesIn h d g z) (sym (natural y y1)) b)

floor_rounded : (t : ℤ) (y : ℕ) → 0 < y → IsRounded t y (floor_of t y)
floor_rounded t y h = record { low = weaken (floor_of_high t y h); high = more (floor_of t y *ℤ pos y) t y (floor_of_low t y h) }
  where
    more : (u t : ℤ) (y : ℕ) → u ≤ℤ t → u ≤ℤ (t +ℤ pos y)
    more u t y p = omega (arith, ints)

ceil_rounded : (t : ℤ) (y : ℕ) → 0 < y → IsRounded t y (ceil_of t y)
ceil_rounded t y h = record { low = more t (ceil_of t y *ℤ pos y) y (ceil_of_high t y h); high = weaken (ceil_of_low t y h) }
  where
    more : (t u : ℤ) (y : ℕ) → t ≤ℤ u → t ≤ℤ (u +ℤ pos y)
    more t u y p = omega (arith, ints)

-- the quotient of intervals lies in the quotient of the forms that hold them
pub div_holds : {h : ℕ} {d : ℤ} (f g : Form) (a b : Ends) → IsTime h d → pos 1 ≤ℤ least_of g
    → Holds h d f a → Holds h d g b → Holds h d (div_form f g) (div_of a b)
unfolding div_of
div_holds {h} {d} f g a b t some p q =
    let lo1 : pos 1 ≤ℤ b.lo = ≤ℤ_trans (pos 1) (least_of g) b.lo some (least_low g b.lo t (holds_lo q)) in
    let hi1 : pos 1 ≤ℤ b.hi = ≤ℤ_trans (pos 1) b.lo b.hi lo1 q.ordered in
    let c1 : pos 1 ≤ℤ g.centre = ≤ℤ_trans (pos 1) (least_of g) g.centre some (least_at_most_centre g b.lo t (holds_lo q)) in
    let sl = size_some b.lo lo1 in
    let sh = size_some b.hi hi1 in
    holds_both
    (div_ordered a b lo1 p.ordered)
    (pick_min (LiesIn h d (div_form f g)) (floor_of (a.lo *ℤ pos one) (unsigned_abs b.lo)) (floor_of (a.lo *ℤ pos one) (unsigned_abs b.hi))
    (quotient_at f g a.lo b.lo _ t c1 lo1 some (holds_lo p) (holds_lo q) (floor_rounded _ _ sl))
    (quotient_at f g a.lo b.hi _ t c1 hi1 some (holds_lo p) (holds_hi q) (floor_rounded _ _ sh)))
    (pick_max (LiesIn h d (div_form f g)) (ceil_of (a.hi *ℤ pos one) (unsigned_abs b.lo)) (ceil_of (a.hi *ℤ pos one) (unsigned_abs b.hi))
    (quotient_at f g a.hi b.lo _ t c1 lo1 some (holds_hi p) (holds_lo q) (ceil_rounded _ _ sl))
    (quotient_at f g a.hi b.hi _ t c1 hi1 some (holds_hi p) (holds_hi q) (ceil_rounded _ _ sh)))
  where
    size_some : (z : ℤ) → pos 1 ≤ℤ z → 0 < unsigned_abs z
    size_some z h = omega (arith, ints)
