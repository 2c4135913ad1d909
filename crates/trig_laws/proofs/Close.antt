-- How far the ends of an operation's answer are from the exact value.
use Rattle.std.specs.Prelude.{◌≡◌, ℕ, ℤ, pos, ◌+◌, ◌*◌, ◌^◌, ◌<◌, ◌≤◌, refl, ◌+ℤ◌, ◌-ℤ◌, ◌*ℤ◌, neg_ℤ, ◌≤ℤ◌, [], ◌∷◌}
use Rattle.std.proofs.Common.{arith, ap, sym, ◌∙◌, subst}
use Rattle.std.proofs.lemmas.Int.{ints, clamps}
use Rattle.std.proofs.lemmas.Nat.{pow_pos}
use Rattle.std.proofs.Math.Nat.{mul-pos, mul-le-mul_left}
use Rattle.std.specs.Int.{int_min, int_max}
use borrow.Author.Differences.{up, down}
use lib.Dec.{lit≤}
use lib.Signed.{le_z}
use Rattle.whole_numbers.specs.Rounding.{floor_of, ceil_of}
use Rattle.whole_numbers.proofs.Divisions.{floor_parts_high, ceil_parts_low, floor_of_mono, ceil_of_mono}
use Rattle.fractions.specs.Fraction.{Fraction, ratio, zeroᶠ, oneᶠ, ◌+ᶠ◌, ◌-ᶠ◌, ◌*ᶠ◌, neg, ◌≤ᶠ◌, IsNear}
use Rattle.fractions.proofs.Certificates.{at_most, not_negative}
use Rattle.fractions.proofs.Laws.{≤ᶠ_trans, zero-*ᶠ}
use Rattle.fractions.proofs.Quote.{quote}
use Rattle.fractions.proofs.Ratios.{ratio-add, ratio-mul, ratio-same, ratio_mono, ratio_at_most, neg-ratio, not_negative_ratio}
use Rattle.fix_interval.specs.Bounds.{clamp_of, widen_of}
use Rattle.fix_interval.specs.Ends.{Ends}
use Rattle.fix_interval.specs.Products.{mul_of, mul_wide_of, narrow76_of, sqr_of, sqr_wide_of}
use Rattle.fix_interval.specs.Quotients.{div_int_of, scale_of}
use Rattle.fix_interval.specs.Sums.{sub_of}
use Rattle.fix_interval.proofs.EndProducts.{corner, mul_wide_encloses, pick_min, pick_max}
use Rattle.fix_interval.specs.Ranges.{one_ends}
use Rattle.fix_interval.proofs.EndSquares.{below_least_square}
use Rattle.trig_laws.proofs.Isotones.{whole_order}

-- the least and the greatest of four
abbrev pub least : ℤ → ℤ → ℤ → ℤ → ℤ
least p q r s = int_min (int_min p q) (int_min r s)

abbrev pub greatest : ℤ → ℤ → ℤ → ℤ → ℤ
greatest p q r s = int_max (int_max p q) (int_max r s)

-- one unit
abbrev pub unit : Fraction
unit = ratio (pos 1) (2 ^ 38)

-- no end of a is further than e outside x
pub record IsClose (a : Ends) (x e : Fraction) : Type 0 where
  pub low : x -ᶠ e ≤ᶠ ratio a.lo (2 ^ 38)
  pub high : ratio a.hi (2 ^ 38) ≤ᶠ x +ᶠ e

pub close_weaken : {a : Ends} {x d e : Fraction} → d ≤ᶠ e → IsClose a x d → IsClose a x e
close_weaken {a} {x} {d} {e} h p =
    let l : x -ᶠ d ≤ᶠ ratio a.lo (2 ^ 38) = p.low in
    let k : ratio a.hi (2 ^ 38) ≤ᶠ x +ᶠ d = p.high in
    let lo : Fraction = ratio a.lo (2 ^ 38) in
    let hi : Fraction = ratio a.hi (2 ^ 38) in
    record {
      low = at_most (x ∷ d ∷ e ∷ lo ∷ []) ((e -ᶠ d) +ᶠ (lo -ᶠ (x -ᶠ d))) (search not_negative) (search quote depth 20) tt;
      high = at_most (x ∷ d ∷ e ∷ hi ∷ []) ((e -ᶠ d) +ᶠ ((x +ᶠ d) -ᶠ hi)) (search not_negative) (search quote depth 20) tt;
    }

pub close_near : {a : Ends} {x y d e : Fraction} → IsNear x y e → IsClose a x d → IsClose a y (d +ᶠ e)
close_near {a} {x} {y} {d} {e} n p =
    let l : x -ᶠ d ≤ᶠ ratio a.lo (2 ^ 38) = p.low in
    let k : ratio a.hi (2 ^ 38) ≤ᶠ x +ᶠ d = p.high in
    let nl : x ≤ᶠ y +ᶠ e = n.low in
    let nh : y ≤ᶠ x +ᶠ e = n.high in
    let lo : Fraction = ratio a.lo (2 ^ 38) in
    let hi : Fraction = ratio a.hi (2 ^ 38) in
    record {
      low = at_most (x ∷ y ∷ d ∷ e ∷ lo ∷ []) (((x +ᶠ e) -ᶠ y) +ᶠ (lo -ᶠ (x -ᶠ d))) (search not_negative) (search quote depth 20) tt;
      high = at_most (x ∷ y ∷ d ∷ e ∷ hi ∷ []) (((y +ᶠ e) -ᶠ x) +ᶠ ((x +ᶠ d) -ᶠ hi)) (search not_negative) (search quote depth 20) tt;
    }

pub close_inside : {a b : Ends} {x e : Fraction} → b.lo ≤ℤ a.lo → a.hi ≤ℤ b.hi → IsClose b x e → IsClose a x e
close_inside h k p = record { low = ≤ᶠ_trans p.low (ratio_mono (2 ^ 38) h); high = ≤ᶠ_trans (ratio_mono (2 ^ 38) k) p.high }

-- ---- rounding
after_floor : (f : ℤ) (k : ℕ) → up (f +ℤ pos 1) * k + down f * k ≡ down (f +ℤ pos 1) * k + up f * k + k
after_floor f k = let e : up (f +ℤ pos 1) + down f ≡ down (f +ℤ pos 1) + up f + 1 = omega (arith, ints) in omega (arith, ap (λ (n : ℕ). n * k) e)

below_next : (z g : ℤ) (k n : ℕ) → 0 < k → 0 < n → up z + down g * k ≤ up g * k + down z → ratio z (k * n) ≤ᶠ ratio g n
below_next z g k n p q h = ratio_at_most z g (k * n) n (mul-pos p q) q (omega (arith, ints, mul-le-mul_left n h))

above_last : (z g : ℤ) (k n : ℕ) → 0 < k → 0 < n → up g * k + down z ≤ up z + down g * k → ratio g n ≤ᶠ ratio z (k * n)
above_last z g k n p q h = ratio_at_most g z n (k * n) q (mul-pos p q) (omega (arith, ints, mul-le-mul_left n h))

pub floor_close : (z : ℤ) (k n : ℕ) → 0 < k → 0 < n → ratio z (k * n) ≤ᶠ ratio (floor_of z k) n +ᶠ ratio (pos 1) n
floor_close z k n p q = rw (ratio-add (floor_of z k) (pos 1) n) (below_next z (floor_of z k +ℤ pos 1) k n p q (let f = floor_of z k in omega (arith, floor_parts_high z k p, after_floor f k)))

pub ceil_close : (z : ℤ) (k n : ℕ) → 0 < k → 0 < n → ratio (ceil_of z k) n ≤ᶠ ratio z (k * n) +ᶠ ratio (pos 1) n
ceil_close z k n p q =
    let c : ℤ = ceil_of z k in
    let g : ℤ = c -ℤ pos 1 in
    let e : g +ℤ pos 1 ≡ c = omega (arith, ints) in
    let a : ratio g n ≤ᶠ ratio z (k * n) = above_last z g k n p q (omega (arith, ceil_parts_low z k p, rw e at (after_floor g k))) in
    let s : ratio c n ≡ ratio g n +ᶠ ratio (pos 1) n = sym (ratio-add g (pos 1) n ∙ ap (λ t. ratio t n) e) in
    let v : Fraction = ratio g n in
    let w : Fraction = ratio z (k * n) in
    let o : Fraction = ratio (pos 1) n in
    rw s (at_most (v ∷ w ∷ o ∷ []) (w -ᶠ v) (search not_negative) (search quote depth 20) tt)

-- ---- products
near_product : (p x e q y f A Y : Fraction) → IsNear p x e → IsNear q y f → neg A ≤ᶠ p → p ≤ᶠ A → neg Y ≤ᶠ y → y ≤ᶠ Y → IsNear (p *ᶠ q) (x *ᶠ y) (A *ᶠ f +ᶠ Y *ᶠ e)
near_product p x e q y f A Y m n al ah yl yh =
    let ml : p ≤ᶠ x +ᶠ e = m.low in
    let mh : x ≤ᶠ p +ᶠ e = m.high in
    let nl : q ≤ᶠ y +ᶠ f = n.low in
    let nh : y ≤ᶠ q +ᶠ f = n.high in
    record {
      low = at_most (p ∷ x ∷ e ∷ q ∷ y ∷ f ∷ A ∷ Y ∷ [])
          (ratio (pos 1) 2 *ᶠ (((A -ᶠ p) *ᶠ ((q +ᶠ f) -ᶠ y) +ᶠ (p -ᶠ neg A) *ᶠ ((y +ᶠ f) -ᶠ q)) +ᶠ ((Y -ᶠ y) *ᶠ ((p +ᶠ e) -ᶠ x) +ᶠ (y -ᶠ neg Y) *ᶠ ((x +ᶠ e) -ᶠ p))))
          (search not_negative depth 10) (search quote depth 30) tt;
      high = at_most (p ∷ x ∷ e ∷ q ∷ y ∷ f ∷ A ∷ Y ∷ [])
          (ratio (pos 1) 2 *ᶠ (((A -ᶠ p) *ᶠ ((y +ᶠ f) -ᶠ q) +ᶠ (p -ᶠ neg A) *ᶠ ((q +ᶠ f) -ᶠ y)) +ᶠ ((Y -ᶠ y) *ᶠ ((x +ᶠ e) -ᶠ p) +ᶠ (y -ᶠ neg Y) *ᶠ ((p +ᶠ e) -ᶠ x))))
          (search not_negative depth 10) (search quote depth 30) tt;
    }

-- both ends of an interval are near
ends_near : (a : Ends) (x e : Fraction) → a.lo ≤ℤ a.hi → IsClose a x e → IsNear (ratio a.lo (2 ^ 38)) x e × IsNear (ratio a.hi (2 ^ 38)) x e
ends_near a x e o p =
    let l : x -ᶠ e ≤ᶠ ratio a.lo (2 ^ 38) = p.low in
    let h : ratio a.hi (2 ^ 38) ≤ᶠ x +ᶠ e = p.high in
    let i : ratio a.lo (2 ^ 38) ≤ᶠ ratio a.hi (2 ^ 38) = ratio_mono (2 ^ 38) o in
    let lo : Fraction = ratio a.lo (2 ^ 38) in
    let hi : Fraction = ratio a.hi (2 ^ 38) in (
      record { low = at_most (x ∷ e ∷ lo ∷ hi ∷ []) (((x +ᶠ e) -ᶠ hi) +ᶠ (hi -ᶠ lo)) (search not_negative) (search quote depth 20) tt; high = at_most (x ∷ e ∷ lo ∷ hi ∷ []) (lo -ᶠ (x -ᶠ e)) (search not_negative) (search quote depth 20) tt },
      record { low = at_most (x ∷ e ∷ lo ∷ hi ∷ []) ((x +ᶠ e) -ᶠ hi) (search not_negative) (search quote depth 20) tt; high = at_most (x ∷ e ∷ lo ∷ hi ∷ []) ((hi -ᶠ lo) +ᶠ (lo -ᶠ (x -ᶠ e))) (search not_negative) (search quote depth 20) tt },
    )

-- the magnitude of a is at most A
pub record IsAtMost (a : Ends) (A : Fraction) : Type 0 where
  pub low : neg A ≤ᶠ ratio a.lo (2 ^ 38)
  pub ordered : a.lo ≤ℤ a.hi
  pub high : ratio a.hi (2 ^ 38) ≤ᶠ A

pub mul_close : (a b : Ends) (x y e f A Y : Fraction) → IsAtMost a A → b.lo ≤ℤ b.hi → IsClose a x e → IsClose b y f → neg Y ≤ᶠ y → y ≤ᶠ Y → IsClose (mul_of a b) (x *ᶠ y) (A *ᶠ f +ᶠ Y *ᶠ e +ᶠ unit)
unfolding mul_of mul_wide_of narrow76_of
mul_close a b x y e f A Y ma ob ca cb yl yh =
    let na = ends_near a x e ma.ordered ca in
    let nb = ends_near b y f ob cb in
    let ol : ratio a.lo (2 ^ 38) ≤ᶠ ratio a.hi (2 ^ 38) = ratio_mono (2 ^ 38) ma.ordered in
    let ll = near_product _ x e _ y f A Y na.0 nb.0 ma.low (≤ᶠ_trans ol ma.high) yl yh in
    let lh = near_product _ x e _ y f A Y na.0 nb.1 ma.low (≤ᶠ_trans ol ma.high) yl yh in
    let hl = near_product _ x e _ y f A Y na.1 nb.0 (≤ᶠ_trans ma.low ol) ma.high yl yh in
    let hh = near_product _ x e _ y f A Y na.1 nb.1 (≤ᶠ_trans ma.low ol) ma.high yl yh in
    let P : ℤ → Type 0 = λ m. x *ᶠ y ≤ᶠ ratio m (2 ^ 76) +ᶠ (A *ᶠ f +ᶠ Y *ᶠ e) in
    let Q : ℤ → Type 0 = λ m. ratio m (2 ^ 76) ≤ᶠ x *ᶠ y +ᶠ (A *ᶠ f +ᶠ Y *ᶠ e) in
    let c : (m n : ℤ) → ratio m (2 ^ 38) *ᶠ ratio n (2 ^ 38) ≡ ratio (m *ℤ n) (2 ^ 76) = λ m n. corner m n 38 38 in
    let lo : ℤ = least (a.lo *ℤ b.lo) (a.lo *ℤ b.hi) (a.hi *ℤ b.lo) (a.hi *ℤ b.hi) in
    let hi : ℤ = greatest (a.lo *ℤ b.lo) (a.lo *ℤ b.hi) (a.hi *ℤ b.lo) (a.hi *ℤ b.hi) in
    let l : x *ᶠ y ≤ᶠ ratio lo (2 ^ 76) +ᶠ (A *ᶠ f +ᶠ Y *ᶠ e) = pick_min P _ _ (pick_min P _ _ (rw (c a.lo b.lo) at ll.high) (rw (c a.lo b.hi) at lh.high)) (pick_min P _ _ (rw (c a.hi b.lo) at hl.high) (rw (c a.hi b.hi) at hh.high)) in
    let h : ratio hi (2 ^ 76) ≤ᶠ x *ᶠ y +ᶠ (A *ᶠ f +ᶠ Y *ᶠ e) = pick_max Q _ _ (pick_max Q _ _ (rw (c a.lo b.lo) at ll.low) (rw (c a.lo b.hi) at lh.low)) (pick_max Q _ _ (rw (c a.hi b.lo) at hl.low) (rw (c a.hi b.hi) at hh.low)) in
    let g : ratio lo (2 ^ 76) ≤ᶠ ratio (floor_of lo (2 ^ 38)) (2 ^ 38) +ᶠ unit = floor_close lo (2 ^ 38) (2 ^ 38) (pow_pos 38) (pow_pos 38) in
    let j : ratio (ceil_of hi (2 ^ 38)) (2 ^ 38) ≤ᶠ ratio hi (2 ^ 76) +ᶠ unit = ceil_close hi (2 ^ 38) (2 ^ 38) (pow_pos 38) (pow_pos 38) in
    let v : Fraction = ratio (floor_of lo (2 ^ 38)) (2 ^ 38) in
    let w : Fraction = ratio lo (2 ^ 76) in
    let t : Fraction = ratio (ceil_of hi (2 ^ 38)) (2 ^ 38) in
    let u : Fraction = ratio hi (2 ^ 76) in
    record {
      low = at_most (x ∷ y ∷ e ∷ f ∷ A ∷ Y ∷ v ∷ w ∷ []) (((v +ᶠ unit) -ᶠ w) +ᶠ ((w +ᶠ (A *ᶠ f +ᶠ Y *ᶠ e)) -ᶠ x *ᶠ y)) (search not_negative) (search quote depth 30) tt;
      high = at_most (x ∷ y ∷ e ∷ f ∷ A ∷ Y ∷ t ∷ u ∷ []) (((u +ᶠ unit) -ᶠ t) +ᶠ ((x *ᶠ y +ᶠ (A *ᶠ f +ᶠ Y *ᶠ e)) -ᶠ u)) (search not_negative) (search quote depth 30) tt;
    }

-- a square is inside the product
sqr_in_mul : (a : Ends) → a.lo ≤ℤ a.hi → ((mul_of a a).lo ≤ℤ (sqr_of a).lo) × ((sqr_of a).hi ≤ℤ (mul_of a a).hi)
unfolding mul_of sqr_of narrow76_of mul_wide_of sqr_wide_of
sqr_in_mul a o = (
  floor_of_mono (least (a.lo *ℤ a.lo) (a.lo *ℤ a.hi) (a.hi *ℤ a.lo) (a.hi *ℤ a.hi)) (sqr_wide_of a).lo (2 ^ 38) (pow_pos 38)
      (below_least_square a (least (a.lo *ℤ a.lo) (a.lo *ℤ a.hi) (a.hi *ℤ a.lo) (a.hi *ℤ a.hi)) o (le_z a.lo (pos 0)) (le_z (pos 0) a.hi) refl refl
      (λ h k. whole_order _ (pos 0) (rw (zero-*ᶠ zeroᶠ) at (mul_wide_encloses {a = a} {b = a} refl 0 0 (ratio (pos 0) 1) (ratio (pos 0) 1) record { low = ratio_mono 1 k; high = ratio_mono 1 h } record { low = ratio_mono 1 k; high = ratio_mono 1 h }).low))
      (first (a.lo *ℤ a.lo) (a.lo *ℤ a.hi) (a.hi *ℤ a.lo) (a.hi *ℤ a.hi)) (last (a.lo *ℤ a.lo) (a.lo *ℤ a.hi) (a.hi *ℤ a.lo) (a.hi *ℤ a.hi))),
  ceil_of_mono (sqr_wide_of a).hi (greatest (a.lo *ℤ a.lo) (a.lo *ℤ a.hi) (a.hi *ℤ a.lo) (a.hi *ℤ a.hi)) (2 ^ 38) (pow_pos 38) (most (a.lo *ℤ a.lo) (a.lo *ℤ a.hi) (a.hi *ℤ a.lo) (a.hi *ℤ a.hi)),
)
  where
    first : (p q r t : ℤ) → least p q r t ≤ℤ p
    first p q r t = omega (arith, ints, clamps)

    last : (p q r t : ℤ) → least p q r t ≤ℤ t
    last p q r t = omega (arith, ints, clamps)

    most : (p q r t : ℤ) → int_max p t ≤ℤ greatest p q r t
    most p q r t = omega (arith, ints, clamps)

pub sqr_close : (a : Ends) (x e A : Fraction) → IsAtMost a A → IsClose a x e → neg A ≤ᶠ x → x ≤ᶠ A → IsClose (sqr_of a) (x *ᶠ x) (A *ᶠ e +ᶠ A *ᶠ e +ᶠ unit)
sqr_close a x e A m c l h = let s = sqr_in_mul a m.ordered in close_inside s.0 s.1 (mul_close a a x x e e A A m m.ordered c c l h)

-- ---- times a constant
scaled : (z : ℤ) (p q : ℕ) → 0 < q → ratio (z *ℤ pos p) (q * 2 ^ 38) ≡ ratio (pos p) q *ᶠ ratio z (2 ^ 38)
scaled z p q h = ap (λ t. ratio t (q * 2 ^ 38)) (turned z p) ∙ sym (ratio-mul (pos p) z q (2 ^ 38) h (pow_pos 38))
  where
    turned : (z : ℤ) (p : ℕ) → z *ℤ pos p ≡ pos p *ℤ z
    turned z p = omega (arith, ints)

pub scale_close : (a : Ends) (x e : Fraction) (p q : ℕ) → 0 < q → IsClose a x e → IsClose (scale_of a p q) (ratio (pos p) q *ᶠ x) (ratio (pos p) q *ᶠ e +ᶠ unit)
unfolding scale_of
scale_close a x e p q h c =
    let r : Fraction = ratio (pos p) q in
    let rn : zeroᶠ ≤ᶠ r = not_negative_ratio p q in
    let cl : x -ᶠ e ≤ᶠ ratio a.lo (2 ^ 38) = c.low in
    let ch : ratio a.hi (2 ^ 38) ≤ᶠ x +ᶠ e = c.high in
    let g : r *ᶠ ratio a.lo (2 ^ 38) ≤ᶠ ratio (floor_of (a.lo *ℤ pos p) q) (2 ^ 38) +ᶠ unit = rw (scaled a.lo p q h) at (floor_close (a.lo *ℤ pos p) q (2 ^ 38) h (pow_pos 38)) in
    let j : ratio (ceil_of (a.hi *ℤ pos p) q) (2 ^ 38) ≤ᶠ r *ᶠ ratio a.hi (2 ^ 38) +ᶠ unit = rw (scaled a.hi p q h) at (ceil_close (a.hi *ℤ pos p) q (2 ^ 38) h (pow_pos 38)) in
    let lo : Fraction = ratio a.lo (2 ^ 38) in
    let hi : Fraction = ratio a.hi (2 ^ 38) in
    let v : Fraction = ratio (floor_of (a.lo *ℤ pos p) q) (2 ^ 38) in
    let t : Fraction = ratio (ceil_of (a.hi *ℤ pos p) q) (2 ^ 38) in
    record {
      low = at_most (x ∷ e ∷ r ∷ lo ∷ v ∷ []) (((v +ᶠ unit) -ᶠ r *ᶠ lo) +ᶠ r *ᶠ (lo -ᶠ (x -ᶠ e))) (search not_negative) (search quote depth 30) tt;
      high = at_most (x ∷ e ∷ r ∷ hi ∷ t ∷ []) (((r *ᶠ hi +ᶠ unit) -ᶠ t) +ᶠ r *ᶠ ((x +ᶠ e) -ᶠ hi)) (search not_negative) (search quote depth 30) tt;
    }

pub div_close : (a : Ends) (x e : Fraction) (k : ℕ) → 0 < k → IsClose a x e → IsClose (div_int_of a k) (ratio (pos 1) k *ᶠ x) (ratio (pos 1) k *ᶠ e +ᶠ unit)
unfolding div_int_of scale_of
div_close a x e k h c = subst (λ (b : Ends). IsClose record { lo = floor_of b.lo k; hi = ceil_of b.hi k } (ratio (pos 1) k *ᶠ x) (ratio (pos 1) k *ᶠ e +ᶠ unit)) (by_one a) (scale_close a x e 1 k h c)
  where
    same : (z : ℤ) → z *ℤ pos 1 ≡ z
    same z = omega (arith, ints)

    by_one : (a : Ends) → record { lo = a.lo *ℤ pos 1; hi = a.hi *ℤ pos 1 } ≡ a
    by_one a = λ i. record { lo = same a.lo i; hi = same a.hi i }

-- ---- one less a number, and a unit outward
at_one : ratio (pos (2 ^ 38)) (2 ^ 38) ≡ oneᶠ
at_one = ratio-same (pos (2 ^ 38)) (pos 1) (2 ^ 38) 1 (pow_pos 38) (lit≤ tt) refl

pub minus : (m n : ℤ) → ratio (m -ℤ n) (2 ^ 38) ≡ ratio m (2 ^ 38) -ᶠ ratio n (2 ^ 38)
minus m n = sym (ap (λ t. ratio m (2 ^ 38) +ᶠ t) (neg-ratio n (2 ^ 38)) ∙ ratio-add m (neg_ℤ n) (2 ^ 38))

pub less_close : (a : Ends) (x e : Fraction) → IsClose a x e → IsClose (sub_of one_ends a) (oneᶠ -ᶠ x) e
unfolding sub_of
less_close a x e c =
    let cl : x -ᶠ e ≤ᶠ ratio a.lo (2 ^ 38) = c.low in
    let ch : ratio a.hi (2 ^ 38) ≤ᶠ x +ᶠ e = c.high in
    let lo : Fraction = ratio a.lo (2 ^ 38) in
    let hi : Fraction = ratio a.hi (2 ^ 38) in
    record {
      low = rw (minus (pos (2 ^ 38)) a.hi, at_one) (at_most (x ∷ e ∷ hi ∷ []) ((x +ᶠ e) -ᶠ hi) (search not_negative) (search quote depth 30) tt);
      high = rw (minus (pos (2 ^ 38)) a.lo, at_one) (at_most (x ∷ e ∷ lo ∷ []) (lo -ᶠ (x -ᶠ e)) (search not_negative) (search quote depth 30) tt);
    }

pub widen_close : (a : Ends) (x e : Fraction) → IsClose a x e → IsClose (widen_of a) x (e +ᶠ unit)
unfolding widen_of
widen_close a x e c =
    let cl : x -ᶠ e ≤ᶠ ratio a.lo (2 ^ 38) = c.low in
    let ch : ratio a.hi (2 ^ 38) ≤ᶠ x +ᶠ e = c.high in
    let lo : Fraction = ratio a.lo (2 ^ 38) in
    let hi : Fraction = ratio a.hi (2 ^ 38) in
    record {
      low = rw (minus a.lo (pos 1)) (at_most (x ∷ e ∷ lo ∷ []) (lo -ᶠ (x -ᶠ e)) (search not_negative) (search quote depth 30) tt);
      high = rw (sym (ratio-add a.hi (pos 1) (2 ^ 38))) (at_most (x ∷ e ∷ hi ∷ []) ((x +ᶠ e) -ᶠ hi) (search not_negative) (search quote depth 30) tt);
    }

pub clamp_close : (a : Ends) (m : ℤ) (x e : Fraction) → IsClose a x e → IsClose (clamp_of a m) x e
unfolding clamp_of
clamp_close a m x e c = close_inside (larger a.lo (neg_ℤ m)) (smaller a.hi m) c
  where
    larger : (y z : ℤ) → y ≤ℤ int_max y z
    larger y z = omega (arith, ints, clamps)

    smaller : (y z : ℤ) → int_min y z ≤ℤ y
    smaller y z = omega (arith, ints, clamps)
