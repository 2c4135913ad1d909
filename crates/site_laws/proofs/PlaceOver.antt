-- The place over a piece of a leg: what it holds, that it is isotone, near the Earth, and narrow at one millisecond.
use Rattle.std.specs.Prelude.{◌≡◌, ℕ, ℤ, pos, neg_ℤ, ◌*◌, ◌^◌, ◌<◌, ◌≤◌, ◌+ℤ◌, ◌-ℤ◌, ◌*ℤ◌, ◌≤ℤ◌, ◌<ℤ◌, ◌⊎◌, unsigned_abs, refl, List, [], ◌∷◌}
use Rattle.std.proofs.Common.{arith, ap, ap₂, sym, ◌∙◌, subst, inl, inr, ⊎_elim, mul-pos}
use Rattle.std.proofs.lemmas.Int.{ints, clamps}
use Rattle.std.proofs.lemmas.Nat.{pow_pos}
use Rattle.std.specs.Int.{int_min, int_max}
use lib.Dec.{lit≤}
use Rattle.whole_numbers.specs.Rounding.{floor_of, ceil_of}
use Rattle.whole_numbers.proofs.Certificates.{at_most as at_most_whole, not_negative as not_negative_whole}
use Rattle.whole_numbers.proofs.Divisions.{floor_of_low, ceil_of_high, floor_of_mono, ceil_of_mono, at_most-floor_of, ceil_of-at_most, ceil_of-at_most-floor_of}
use Rattle.whole_numbers.proofs.Integers.{≤ℤ_refl, ≤ℤ_total, not_negative_sub, not_negative_product, not_negative_sum, not_negative_natural}
use Rattle.whole_numbers.proofs.Quote.{quote as quote_whole}
use Rattle.fractions.specs.Fraction.{Fraction, ratio, whole, zeroᶠ, ◌+ᶠ◌, ◌-ᶠ◌, ◌*ᶠ◌, ◌≤ᶠ◌, ◌<ᶠ◌}
use Rattle.fractions.specs.Inverse.{inverse, ◌/ᶠ◌}
use Rattle.fractions.proofs.Certificates.{at_most, not_negative}
use Rattle.fractions.proofs.Inverses.{*ᶠ_inverse}
use Rattle.fractions.proofs.Laws.{≤ᶠ_trans, by_order, +ᶠ_mono, *ᶠ_mono_left, *ᶠ_assoc, *ᶠ_comm, *ᶠ_one}
use Rattle.fractions.proofs.Quote.{quote}
use Rattle.fractions.proofs.Ratios.{ratio_mono, ratio-add, ratio-mul, neg-ratio, not_negative_constant, ratio_at_most_out}
use Rattle.fractions.proofs.StrictOrder.{positive_apart, positive_inverse, positive_ratio, *ᶠ_cancel, <ᶠ_at_most}
use Rattle.raim_model.specs.declared.decimal.Dec.{Dec}
use Rattle.raim_model.specs.declared.waypoint.Waypoint.{Waypoint}
use Rattle.raim_model.specs.Decimal.{signed}
use Rattle.raim_model.specs.Ranges.{IsDecimalBetween, IsWaypoint}
use Rattle.raim_model.specs.Receiver.{OnLeg, between, place_on}
use Rattle.fix_interval.specs.Bounds.{hull_of}
use Rattle.fix_interval.specs.Decimals.{from_dec_over_of}
use Rattle.fix_interval.specs.Ends.{Ends, IsInside, IsNarrow}
use Rattle.fix_interval.specs.Lies.{Lies}
use Rattle.fix_interval.specs.Quotients.{outward_of}
use Rattle.fix_interval.proofs.EndBounds.{hull_encloses}
use Rattle.fix_interval.proofs.EndDecimals.{from_dec_over_encloses}
use Rattle.fix_interval.proofs.EndProducts.{rounded_ordered}
use Rattle.fix_interval.proofs.Powers.{ten_positive}
use Rattle.site_laws.specs.Places.{PlaceLies, PlaceInside, at_of, along_of, place_over_of, widest_place, IsNearEarth, PlaceNarrow}
use Rattle.site_laws.proofs.Widths.{rounded_narrow}

-- ---- encloses
-- a quotient times its divisor
pub quotient-times : (y x : Fraction) → zeroᶠ <ᶠ x → (y /ᶠ x) *ᶠ x ≡ y
quotient-times y x p = *ᶠ_assoc y (inverse x) x ∙ ap (λ t. y *ᶠ t) (*ᶠ_comm (inverse x) x ∙ *ᶠ_inverse x (positive_apart p)) ∙ *ᶠ_one y

-- a quotient of ends rounded down is at most the quotient of what they are at most
quotient_low : (m : ℤ) (k : ℕ) (y : Fraction) → 0 < k → ratio m (2 ^ 38) ≤ᶠ y → ratio (floor_of m k) (2 ^ 38) ≤ᶠ y /ᶠ whole (pos k)
quotient_low m k y h l = *ᶠ_cancel (positive_ratio k 1 h) (rw (quotient-times y (whole (pos k)) (positive_ratio k 1 h), ratio-mul (floor_of m k) (pos k) (2 ^ 38) 1 (pow_pos 38) (lit≤ tt)) (≤ᶠ_trans (ratio_mono (2 ^ 38) (floor_of_low m k h)) l))

quotient_high : (m : ℤ) (k : ℕ) (y : Fraction) → 0 < k → y ≤ᶠ ratio m (2 ^ 38) → y /ᶠ whole (pos k) ≤ᶠ ratio (ceil_of m k) (2 ^ 38)
quotient_high m k y h l = *ᶠ_cancel (positive_ratio k 1 h) (rw (quotient-times y (whole (pos k)) (positive_ratio k 1 h), ratio-mul (ceil_of m k) (pos k) (2 ^ 38) 1 (pow_pos 38) (lit≤ tt)) (≤ᶠ_trans l (ratio_mono (2 ^ 38) (ceil_of_high m k h))))

-- the sum of two ends, each times its weight
weighed : (m n p q : ℤ) → ratio ((m *ℤ p) +ℤ (n *ℤ q)) (2 ^ 38) ≡ ratio m (2 ^ 38) *ᶠ whole p +ᶠ ratio n (2 ^ 38) *ᶠ whole q
weighed m n p q = sym (ap₂ (λ s t. s +ᶠ t) (ratio-mul m p (2 ^ 38) 1 (pow_pos 38) (lit≤ tt)) (ratio-mul n q (2 ^ 38) 1 (pow_pos 38) (lit≤ tt)) ∙ ratio-add (m *ℤ p) (n *ℤ q) (2 ^ 38))

-- the value at t lies in the ends at t
at_encloses : (T U t : ℤ) (a b : Ends) (x y : Fraction) → T ≤ℤ t → t <ℤ U → Lies a 38 x → Lies b 38 y → Lies (at_of T U t a b) 38 (between T U t x y)
unfolding at_of
at_encloses T U t a b x y h k l m =
    let some : 0 < unsigned_abs (U -ℤ T) = omega (arith, ints) in
    let e : pos (unsigned_abs (U -ℤ T)) ≡ U -ℤ T = omega (arith, ints) in
    let p : zeroᶠ ≤ᶠ whole (U -ℤ t) = not_negative_constant (U -ℤ t) 1 (omega (arith, ints)) in
    let q : zeroᶠ ≤ᶠ whole (t -ℤ T) = not_negative_constant (t -ℤ T) 1 (omega (arith, ints)) in
    subst (λ d. Lies (at_of T U t a b) 38 ((x *ᶠ whole (U -ℤ t) +ᶠ y *ᶠ whole (t -ℤ T)) /ᶠ whole d)) e record {
      low = quotient_low _ (unsigned_abs (U -ℤ T)) _ some (rw (weighed a.lo b.lo (U -ℤ t) (t -ℤ T)) (+ᶠ_mono (*ᶠ_mono_left p l.low) (*ᶠ_mono_left q m.low)));
      high = quotient_high _ (unsigned_abs (U -ℤ T)) _ some (rw (weighed a.hi b.hi (U -ℤ t) (t -ℤ T)) (+ᶠ_mono (*ᶠ_mono_left p l.high) (*ᶠ_mono_left q m.high)));
    }

whole-sub : (m n : ℤ) → whole (m -ℤ n) ≡ whole m -ᶠ whole n
whole-sub m n = sym (ap (λ t. whole m +ᶠ t) (neg-ratio n 1) ∙ ratio-add m (neg_ℤ n) 1)

-- the value runs from that at T to that at U
rises : (T U s t : ℤ) (x y : Fraction) → T <ℤ U → x ≤ᶠ y → s ≤ℤ t → between T U s x y ≤ᶠ between T U t x y
rises T U s t x y some h k =
    let e : pos (unsigned_abs (U -ℤ T)) ≡ U -ℤ T = omega (arith, ints) in
    let p : zeroᶠ <ᶠ whole (U -ℤ T) = subst (λ d. zeroᶠ <ᶠ whole d) e (positive_ratio (unsigned_abs (U -ℤ T)) 1 (omega (arith, ints))) in
    let o : whole s ≤ᶠ whole t = ratio_mono 1 k in
    *ᶠ_mono_left (<ᶠ_at_most (positive_inverse _ p)) (rw (whole-sub U s, whole-sub U t, whole-sub s T, whole-sub t T) (at_most (x ∷ y ∷ whole s ∷ whole t ∷ whole T ∷ whole U ∷ []) ((y -ᶠ x) *ᶠ (whole t -ᶠ whole s)) (search not_negative) (search quote depth 20) tt))

falls : (T U s t : ℤ) (x y : Fraction) → T <ℤ U → y ≤ᶠ x → s ≤ℤ t → between T U t x y ≤ᶠ between T U s x y
falls T U s t x y some h k =
    let e : pos (unsigned_abs (U -ℤ T)) ≡ U -ℤ T = omega (arith, ints) in
    let p : zeroᶠ <ᶠ whole (U -ℤ T) = subst (λ d. zeroᶠ <ᶠ whole d) e (positive_ratio (unsigned_abs (U -ℤ T)) 1 (omega (arith, ints))) in
    let o : whole s ≤ᶠ whole t = ratio_mono 1 k in
    *ᶠ_mono_left (<ᶠ_at_most (positive_inverse _ p)) (rw (whole-sub U s, whole-sub U t, whole-sub s T, whole-sub t T) (at_most (x ∷ y ∷ whole s ∷ whole t ∷ whole T ∷ whole U ∷ []) ((x -ᶠ y) *ᶠ (whole t -ᶠ whole s)) (search not_negative) (search quote depth 20) tt))

-- the value at each millisecond of a piece lies in the hull
along_encloses : (T U first last t : ℤ) (a b : Ends) (x y : Fraction) → T ≤ℤ first → first ≤ℤ t → t ≤ℤ last → last <ℤ U → Lies a 38 x → Lies b 38 y
    → Lies (along_of T U first last a b) 38 (between T U t x y)
unfolding along_of
along_encloses T U first last t a b x y h i j k l m =
    let some : T <ℤ U = omega (arith, ints) in
    let early : first <ℤ U = omega (arith, ints) in
    let late : T ≤ℤ last = omega (arith, ints) in
    let f = hull_encloses refl 38 _ (inl (at_encloses T U first a b x y h early l m)) in
    let g = hull_encloses refl 38 _ (inr (at_encloses T U last a b x y late k l m)) in
    by_order x y
    (λ o. record { low = ≤ᶠ_trans f.low (rises T U first t x y some o i); high = ≤ᶠ_trans (rises T U t last x y some o j) g.high })
    (λ o. record { low = ≤ᶠ_trans g.low (falls T U t last x y some o j); high = ≤ᶠ_trans (falls T U first t x y some o i) f.high })

pub place_over_encloses : {route : List Waypoint} {t : ℤ} (l : OnLeg route t) (first last : ℤ) → l.start.at ≤ℤ first → first ≤ℤ t → t ≤ℤ last → last <ℤ l.stop.at
    → PlaceLies (place_over_of l.start l.stop first last) (place_on l)
unfolding place_over_of
place_over_encloses {route} {t} l first last h i j k = record {
  lat = along_encloses l.start.at l.stop.at first last t _ _ _ _ h i j k (from_dec_over_encloses l.start.lat 360 refl (lit≤ tt)) (from_dec_over_encloses l.stop.lat 360 refl (lit≤ tt));
  lon = along_encloses l.start.at l.stop.at first last t _ _ _ _ h i j k (from_dec_over_encloses l.start.lon 360 refl (lit≤ tt)) (from_dec_over_encloses l.stop.lon 360 refl (lit≤ tt));
  height = along_encloses l.start.at l.stop.at first last t _ _ _ _ h i j k (from_dec_over_encloses l.start.height 1000000 refl (lit≤ tt)) (from_dec_over_encloses l.stop.height 1000000 refl (lit≤ tt));
}

-- ---- isotone
-- a decimal over k is an interval
dec_ordered : (d : Dec) (k : ℕ) → 0 < k → (from_dec_over_of d k).lo ≤ℤ (from_dec_over_of d k).hi
unfolding from_dec_over_of outward_of
dec_ordered d k h = rounded_ordered _ _ (10 ^ d.places * k) (mul-pos (ten_positive d.places) h) (≤ℤ_refl _)

-- the line runs from its number at f to that at l
line_low : (T U f l t a b : ℤ) → f ≤ℤ t → t ≤ℤ l → (((a *ℤ (U -ℤ f)) +ℤ (b *ℤ (f -ℤ T))) ≤ℤ ((a *ℤ (U -ℤ t)) +ℤ (b *ℤ (t -ℤ T)))) ⊎ (((a *ℤ (U -ℤ l)) +ℤ (b *ℤ (l -ℤ T))) ≤ℤ ((a *ℤ (U -ℤ t)) +ℤ (b *ℤ (t -ℤ T))))
line_low T U f l t a b h k = ⊎_elim
    (λ o. inl (at_most_whole (T ∷ U ∷ f ∷ t ∷ a ∷ b ∷ []) ((b -ℤ a) *ℤ (t -ℤ f)) (not_negative_product _ _ (not_negative_sub _ _ o) (not_negative_sub _ _ h)) (search quote_whole depth 20) tt))
    (λ o. inr (at_most_whole (T ∷ U ∷ l ∷ t ∷ a ∷ b ∷ []) ((a -ℤ b) *ℤ (l -ℤ t)) (not_negative_product _ _ (not_negative_sub _ _ o) (not_negative_sub _ _ k)) (search quote_whole depth 20) tt))
    (≤ℤ_total a b)

line_high : (T U f l t a b : ℤ) → f ≤ℤ t → t ≤ℤ l → (((a *ℤ (U -ℤ t)) +ℤ (b *ℤ (t -ℤ T))) ≤ℤ ((a *ℤ (U -ℤ f)) +ℤ (b *ℤ (f -ℤ T)))) ⊎ (((a *ℤ (U -ℤ t)) +ℤ (b *ℤ (t -ℤ T))) ≤ℤ ((a *ℤ (U -ℤ l)) +ℤ (b *ℤ (l -ℤ T))))
line_high T U f l t a b h k = ⊎_elim
    (λ o. inr (at_most_whole (T ∷ U ∷ l ∷ t ∷ a ∷ b ∷ []) ((b -ℤ a) *ℤ (l -ℤ t)) (not_negative_product _ _ (not_negative_sub _ _ o) (not_negative_sub _ _ k)) (search quote_whole depth 20) tt))
    (λ o. inl (at_most_whole (T ∷ U ∷ f ∷ t ∷ a ∷ b ∷ []) ((a -ℤ b) *ℤ (t -ℤ f)) (not_negative_product _ _ (not_negative_sub _ _ o) (not_negative_sub _ _ h)) (search quote_whole depth 20) tt))
    (≤ℤ_total a b)

-- the ends at t are an interval
at_ordered : (T U t : ℤ) (a b : Ends) → T ≤ℤ t → t <ℤ U → a.lo ≤ℤ a.hi → b.lo ≤ℤ b.hi → (at_of T U t a b).lo ≤ℤ (at_of T U t a b).hi
unfolding at_of
at_ordered T U t a b h k l m = rounded_ordered _ _ (unsigned_abs (U -ℤ T)) (omega (arith, ints)) (weights a.lo a.hi b.lo b.hi (U -ℤ t) (t -ℤ T) (omega (arith, ints)) (omega (arith, ints)) l m)
  where
    weights : (al ah bl bh p q : ℤ) → pos 0 ≤ℤ p → pos 0 ≤ℤ q → al ≤ℤ ah → bl ≤ℤ bh → ((al *ℤ p) +ℤ (bl *ℤ q)) ≤ℤ ((ah *ℤ p) +ℤ (bh *ℤ q))
    weights al ah bl bh p q n m l h = at_most_whole (al ∷ ah ∷ bl ∷ bh ∷ p ∷ q ∷ []) (((ah -ℤ al) *ℤ p) +ℤ ((bh -ℤ bl) *ℤ q)) (search not_negative_whole) (search quote_whole depth 20) tt

-- the ends at t lie inside the hull of those at f and at l
at_inside_along : (T U f l t : ℤ) (a b : Ends) → T <ℤ U → f ≤ℤ t → t ≤ℤ l → ((along_of T U f l a b).lo ≤ℤ (at_of T U t a b).lo) × ((at_of T U t a b).hi ≤ℤ (along_of T U f l a b).hi)
unfolding along_of at_of hull_of
at_inside_along T U f l t a b s h k =
    let n : 0 < unsigned_abs (U -ℤ T) = omega (arith, ints) in (
      ⊎_elim (λ i. left _ _ _ (floor_of_mono _ _ _ n i)) (λ i. right _ _ _ (floor_of_mono _ _ _ n i)) (line_low T U f l t a.lo b.lo h k),
      ⊎_elim (λ i. left' _ _ _ (ceil_of_mono _ _ _ n i)) (λ i. right' _ _ _ (ceil_of_mono _ _ _ n i)) (line_high T U f l t a.hi b.hi h k),
    )
  where
    left : (x y z : ℤ) → x ≤ℤ z → int_min x y ≤ℤ z
    left x y z h = omega (arith, ints, clamps)

    right : (x y z : ℤ) → y ≤ℤ z → int_min x y ≤ℤ z
    right x y z h = omega (arith, ints, clamps)

    left' : (x y z : ℤ) → z ≤ℤ x → z ≤ℤ int_max x y
    left' x y z h = omega (arith, ints, clamps)

    right' : (x y z : ℤ) → z ≤ℤ y → z ≤ℤ int_max x y
    right' x y z h = omega (arith, ints, clamps)

hulls : (x y c : Ends) → (c.lo ≤ℤ x.lo) × (x.hi ≤ℤ c.hi) → (c.lo ≤ℤ y.lo) × (y.hi ≤ℤ c.hi) → x.lo ≤ℤ x.hi → IsInside (hull_of x y) c
unfolding hull_of
hulls x y c p q o = record { low = omega (arith, ints, clamps, p.0, q.0); ordered = omega (arith, ints, clamps); high = omega (arith, ints, clamps, p.1, q.1) }

along_isotone : (T U first last f l : ℤ) (a b : Ends) → T ≤ℤ f → f ≤ℤ first → first ≤ℤ last → last ≤ℤ l → l <ℤ U → a.lo ≤ℤ a.hi → b.lo ≤ℤ b.hi → IsInside (along_of T U first last a b) (along_of T U f l a b)
unfolding along_of
along_isotone T U first last f l a b h i o j k la lb =
    let s : T <ℤ U = omega (arith, ints) in
    let p = at_inside_along T U f l first a b s i (omega (arith, ints)) in
    let q = at_inside_along T U f l last a b s (omega (arith, ints)) j in
    hulls _ _ _ p q (at_ordered T U first a b (omega (arith, ints)) (omega (arith, ints)) la lb)

pub place_over_isotone : (start stop : Waypoint) (first last f l : ℤ) → start.at ≤ℤ f → f ≤ℤ first → first ≤ℤ last → last ≤ℤ l → l <ℤ stop.at
    → PlaceInside (place_over_of start stop first last) (place_over_of start stop f l)
unfolding place_over_of
place_over_isotone start stop first last f l h i o j k = record {
  lat = along_isotone start.at stop.at first last f l _ _ h i o j k (dec_ordered start.lat 360 (lit≤ tt)) (dec_ordered stop.lat 360 (lit≤ tt));
  lon = along_isotone start.at stop.at first last f l _ _ h i o j k (dec_ordered start.lon 360 (lit≤ tt)) (dec_ordered stop.lon 360 (lit≤ tt));
  height = along_isotone start.at stop.at first last f l _ _ h i o j k (dec_ordered start.height 1000000 (lit≤ tt)) (dec_ordered stop.height 1000000 (lit≤ tt));
}

-- ---- near the Earth
-- a decimal from -v to w, over k, lies from -m to n units
dec_inside : (d : Dec) (v w k m n : ℕ) → 0 < k → v * 2 ^ 38 ≤ m * k → w * 2 ^ 38 ≤ n * k → IsDecimalBetween (whole (neg_ℤ (pos v))) (whole (pos w)) d
    → IsInside (from_dec_over_of d k) record { lo = neg_ℤ (pos m); hi = pos n }
unfolding from_dec_over_of outward_of
dec_inside d v w k m n p h j r =
    let z : ℤ = signed d.neg d.digits in
    let e : 0 < 10 ^ d.places = ten_positive d.places in
    let c : 0 < 10 ^ d.places * k = mul-pos e p in
    let l = ratio_at_most_out (neg_ℤ (pos v)) z 1 (10 ^ d.places) (lit≤ tt) e r.at_least in
    let u = ratio_at_most_out z (pos w) (10 ^ d.places) 1 e (lit≤ tt) r.at_most in
    record {
      low = (at_most-floor_of (neg_ℤ (pos m)) (z *ℤ pos (2 ^ 38)) (10 ^ d.places * k) c).1 (down z (10 ^ d.places) l);
      ordered = dec_ordered' z (10 ^ d.places * k) c;
      high = (ceil_of-at_most (z *ℤ pos (2 ^ 38)) (pos n) (10 ^ d.places * k) c).1 (up z (10 ^ d.places) u);
    }
  where
    dec_ordered' : (z : ℤ) (c : ℕ) → 0 < c → floor_of (z *ℤ pos (2 ^ 38)) c ≤ℤ ceil_of (z *ℤ pos (2 ^ 38)) c
    dec_ordered' z c h = rounded_ordered _ _ c h (≤ℤ_refl _)

    naturals : {x y : ℕ} → x ≤ y → pos x ≤ℤ pos y
    naturals h = omega (arith, ints)

    down : (z : ℤ) (t : ℕ) → (neg_ℤ (pos v) *ℤ pos t) ≤ℤ (z *ℤ pos 1) → (neg_ℤ (pos m) *ℤ pos (t * k)) ≤ℤ (z *ℤ pos (2 ^ 38))
    down z t i = at_most_whole (z ∷ pos t ∷ pos k ∷ pos v ∷ pos m ∷ []) ((((z *ℤ pos 1) -ℤ (neg_ℤ (pos v) *ℤ pos t)) *ℤ pos (2 ^ 38)) +ℤ ((pos (m * k) -ℤ pos (v * 2 ^ 38)) *ℤ pos t)) (not_negative_sum _ _ (not_negative_product _ _ (not_negative_sub _ _ i) (not_negative_natural (2 ^ 38))) (not_negative_product _ _ (not_negative_sub _ _ (naturals h)) (not_negative_natural t))) (search quote_whole depth 20) tt

    up : (z : ℤ) (t : ℕ) → (z *ℤ pos 1) ≤ℤ (pos w *ℤ pos t) → (z *ℤ pos (2 ^ 38)) ≤ℤ (pos n *ℤ pos (t * k))
    up z t i = at_most_whole (z ∷ pos t ∷ pos k ∷ pos w ∷ pos n ∷ []) ((((pos w *ℤ pos t) -ℤ (z *ℤ pos 1)) *ℤ pos (2 ^ 38)) +ℤ ((pos (n * k) -ℤ pos (w * 2 ^ 38)) *ℤ pos t)) (not_negative_sum _ _ (not_negative_product _ _ (not_negative_sub _ _ i) (not_negative_natural (2 ^ 38))) (not_negative_product _ _ (not_negative_sub _ _ (naturals j)) (not_negative_natural t))) (search quote_whole depth 20) tt

-- the ends on the line between two intervals inside c are inside c
at_inside : (T U t : ℤ) (a b c : Ends) → T ≤ℤ t → t <ℤ U → IsInside a c → IsInside b c → IsInside (at_of T U t a b) c
unfolding at_of
at_inside T U t a b c h k p q =
    let n : 0 < unsigned_abs (U -ℤ T) = omega (arith, ints) in
    let e : U -ℤ T ≡ pos (unsigned_abs (U -ℤ T)) = omega (arith, ints) in
    record {
      low = (at_most-floor_of c.lo _ (unsigned_abs (U -ℤ T)) n).1 (subst (λ d. (c.lo *ℤ d) ≤ℤ ((a.lo *ℤ (U -ℤ t)) +ℤ (b.lo *ℤ (t -ℤ T)))) e (down c.lo a.lo b.lo p.low q.low));
      ordered = at_ordered T U t a b h k p.ordered q.ordered;
      high = (ceil_of-at_most _ c.hi (unsigned_abs (U -ℤ T)) n).1 (subst (λ d. ((a.hi *ℤ (U -ℤ t)) +ℤ (b.hi *ℤ (t -ℤ T))) ≤ℤ (c.hi *ℤ d)) e (up c.hi a.hi b.hi p.high q.high));
    }
  where
    after : pos 0 ≤ℤ (t -ℤ T)
    after = omega (arith, ints)

    before : pos 0 ≤ℤ (U -ℤ t)
    before = omega (arith, ints)

    down : (c x y : ℤ) → c ≤ℤ x → c ≤ℤ y → (c *ℤ (U -ℤ T)) ≤ℤ ((x *ℤ (U -ℤ t)) +ℤ (y *ℤ (t -ℤ T)))
    down c x y i j = at_most_whole (c ∷ x ∷ y ∷ T ∷ U ∷ t ∷ []) (((x -ℤ c) *ℤ (U -ℤ t)) +ℤ ((y -ℤ c) *ℤ (t -ℤ T))) (not_negative_sum _ _ (not_negative_product _ _ (not_negative_sub _ _ i) before) (not_negative_product _ _ (not_negative_sub _ _ j) after)) (search quote_whole depth 20) tt

    up : (c x y : ℤ) → x ≤ℤ c → y ≤ℤ c → ((x *ℤ (U -ℤ t)) +ℤ (y *ℤ (t -ℤ T))) ≤ℤ (c *ℤ (U -ℤ T))
    up c x y i j = at_most_whole (c ∷ x ∷ y ∷ T ∷ U ∷ t ∷ []) (((c -ℤ x) *ℤ (U -ℤ t)) +ℤ ((c -ℤ y) *ℤ (t -ℤ T))) (not_negative_sum _ _ (not_negative_product _ _ (not_negative_sub _ _ i) before) (not_negative_product _ _ (not_negative_sub _ _ j) after)) (search quote_whole depth 20) tt

along_inside : (T U first last : ℤ) (a b c : Ends) → T ≤ℤ first → first ≤ℤ last → last <ℤ U → IsInside a c → IsInside b c → IsInside (along_of T U first last a b) c
unfolding along_of hull_of
along_inside T U first last a b c h i j p q =
    let f = at_inside T U first a b c h (omega (arith, ints)) p q in
    let l = at_inside T U last a b c (omega (arith, ints)) j p q in
    record { low = omega (arith, ints, clamps, f.low, l.low); ordered = omega (arith, ints, clamps, f.ordered); high = omega (arith, ints, clamps, f.high, l.high) }

pub latitude_inside : (d : Dec) → IsDecimalBetween (whole (neg_ℤ (pos 90))) (whole (pos 90)) d → IsInside (from_dec_over_of d 360) widest_place.lat
latitude_inside d r = dec_inside d 90 90 360 68719476737 68719476737 (lit≤ tt) (lit≤ tt) (lit≤ tt) r

pub longitude_inside : (d : Dec) → IsDecimalBetween (whole (neg_ℤ (pos 360))) (whole (pos 360)) d → IsInside (from_dec_over_of d 360) widest_place.lon
longitude_inside d r = dec_inside d 360 360 360 274877906945 274877906945 (lit≤ tt) (lit≤ tt) (lit≤ tt) r

pub height_inside : (d : Dec) → IsDecimalBetween (whole (neg_ℤ (pos 1000))) (whole (pos 30000)) d → IsInside (from_dec_over_of d 1000000) widest_place.height
height_inside d r = dec_inside d 1000 30000 1000000 274877908 8246337210 (lit≤ tt) (lit≤ tt) (lit≤ tt) r

pub place_over_near_earth : (start stop : Waypoint) (first last : ℤ) → IsWaypoint start → IsWaypoint stop → start.at ≤ℤ first → first ≤ℤ last → last <ℤ stop.at → IsNearEarth (place_over_of start stop first last)
unfolding place_over_of
place_over_near_earth start stop first last p q h i j = record {
  lat = along_inside start.at stop.at first last _ _ _ h i j (latitude_inside start.lat p.latitude) (latitude_inside stop.lat q.latitude);
  lon = along_inside start.at stop.at first last _ _ _ h i j (longitude_inside start.lon p.longitude) (longitude_inside stop.lon q.longitude);
  height = along_inside start.at stop.at first last _ _ _ h i j (height_inside start.height p.height) (height_inside stop.height q.height);
}

-- ---- narrow
dec_narrow : (d : Dec) (k : ℕ) → 0 < k → ((from_dec_over_of d k).hi -ℤ (from_dec_over_of d k).lo) ≤ℤ pos 1
unfolding from_dec_over_of outward_of
dec_narrow d k h = next _ _ (ceil_of-at_most-floor_of _ (10 ^ d.places * k) (mul-pos (ten_positive d.places) h))
  where
    next : (c f : ℤ) → c ≤ℤ (f +ℤ pos 1) → (c -ℤ f) ≤ℤ pos 1
    next c f h = omega (arith, ints)

along_narrow : (T U t : ℤ) (a b : Ends) → T ≤ℤ t → t <ℤ U → (a.hi -ℤ a.lo) ≤ℤ pos 1 → (b.hi -ℤ b.lo) ≤ℤ pos 1 → ((along_of T U t t a b).hi -ℤ (along_of T U t t a b).lo) ≤ℤ pos 2
unfolding along_of at_of hull_of
along_narrow T U t a b h k n m =
    let s : 0 < unsigned_abs (U -ℤ T) = omega (arith, ints) in
    let e : U -ℤ T ≡ pos 1 *ℤ pos (unsigned_abs (U -ℤ T)) = omega (arith, ints) in
    let lo : ℤ = (a.lo *ℤ (U -ℤ t)) +ℤ (b.lo *ℤ (t -ℤ T)) in
    let hi : ℤ = (a.hi *ℤ (U -ℤ t)) +ℤ (b.hi *ℤ (t -ℤ T)) in
    once (ceil_of hi (unsigned_abs (U -ℤ T))) (floor_of lo (unsigned_abs (U -ℤ T))) (rounded_narrow lo hi (pos 1) (unsigned_abs (U -ℤ T)) s (subst (λ d. (((a.hi *ℤ (U -ℤ t)) +ℤ (b.hi *ℤ (t -ℤ T))) -ℤ ((a.lo *ℤ (U -ℤ t)) +ℤ (b.lo *ℤ (t -ℤ T)))) ≤ℤ d) e
    (weights a.lo a.hi b.lo b.hi n m)))
  where
    after : pos 0 ≤ℤ (t -ℤ T)
    after = omega (arith, ints)

    before : pos 0 ≤ℤ (U -ℤ t)
    before = omega (arith, ints)

    once : (c f : ℤ) → (c -ℤ f) ≤ℤ pos 2 → (int_max c c -ℤ int_min f f) ≤ℤ pos 2
    once c f h = omega (arith, ints, clamps)

    weights : (al ah bl bh : ℤ) → (ah -ℤ al) ≤ℤ pos 1 → (bh -ℤ bl) ≤ℤ pos 1 → (((ah *ℤ (U -ℤ t)) +ℤ (bh *ℤ (t -ℤ T))) -ℤ ((al *ℤ (U -ℤ t)) +ℤ (bl *ℤ (t -ℤ T)))) ≤ℤ (U -ℤ T)
    weights al ah bl bh i j = at_most_whole (al ∷ ah ∷ bl ∷ bh ∷ T ∷ U ∷ t ∷ []) (((pos 1 -ℤ (ah -ℤ al)) *ℤ (U -ℤ t)) +ℤ ((pos 1 -ℤ (bh -ℤ bl)) *ℤ (t -ℤ T))) (not_negative_sum _ _ (not_negative_product _ _ (not_negative_sub _ _ i) before) (not_negative_product _ _ (not_negative_sub _ _ j) after)) (search quote_whole depth 20) tt

pub place_over_narrow : (start stop : Waypoint) (t : ℤ) → start.at ≤ℤ t → t <ℤ stop.at → PlaceNarrow (place_over_of start stop t t) 4
unfolding place_over_of
place_over_narrow start stop t h k = record {
  lat = four (along_narrow start.at stop.at t _ _ h k (dec_narrow start.lat 360 (lit≤ tt)) (dec_narrow stop.lat 360 (lit≤ tt)));
  lon = four (along_narrow start.at stop.at t _ _ h k (dec_narrow start.lon 360 (lit≤ tt)) (dec_narrow stop.lon 360 (lit≤ tt)));
  height = four (along_narrow start.at stop.at t _ _ h k (dec_narrow start.height 1000000 (lit≤ tt)) (dec_narrow stop.height 1000000 (lit≤ tt)));
}
  where
    four : {a : Ends} → (a.hi -ℤ a.lo) ≤ℤ pos 2 → IsNarrow a 4
    four h = record { width = omega (arith, ints) }
