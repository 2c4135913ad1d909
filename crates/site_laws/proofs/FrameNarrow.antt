-- The frame of a narrow place is narrow.
use Rattle.std.specs.Prelude.{◌⊎◌, ◌≡◌, ℕ, ℤ, pos, ◌+◌, ◌*◌, ◌^◌, ◌<◌, ◌≤◌, ◌-◌, ◌+ℤ◌, ◌-ℤ◌, ◌*ℤ◌, ◌≤ℤ◌, ◌<ℤ◌, unsigned_abs, refl, [], ◌∷◌}
use Rattle.std.proofs.Common.{arith, subst, inl, inr, ⊎_elim}
use Rattle.std.proofs.lemmas.Int.{ints}
use native.Mathlib.Decide.{dec_le}
use Rattle.std.proofs.Math.Nat.{mul-le-mul}
use Rattle.std.specs.Int.{int_min, int_max}
use Rattle.whole_numbers.specs.Root.{root_of}
use Rattle.whole_numbers.specs.Rounding.{floor_of, ceil_of}
use Rattle.whole_numbers.proofs.Certificates.{at_most, not_negative}
use Rattle.whole_numbers.proofs.Divisions.{floor_of_high, ceil_of_low}
use Rattle.whole_numbers.proofs.Integers.{<ℤ_trichotomy, not_negative_product, not_negative_sub}
use Rattle.whole_numbers.proofs.Quote.{quote}
use Rattle.whole_numbers.proofs.Roots.{root_of_low, root_of_high}
use Rattle.fix_interval.specs.Ends.{Ends, IsInside, IsNarrow}
use Rattle.fix_interval.specs.Products.{mul_wide_of, mul_of, sqr_of, sqr_wide_of, narrow76_of}
use Rattle.fix_interval.specs.Quotients.{from_ratio_of, outward_of, div_of}
use Rattle.fix_interval.specs.Roots.{sqrt_of}
use Rattle.fix_interval.specs.Sums.{add_of, sub_of}
use Rattle.fix_interval.proofs.EndProducts.{mul_isotone, mul_wide_isotone}
use Rattle.fix_interval.proofs.EndSums.{add_isotone}
use Rattle.fix_interval.proofs.EndQuotients.{floor-not_negative, ceil-not_negative}
use Rattle.fix_interval.proofs.EndSquares.{sqr_isotone}
use Rattle.fix_interval.specs.Ranges.{one_ends, full_ends}
use Rattle.fix_interval.proofs.EndInsides.{inside_trans}
use Rattle.fix_interval.specs.Pairs.{PairEnds, PairInside, full_pair}
use Rattle.fix_interval.specs.Vectors.{VectorNarrow}
use Rattle.trig_laws.specs.SinCos.{sin_cos_of}
use Rattle.trig_laws.proofs.Encloses.{sin_cos_full}
use Rattle.trig_laws.proofs.Narrow.{sin_cos_narrow}
use Rattle.site_laws.specs.Places.{PlaceEnds, IsNearEarth, widest_place, PlaceNarrow}
use Rattle.site_laws.specs.Frames.{FrameEnds, eccentricity_ends, axis_ends, one_wide, bulge_of, radius_of, axis_distance_of, position_of, up_of, frame_at, frame_of, bulge_ends, radius_ends, radicand_of}
use Rattle.site_laws.specs.Frames.{within}
use Rattle.site_laws.proofs.FrameBounds.{bulge_bounds, radius_bounds, radicand_bounds, rest_self}
use Rattle.site_laws.proofs.Widths.{IsSpan, add_narrow, sub_narrow, mul_wide_narrow, mul_narrow, sqr_narrow}

-- ---- the ellipsoid
eccentricity_narrow : IsSpan (pos 1) eccentricity_ends
unfolding from_ratio_of outward_of
eccentricity_narrow = record { width = record { le = tt } }

pub eccentricity_within : IsInside eccentricity_ends (within (pos 1840137160))
unfolding from_ratio_of outward_of
eccentricity_within = record { low = record { le = tt }; ordered = record { le = tt }; high = record { le = tt } }

square_full : IsInside (sqr_of full_ends) full_ends
unfolding sqr_of sqr_wide_of narrow76_of
square_full = record { low = record { le = tt }; ordered = record { le = tt }; high = record { le = tt } }

pub square_within : (a : Ends) → IsInside a full_ends → IsInside (sqr_of a) full_ends
square_within a p = inside_trans (sqr_isotone refl full_ends p) square_full

-- the radicand, where the sine is at most 320 wide
radicand_narrow : (a : Ends) → IsInside a full_ends → IsSpan (pos 320) a → IsSpan (pos 1454405826504) (radicand_of a)
radicand_narrow a p n =
    let one : IsSpan (pos 0) one_wide = record { width = record { le = tt } } in
    let s : IsSpan (pos 641) (sqr_of a) = sqr_narrow (pos (2 ^ 38)) (pos 320) (pos 640) a (record { le = tt }) p n in
    sub_narrow one (mul_wide_narrow (pos 1840137160) (pos (2 ^ 38)) (pos 1) (pos 641) eccentricity_ends (sqr_of a) eccentricity_within (square_within a p) eccentricity_narrow s)

-- roots of numbers from z on that are so far apart are at most three apart
roots_near : (y z : ℤ) → pos 75052050674883646980096 ≤ℤ y → y ≤ℤ z → (z -ℤ y) ≤ℤ pos 1454405826504 → root_of z ≤ root_of y + 3
roots_near y z m o n = elim (dec_le (root_of z) (root_of y + 3)) [ yes k ↦ k | no k ↦ absurd (clash (root_of y) (root_of z) y z m n (root_of_high y) (root_of_low z (omega (arith, ints))) (omega arith)) ]
  where
    big : (r : ℕ) (y : ℤ) → pos 75052050674883646980096 ≤ℤ y → y <ℤ pos ((r + 1) * (r + 1)) → 273956293365 ≤ r
    big r y m h = square_order' r (omega (arith, ints))
      where
        square_order' : (r : ℕ) → 75052050674883646980096 < (r + 1) * (r + 1) → 273956293365 ≤ r
        square_order' r h = elim (dec_le 273956293365 r) [ yes k ↦ k | no k ↦ absurd (small r (omega arith) h) ]
          where
            small : (r : ℕ) → r + 1 ≤ 273956293365 → 75052050674883646980096 < (r + 1) * (r + 1) → ⊥
            small r k h = omega (arith, mul-le-mul k k)

    clash : (r s : ℕ) (y z : ℤ) → pos 75052050674883646980096 ≤ℤ y → (z -ℤ y) ≤ℤ pos 1454405826504 → y <ℤ pos ((r + 1) * (r + 1)) → pos (s * s) ≤ℤ z → r + 4 ≤ s → ⊥
    clash r s y z m n h l k = let b : 273956293365 ≤ r = big r y m h in omega (arith, ints, mul-le-mul k k)

-- the bulge
bulge_narrow : (a : Ends) → IsInside a full_ends → IsSpan (pos 320) a → IsSpan (pos 6) (bulge_of a)
unfolding bulge_of sqrt_of
bulge_narrow a p n =
    let b = radicand_bounds a p in
    let m = roots_near (radicand_of a).lo (radicand_of a).hi b.low b.ordered (radicand_narrow a p n).width in
    record { width = goes (root_of (radicand_of a).lo) (root_of (radicand_of a).hi) m }
  where
    goes : (r s : ℕ) → s ≤ r + 3 → (pos (s + 2) -ℤ pos (r - 1)) ≤ℤ pos 6
    goes r s h = omega (arith, ints)

-- quotients of numerators a unit apart by divisors six units apart, where they are not negative
quotients_near : (y z c f l h : ℤ) → z ≤ℤ (y +ℤ pos (2 ^ 38)) → pos 273956293365 ≤ℤ l → h ≤ℤ (l +ℤ pos 6) → pos 0 ≤ℤ f → f ≤ℤ pos 1759106901149
    → (c *ℤ l) <ℤ (z +ℤ l) → y <ℤ (f *ℤ h +ℤ h) → (c -ℤ f) ≤ℤ pos 42
quotients_near y z c f l h d b w o m p q =
    let k : (f *ℤ h) ≤ℤ (f *ℤ l +ℤ pos 6 *ℤ f) = at_most (f ∷ l ∷ h ∷ []) (f *ℤ ((l +ℤ pos 6) -ℤ h)) (search not_negative) (search quote depth 20) tt in
    ⊎_elim (λ i. i) (λ i. absurd (clash (f *ℤ l) (f *ℤ h) (c *ℤ l) k (more i) p q)) (near c f)
  where
    near : (c f : ℤ) → ((c -ℤ f) ≤ℤ pos 42) ⊎ ((f +ℤ pos 43) ≤ℤ c)
    near c f = elim (<ℤ_trichotomy (pos 42) (c -ℤ f)) [ inl i ↦ inr (omega (arith, ints)) | inr i ↦ inl (⊎_elim (λ e. omega (arith, ints)) (λ e. omega (arith, ints)) i) ]

    more : (f +ℤ pos 43) ≤ℤ c → (f *ℤ l +ℤ pos 43 *ℤ l) ≤ℤ (c *ℤ l)
    more i =
        let n : pos 0 ≤ℤ l = omega (arith, ints) in
        at_most (f ∷ c ∷ l ∷ []) ((c -ℤ (f +ℤ pos 43)) *ℤ l) (not_negative_product _ _ (not_negative_sub _ _ i) n) (search quote depth 20) tt

    clash : (fl fh cl : ℤ) → fh ≤ℤ (fl +ℤ pos 6 *ℤ f) → (fl +ℤ pos 43 *ℤ l) ≤ℤ cl → cl <ℤ (z +ℤ l) → y <ℤ (fh +ℤ h) → ⊥
    clash fl fh cl i j p q = omega (arith, ints)

-- the same of quotients rounded outward
rounded_near : (y z : ℤ) (l h : ℕ) → pos 0 ≤ℤ y → y ≤ℤ z → z ≤ℤ (y +ℤ pos (2 ^ 38)) → 273956293365 ≤ l → l ≤ h → h ≤ l + 6
    → pos 0 ≤ℤ int_min (floor_of y l) (floor_of y h) → int_min (floor_of y l) (floor_of y h) ≤ℤ pos 1759106901149
    → (int_max (ceil_of z l) (ceil_of z h) -ℤ int_min (floor_of y l) (floor_of y h)) ≤ℤ pos 42
rounded_near y z l h o d n b k w fl fh =
    let pl : 0 < l = omega arith in
    let ph : 0 < h = omega arith in
    let oz : pos 0 ≤ℤ z = omega (arith, ints) in
    let f = floor-not_negative y l h pl k o in
    let c = ceil-not_negative z l h pl k oz in
    let fl' : pos 0 ≤ℤ floor_of y h = subst (λ t. pos 0 ≤ℤ t) f fl in
    let fh' : floor_of y h ≤ℤ pos 1759106901149 = subst (λ t. t ≤ℤ pos 1759106901149) f fh in
    rw (f, c) (quotients_near y z (ceil_of z l) (floor_of y h) (pos l) (pos h) n (omega (arith, ints)) (omega (arith, ints)) fl' fh' (ceil_of_low z l pl) (floor_of_high y h ph))

-- the radius of curvature
quotient_narrow : (a v : Ends) → pos 0 ≤ℤ a.lo → a.lo ≤ℤ a.hi → a.hi ≤ℤ (a.lo +ℤ pos 1) → IsInside v bulge_ends → IsSpan (pos 6) v → IsInside (div_of a v) radius_ends → IsSpan (pos 42) (div_of a v)
unfolding div_of
quotient_narrow a v o d w b n r = record { width = rounded_near (a.lo *ℤ pos (2 ^ 38)) (a.hi *ℤ pos (2 ^ 38)) (unsigned_abs v.lo) (unsigned_abs v.hi) (omega (arith, ints)) (omega (arith, ints)) (omega (arith, ints)) (omega (arith, ints)) (omega (arith, ints)) (omega (arith, ints, n.width)) (at_least r.low) (at_most' r.ordered r.high) }
  where
    at_least : {z : ℤ} → pos 1753208948749 ≤ℤ z → pos 0 ≤ℤ z
    at_least h = omega (arith, ints)

    at_most' : {y z : ℤ} → y ≤ℤ z → z ≤ℤ pos 1759106901149 → y ≤ℤ pos 1759106901149
    at_most' h k = omega (arith, ints)

axis_near : (pos 0 ≤ℤ axis_ends.lo) × (axis_ends.lo ≤ℤ axis_ends.hi) × (axis_ends.hi ≤ℤ (axis_ends.lo +ℤ pos 1))
unfolding from_ratio_of outward_of
axis_near = (record { le = tt }, record { le = tt }, record { le = tt })

radius_narrow : (a : Ends) → IsInside a full_ends → IsSpan (pos 320) a → IsSpan (pos 42) (radius_of a)
unfolding radius_of
radius_narrow a p n = quotient_narrow axis_ends (bulge_of a) axis_near.0 axis_near.1 axis_near.2 (bulge_bounds a p) (bulge_narrow a p n) (radius_bounds a p)

-- ---- the frame
record IsPairNarrow (w : ℤ) (a : PairEnds) : Type 0 where
  sine : IsSpan w a.sine
  cosine : IsSpan w a.cosine

widest_height : IsInside (add_of radius_ends widest_place.height) (within (pos 1767353238359))
unfolding add_of
widest_height = record { low = record { le = tt }; ordered = record { le = tt }; high = record { le = tt } }

widest_lower : IsInside (add_of (mul_of radius_ends (sub_of one_ends eccentricity_ends)) widest_place.height) (within (pos 1767353238359))
unfolding add_of sub_of mul_of mul_wide_of narrow76_of from_ratio_of outward_of
widest_lower = record { low = record { le = tt }; ordered = record { le = tt }; high = record { le = tt } }

pub widest_distance : IsInside (mul_of (within (pos 1767353238359)) full_ends) (within (pos 1767353238359))
unfolding mul_of mul_wide_of narrow76_of
widest_distance = record { low = record { le = tt }; ordered = record { le = tt }; high = record { le = tt } }

pub radius_within : (a : Ends) → IsInside a full_ends → IsInside (radius_of a) (within (pos 1767353238359))
radius_within a p = inside_trans (radius_bounds a p) (record { low = record { le = tt }; ordered = record { le = tt }; high = record { le = tt } })

-- sums of the radius, or what is left of it by 1 - e^2, and the height
pub heights_within : (h lat : Ends) → IsInside lat full_ends → IsInside h widest_place.height → IsInside (add_of (radius_of lat) h) (within (pos 1767353238359))
heights_within h lat p q = inside_trans (add_isotone refl _ _ (radius_bounds lat p) q) widest_height

pub rest_within : IsInside (sub_of one_ends eccentricity_ends) full_ends
unfolding sub_of from_ratio_of outward_of
rest_within = record { low = record { le = tt }; ordered = record { le = tt }; high = record { le = tt } }

rest_narrow : IsSpan (pos 1) (sub_of one_ends eccentricity_ends)
unfolding sub_of from_ratio_of outward_of
rest_narrow = record { width = record { le = tt } }

pub lower_within : (h lat : Ends) → IsInside lat full_ends → IsInside h widest_place.height → IsInside (add_of (mul_of (radius_of lat) (sub_of one_ends eccentricity_ends)) h) (within (pos 1767353238359))
lower_within h lat p q = inside_trans (add_isotone refl _ _ (mul_isotone refl _ _ (radius_bounds lat p) rest_self) q) widest_lower

pub distance_within : (h : Ends) (lat : PairEnds) → PairInside lat full_pair → IsInside h widest_place.height → IsInside (axis_distance_of h lat) (within (pos 1767353238359))
unfolding axis_distance_of
distance_within h lat p q = inside_trans (mul_isotone refl _ _ (heights_within h lat.sine p.sine q) p.cosine) widest_distance

-- the position and up, where the place is narrow
frame_at_narrow : (h : Ends) (lat lon : PairEnds) → PairInside lat full_pair → PairInside lon full_pair → IsInside h widest_place.height
    → IsSpan (pos 4) h → IsPairNarrow (pos 320) lat → IsPairNarrow (pos 320) lon
    → VectorNarrow (position_of h lat lon) (2 ^ 13) × VectorNarrow (up_of lat lon) (2 ^ 10)
unfolding position_of axis_distance_of up_of
frame_at_narrow h lat lon p q r n m k =
    let R : IsSpan (pos 42) (radius_of lat.sine) = radius_narrow lat.sine p.sine m.sine in
    let D : IsSpan (pos 2105) (axis_distance_of h lat) = mul_narrow (pos 1767353238359) (pos (2 ^ 38)) (pos 46) (pos 320) (pos 2104) _ _ (record { le = tt }) (heights_within h lat.sine p.sine r) p.cosine (add_narrow R n) m.cosine in
    let Z : IsSpan (pos 50) (mul_of (radius_of lat.sine) (sub_of one_ends eccentricity_ends)) = mul_narrow (pos 1767353238359) (pos (2 ^ 38)) (pos 42) (pos 1) (pos 49) _ _ (record { le = tt }) (radius_within lat.sine p.sine) rest_within R rest_narrow in
    let W = distance_within h lat p r in (
      record {
        x = wide (mul_narrow (pos 1767353238359) (pos (2 ^ 38)) (pos 2105) (pos 320) (pos 4163) _ _ (record { le = tt }) W q.cosine D k.cosine);
        y = wide (mul_narrow (pos 1767353238359) (pos (2 ^ 38)) (pos 2105) (pos 320) (pos 4163) _ _ (record { le = tt }) W q.sine D k.sine);
        z = wide (mul_narrow (pos 1767353238359) (pos (2 ^ 38)) (pos 54) (pos 320) (pos 4163) _ _ (record { le = tt }) (lower_within h lat.sine p.sine r) p.sine (add_narrow Z n) m.sine);
      },
      record {
        x = high (mul_narrow (pos (2 ^ 38)) (pos (2 ^ 38)) (pos 320) (pos 320) (pos 640) _ _ (record { le = tt }) p.cosine q.cosine m.cosine k.cosine);
        y = high (mul_narrow (pos (2 ^ 38)) (pos (2 ^ 38)) (pos 320) (pos 320) (pos 640) _ _ (record { le = tt }) p.cosine q.sine m.cosine k.sine);
        z = small m.sine;
      },
    )
  where
    wide : {a : Ends} → IsSpan (pos 4164) a → IsNarrow a (2 ^ 13)
    wide n = record { width = omega (arith, ints, n.width) }

    high : {a : Ends} → IsSpan (pos 641) a → IsNarrow a (2 ^ 10)
    high n = record { width = omega (arith, ints, n.width) }

    small : {a : Ends} → IsSpan (pos 320) a → IsNarrow a (2 ^ 10)
    small n = record { width = omega (arith, ints, n.width) }

sines_narrow : (a : Ends) → a.lo ≤ℤ a.hi → (a.hi -ℤ a.lo) ≤ℤ pos 4 → IsPairNarrow (pos 320) (sin_cos_of a)
sines_narrow a o n = let w = sin_cos_narrow {a = a} refl o in record { sine = record { width = less n w.0 }; cosine = record { width = less n w.1 } }
  where
    less : {s v : ℤ} → v ≤ℤ pos 4 → s ≤ℤ (pos 16 *ℤ v +ℤ pos 256) → s ≤ℤ pos 320
    less h k = omega (arith, ints)

pub frame_narrow : {place : PlaceEnds} {r : FrameEnds} → r ≡ frame_of place → IsNearEarth place → PlaceNarrow place 4 → VectorNarrow r.position (2 ^ 13) × VectorNarrow r.up (2 ^ 10)
unfolding frame_of frame_at
frame_narrow {place} {r} e n w = rw e (frame_at_narrow place.height (sin_cos_of place.lat) (sin_cos_of place.lon) (sin_cos_full place.lat n.lat.ordered) (sin_cos_full place.lon n.lon.ordered) n.height (record { width = w.height.width }) (sines_narrow place.lat n.lat.ordered w.lat.width) (sines_narrow place.lon n.lon.ordered w.lon.width))

-- ---- for the program's products
pub full_product : IsInside (mul_of full_ends full_ends) full_ends
unfolding mul_of mul_wide_of narrow76_of
full_product = record { low = record { le = tt }; ordered = record { le = tt }; high = record { le = tt } }

widest_product : IsInside (mul_wide_of (within (pos 1840137160)) full_ends) (within (pos (2 ^ 76)))
unfolding mul_wide_of
widest_product = record { low = record { le = tt }; ordered = record { le = tt }; high = record { le = tt } }

-- the squared eccentricity times the square of a sine
pub wide_product : {a : Ends} → IsInside a full_ends → IsInside (mul_wide_of eccentricity_ends a) (within (pos (2 ^ 76)))
wide_product {a} p = inside_trans (mul_wide_isotone refl _ full_ends eccentricity_within p) widest_product

-- the radius times 1 - e^2
pub rest_product_within : (a : Ends) → IsInside a full_ends → IsInside (mul_of (radius_of a) (sub_of one_ends eccentricity_ends)) (within (pos 1767353238359))
rest_product_within a p = inside_trans (mul_isotone refl _ _ (radius_within a p) rest_within) widest_distance
