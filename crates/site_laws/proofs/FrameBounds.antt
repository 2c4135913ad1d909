-- Frames grow with their places, so that the frame of the widest place, which is computed once, bounds them all.
use Rattle.std.specs.Prelude.{◌≡◌, pos, ◌+◌, ◌-◌, ◌^◌, ◌≤ℤ◌, refl}
use Rattle.std.proofs.Common.{arith, ap, ◌∙◌, subst}
use Rattle.std.proofs.lemmas.Int.{ints}
use Rattle.whole_numbers.specs.Root.{root_of}
use Rattle.whole_numbers.proofs.Roots.{root_of-unique}
use Rattle.fix_interval.specs.Ends.{Ends, IsInside}
use Rattle.fix_interval.specs.Products.{mul_wide_of, mul_of, sqr_of, sqr_wide_of, narrow76_of}
use Rattle.fix_interval.specs.Quotients.{from_ratio_of, outward_of, div_of}
use Rattle.fix_interval.specs.Roots.{sqrt_of}
use Rattle.fix_interval.specs.Sums.{add_of, sub_of, neg_of}
use Rattle.fix_interval.proofs.EndProducts.{mul_wide_isotone, mul_isotone}
use Rattle.fix_interval.proofs.EndQuotients.{div_isotone}
use Rattle.fix_interval.proofs.EndRoots.{sqrt_isotone}
use Rattle.fix_interval.proofs.EndSquares.{sqr_isotone}
use Rattle.fix_interval.proofs.EndSums.{same_ends, add_isotone, sub_isotone, neg_isotone}
use Rattle.fix_interval.specs.Ranges.{one_ends, full_ends}
use Rattle.fix_interval.specs.Pairs.{PairEnds, PairInside, full_pair}
use Rattle.fix_interval.proofs.EndPairs.{full_self}
use Rattle.fix_interval.specs.Vectors.{VectorInside}
use Rattle.trig_laws.specs.SinCos.{sin_cos_of}
use Rattle.trig_laws.proofs.Encloses.{sin_cos_full, sin_cos_isotone}
use Rattle.site_laws.specs.Places.{PlaceEnds, PlaceInside, IsNearEarth, widest_place}
use Rattle.site_laws.specs.Frames.{radicand_of, radicand_ends, bulge_ends, radius_ends, FrameEnds, FrameInside, one_wide, eccentricity_ends, axis_ends, bulge_of, radius_of, axis_distance_of, position_of, east_of, north_of, up_of, frame_at, frame_of, widest_frame}
use Rattle.site_laws.proofs.Insides.{inside_self, frame_trans}

-- ---- the ellipsoid
pub one_self : IsInside one_wide one_wide
one_self = inside_self (record { le = tt })

pub eccentricity_self : IsInside eccentricity_ends eccentricity_ends
unfolding from_ratio_of outward_of
eccentricity_self = record { low = record { le = tt }; ordered = record { le = tt }; high = record { le = tt } }

pub axis_self : IsInside axis_ends axis_ends
unfolding from_ratio_of outward_of
axis_self = record { low = record { le = tt }; ordered = record { le = tt }; high = record { le = tt } }

pub radicand_isotone : (a c : Ends) → IsInside a c → IsInside (radicand_of a) (radicand_of c)
radicand_isotone a c p = sub_isotone refl _ _ one_self (mul_wide_isotone refl _ _ eccentricity_self (sqr_isotone refl c p))

radicand-full : radicand_of full_ends ≡ radicand_ends
unfolding sub_of mul_wide_of sqr_of sqr_wide_of narrow76_of from_ratio_of outward_of
radicand-full = refl

pub radicand_bounds : (a : Ends) → IsInside a full_ends → IsInside (radicand_of a) radicand_ends
radicand_bounds a p = subst (λ t. IsInside (radicand_of a) t) radicand-full (radicand_isotone a full_ends p)

pub radicand_not_negative : (a : Ends) → IsInside a full_ends → pos 0 ≤ℤ (radicand_of a).lo
radicand_not_negative a p = let b = radicand_bounds a p in omega (arith, ints)

bulge-full : bulge_of full_ends ≡ bulge_ends
unfolding bulge_of sqrt_of
bulge-full = ap sqrt radicand-full ∙ same_ends (ap (λ n. pos (n - 1)) low) (ap (λ n. pos (n + 2)) high)
  where
    sqrt : Ends → Ends
    sqrt a = sqrt_of a

    low : root_of (pos 75052050674883646980096) ≡ 273956293366
    low = root_of-unique _ 273956293366 (record { le = tt }) (record { lt = tt })

    high : root_of (pos (2 ^ 76)) ≡ 274877906944
    high = root_of-unique _ 274877906944 (record { le = tt }) (record { lt = tt })

pub bulge_isotone : (a c : Ends) → IsInside c full_ends → IsInside a c → IsInside (bulge_of a) (bulge_of c)
unfolding bulge_of
bulge_isotone a c f p = sqrt_isotone refl _ (radicand_not_negative c f) (radicand_isotone a c p)

pub bulge_bounds : (a : Ends) → IsInside a full_ends → IsInside (bulge_of a) bulge_ends
bulge_bounds a p = subst (λ t. IsInside (bulge_of a) t) bulge-full (bulge_isotone a full_ends full_self.sine p)

pub bulge_positive : (a : Ends) → IsInside a full_ends → pos 1 ≤ℤ (bulge_of a).lo
bulge_positive a p = let b = bulge_bounds a p in omega (arith, ints)

radius-full : radius_of full_ends ≡ radius_ends
unfolding radius_of div_of from_ratio_of outward_of
radius-full = rw bulge-full refl

pub radius_isotone : (a c : Ends) → IsInside c full_ends → IsInside a c → IsInside (radius_of a) (radius_of c)
unfolding radius_of
radius_isotone a c f p = div_isotone refl _ _ (bulge_positive c f) axis_self (bulge_isotone a c f p)

pub radius_bounds : (a : Ends) → IsInside a full_ends → IsInside (radius_of a) radius_ends
radius_bounds a p = subst (λ t. IsInside (radius_of a) t) radius-full (radius_isotone a full_ends full_self.sine p)

-- 1 - e^2
pub rest_self : IsInside (sub_of one_ends eccentricity_ends) (sub_of one_ends eccentricity_ends)
rest_self = sub_isotone refl _ _ (inside_self (record { le = tt })) eccentricity_self

-- ---- the frame
axis_distance_isotone : (h k : Ends) (lat wide : PairEnds) → IsInside wide.sine full_ends → IsInside h k → PairInside lat wide → IsInside (axis_distance_of h lat) (axis_distance_of k wide)
unfolding axis_distance_of
axis_distance_isotone h k lat wide f p q = mul_isotone refl _ _ (add_isotone refl _ _ (radius_isotone _ _ f q.sine) p) q.cosine

position_isotone : (h k : Ends) (lat lon wide_lat wide_lon : PairEnds) → IsInside wide_lat.sine full_ends → IsInside h k → PairInside lat wide_lat → PairInside lon wide_lon
    → VectorInside (position_of h lat lon) (position_of k wide_lat wide_lon)
unfolding position_of
position_isotone h k lat lon wide_lat wide_lon f p q r = record {
  x = mul_isotone refl _ _ (axis_distance_isotone h k lat wide_lat f p q) r.cosine;
  y = mul_isotone refl _ _ (axis_distance_isotone h k lat wide_lat f p q) r.sine;
  z = mul_isotone refl _ _ (add_isotone refl _ _ (mul_isotone refl _ _ (radius_isotone _ _ f q.sine) rest_self) p) q.sine;
}

-- wider heights, sines and cosines have a wider frame
pub frame_at_isotone : (h k : Ends) (lat lon wide_lat wide_lon : PairEnds) → IsInside wide_lat.sine full_ends → IsInside h k → PairInside lat wide_lat → PairInside lon wide_lon
    → FrameInside (frame_at h lat lon) (frame_at k wide_lat wide_lon)
unfolding frame_at east_of north_of up_of
frame_at_isotone h k lat lon wide_lat wide_lon f p q r = record {
  position = position_isotone h k lat lon wide_lat wide_lon f p q r;
  east = record { x = neg_isotone _ _ r.sine; y = r.cosine; z = inside_self (record { le = tt }) };
  north = record { x = neg_isotone _ _ (mul_isotone refl _ _ q.sine r.cosine); y = neg_isotone _ _ (mul_isotone refl _ _ q.sine r.sine); z = q.cosine };
  up = record { x = mul_isotone refl _ _ q.cosine r.cosine; y = mul_isotone refl _ _ q.cosine r.sine; z = q.sine };
}

-- wider places have a wider frame
pub frame_isotone : {place : PlaceEnds} {r : FrameEnds} → r ≡ frame_of place → (wide : PlaceEnds) → IsNearEarth wide → PlaceInside place wide → FrameInside r (frame_of wide)
unfolding frame_of
frame_isotone {place} {r} e wide n p = rw e (frame_at_isotone place.height wide.height (sin_cos_of place.lat) (sin_cos_of place.lon) (sin_cos_of wide.lat) (sin_cos_of wide.lon) (sin_cos_full wide.lat n.lat.ordered).sine p.height (sin_cos_isotone refl wide.lat p.lat) (sin_cos_isotone refl wide.lon p.lon))

-- ---- its bounds
widest-frame : FrameInside (frame_at widest_place.height full_pair full_pair) widest_frame
unfolding frame_at position_of axis_distance_of east_of north_of up_of add_of sub_of mul_of mul_wide_of narrow76_of from_ratio_of outward_of neg_of
widest-frame = rw radius-full record {
  position = record {
    x = record { low = record { le = tt }; ordered = record { le = tt }; high = record { le = tt } };
    y = record { low = record { le = tt }; ordered = record { le = tt }; high = record { le = tt } };
    z = record { low = record { le = tt }; ordered = record { le = tt }; high = record { le = tt } };
  };
  east = record {
    x = record { low = record { le = tt }; ordered = record { le = tt }; high = record { le = tt } };
    y = record { low = record { le = tt }; ordered = record { le = tt }; high = record { le = tt } };
    z = record { low = record { le = tt }; ordered = record { le = tt }; high = record { le = tt } };
  };
  north = record {
    x = record { low = record { le = tt }; ordered = record { le = tt }; high = record { le = tt } };
    y = record { low = record { le = tt }; ordered = record { le = tt }; high = record { le = tt } };
    z = record { low = record { le = tt }; ordered = record { le = tt }; high = record { le = tt } };
  };
  up = record {
    x = record { low = record { le = tt }; ordered = record { le = tt }; high = record { le = tt } };
    y = record { low = record { le = tt }; ordered = record { le = tt }; high = record { le = tt } };
    z = record { low = record { le = tt }; ordered = record { le = tt }; high = record { le = tt } };
  };
}

pub frame_bounds : (place : PlaceEnds) → IsNearEarth place → FrameInside (frame_of place) widest_frame
unfolding frame_of
frame_bounds place n = frame_trans (frame_at_isotone place.height widest_place.height (sin_cos_of place.lat) (sin_cos_of place.lon) full_pair full_pair full_self.sine n.height (sin_cos_full place.lat n.lat.ordered) (sin_cos_full place.lon n.lon.ordered)) widest-frame
