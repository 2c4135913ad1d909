-- The frame of a place holds each receiver that the model admits there.
use Rattle.std.specs.Prelude.{◌≡◌, pos, ◌*◌, ◌^◌, refl, []}
use Rattle.std.proofs.Common.{subst}
use Rattle.std.proofs.lemmas.Nat.{pow_pos}
use lib.Dec.{lit≤}
use Rattle.fractions.specs.Fraction.{ratio, zeroᶠ, oneᶠ}
use Rattle.fractions.proofs.Laws.{≤ᶠ_refl}
use Rattle.fractions.proofs.Quote.{quote, identity}
use Rattle.fractions.proofs.Ratios.{ratio-same, ratio-zero}
use Rattle.raim_model.specs.Constants.{earth_axis, eccentricity_squared}
use Rattle.raim_model.specs.Level.{Level}
use Rattle.raim_model.specs.Receiver.{Place, ReceiverSolution, site, prime_vertical_radius}
use Rattle.fix_interval.specs.Ends.{Ends, IsInside}
use Rattle.fix_interval.specs.Lies.{Lies}
use Rattle.fix_interval.proofs.EndProducts.{mul_wide_encloses, mul_encloses}
use Rattle.fix_interval.proofs.EndQuotients.{from_ratio_encloses, div_encloses}
use Rattle.fix_interval.proofs.EndRoots.{sqrt_encloses}
use Rattle.fix_interval.proofs.EndSquares.{sqr_encloses}
use Rattle.fix_interval.proofs.EndSums.{add_encloses, sub_encloses, neg_encloses}
use Rattle.fix_interval.specs.Ranges.{point, full_ends}
use Rattle.fix_interval.specs.Pairs.{PairEnds, PairLies}
use Rattle.fix_interval.proofs.EndScales.{one_lies}
use Rattle.trig_laws.specs.SinCos.{sin_cos_of}
use Rattle.trig_laws.proofs.Encloses.{sin_cos_full, sin_cos_encloses}
use Rattle.site_laws.specs.Places.{PlaceEnds, PlaceLies, IsNearEarth}
use Rattle.site_laws.specs.Frames.{FrameEnds, SiteLies, one_wide, eccentricity_ends, axis_ends, bulge_of, radius_of, axis_distance_of, position_of, east_of, north_of, up_of, frame_at, frame_of}
use Rattle.site_laws.proofs.FrameBounds.{radicand_not_negative, bulge_bounds, bulge_positive}

-- the constants
eccentricity_lies : Lies eccentricity_ends 38 eccentricity_squared
eccentricity_lies = subst (Lies eccentricity_ends 38) same (from_ratio_encloses (pos (595514447126 * 10 ^ 9)) (298257223563 ^ 2) refl (lit≤ tt))
  where
    same : ratio (pos (595514447126 * 10 ^ 9)) (298257223563 ^ 2) ≡ eccentricity_squared
    same = identity [] (search quote depth 20) tt

axis_lies : Lies axis_ends 38 earth_axis
axis_lies = from_ratio_encloses (pos 6378137) (10 ^ 6) refl (lit≤ tt)

one_wide_lies : Lies one_wide 76 oneᶠ
one_wide_lies = let e : ratio (pos (2 ^ 76)) (2 ^ 76) ≡ oneᶠ = ratio-same (pos (2 ^ 76)) (pos 1) (2 ^ 76) 1 (pow_pos 76) (lit≤ tt) refl in record { low = rw e (≤ᶠ_refl oneᶠ); high = rw e (≤ᶠ_refl oneᶠ) }

zero_lies : Lies (point (pos 0)) 38 zeroᶠ
zero_lies = record { low = rw (ratio-zero (2 ^ 38)) (≤ᶠ_refl zeroᶠ); high = rw (ratio-zero (2 ^ 38)) (≤ᶠ_refl zeroᶠ) }

-- the ellipsoid
bulge_lies : {N : Level} {place : Place} (a : Ends) (s : ReceiverSolution N place) → IsInside a full_ends → Lies a 38 s.sin_lat → Lies (bulge_of a) 38 s.bulge
unfolding bulge_of
bulge_lies {N} {place} a s f l = sqrt_encloses refl (radicand_not_negative a f) N _ s.bulge (sub_encloses refl 76 oneᶠ _ one_wide_lies (mul_wide_encloses refl 38 38 eccentricity_squared _ eccentricity_lies (sqr_encloses refl s.sin_lat l))) s.bulge_root

radius_lies : {N : Level} {place : Place} (a : Ends) (s : ReceiverSolution N place) → IsInside a full_ends → Lies a 38 s.sin_lat → Lies (radius_of a) 38 (prime_vertical_radius s)
unfolding radius_of
radius_lies {N} {place} a s f l = div_encloses refl (bulge_positive a f) ((bulge_bounds a f).ordered) 38 earth_axis s.bulge axis_lies (bulge_lies a s f l)

-- the frame
frame_at_lies : {N : Level} {place : Place} (h : Ends) (lat lon : PairEnds) (s : ReceiverSolution N place) → IsInside lat.sine full_ends → Lies h 38 place.height
    → PairLies lat s.sin_lat s.cos_lat → PairLies lon s.sin_lon s.cos_lon → SiteLies (frame_at h lat lon) (site s)
unfolding frame_at position_of axis_distance_of east_of north_of up_of
frame_at_lies {N} {place} h lat lon s f l p q =
    let r = radius_lies lat.sine s f p.sine in
    let d = mul_encloses refl _ s.cos_lat (add_encloses refl 38 (prime_vertical_radius s) place.height r l) p.cosine in
    record {
      position = record {
        x = mul_encloses refl _ s.cos_lon d q.cosine;
        y = mul_encloses refl _ s.sin_lon d q.sine;
        z = mul_encloses refl _ s.sin_lat (add_encloses refl 38 _ place.height (mul_encloses refl (prime_vertical_radius s) _ r (sub_encloses refl 38 oneᶠ eccentricity_squared one_lies eccentricity_lies)) l) p.sine;
      };
      east = record { x = neg_encloses lon.sine s.sin_lon q.sine; y = q.cosine; z = zero_lies };
      north = record {
        x = neg_encloses _ _ (mul_encloses refl s.sin_lat s.cos_lon p.sine q.cosine);
        y = neg_encloses _ _ (mul_encloses refl s.sin_lat s.sin_lon p.sine q.sine);
        z = p.cosine;
      };
      up = record {
        x = mul_encloses refl s.cos_lat s.cos_lon p.cosine q.cosine;
        y = mul_encloses refl s.cos_lat s.sin_lon p.cosine q.sine;
        z = p.sine;
      };
    }

pub frame_encloses : {box : PlaceEnds} {r : FrameEnds} → r ≡ frame_of box → IsNearEarth box → (N : Level) (place : Place) → PlaceLies box place → (s : ReceiverSolution N place) → SiteLies r (site s)
unfolding frame_of
frame_encloses {box} {r} e n N place l s = rw e (frame_at_lies box.height (sin_cos_of box.lat) (sin_cos_of box.lon) s (sin_cos_full box.lat n.lat.ordered).sine l.height
    (sin_cos_encloses refl n.lat.ordered N place.lat s.sin_lat s.cos_lat l.lat s.at_lat)
    (sin_cos_encloses refl n.lon.ordered N place.lon s.sin_lon s.cos_lon l.lon s.at_lon))
