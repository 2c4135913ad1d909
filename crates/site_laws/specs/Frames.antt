-- The receiver's position and its directions to the east, to the north and up, as intervals.
use Rattle.std.specs.Prelude.{◌≡◌, ℤ, pos, neg_ℤ, ◌*◌, ◌^◌}
use Rattle.raim_model.specs.Receiver.{Site}
use Rattle.fix_interval.specs.Ends.{Ends}
use Rattle.fix_interval.specs.Products.{mul_wide_of, mul_of, sqr_of}
use Rattle.fix_interval.specs.Quotients.{from_ratio_of, div_of}
use Rattle.fix_interval.specs.Roots.{sqrt_of}
use Rattle.fix_interval.specs.Sums.{add_of, sub_of, neg_of}
use Rattle.fix_interval.specs.Ranges.{point, one_ends, full_ends}
use Rattle.fix_interval.specs.Pairs.{PairEnds}
use Rattle.fix_interval.specs.Vectors.{VectorEnds, VectorLies, VectorInside}
use Rattle.trig_laws.specs.SinCos.{sin_cos_of}
use Rattle.site_laws.specs.Places.{PlaceEnds, IsNearEarth}

-- the ends of the receiver's position and directions
pub record FrameEnds : Type 0 where
  pub position : VectorEnds
  pub east : VectorEnds
  pub north : VectorEnds
  pub up : VectorEnds

-- the position and the directions of a receiver lie in the frame
pub record SiteLies (a : FrameEnds) (site : Site) : Type 0 where
  pub position : VectorLies a.position site.position
  pub east : VectorLies a.east site.east
  pub north : VectorLies a.north site.north
  pub up : VectorLies a.up site.up

-- the parts of a are intervals, and inside those of b
pub record FrameInside (a b : FrameEnds) : Type 0 where
  pub position : VectorInside a.position b.position
  pub east : VectorInside a.east b.east
  pub north : VectorInside a.north b.north
  pub up : VectorInside a.up b.up

-- ---- the ellipsoid
-- 1 at scale 76
abbrev pub one_wide : Ends
one_wide = point (pos (2 ^ 76))

-- the squared eccentricity of WGS 84
abbrev pub eccentricity_ends : Ends
eccentricity_ends = from_ratio_of (pos (595514447126 * 10 ^ 9)) (298257223563 ^ 2)

-- its semi-major axis, in Mm
abbrev pub axis_ends : Ends
axis_ends = from_ratio_of (pos 6378137) (10 ^ 6)

-- 1 - e^2 sin^2 phi, at scale 76
abbrev pub radicand_of : Ends → Ends
radicand_of sine = sub_of one_wide (mul_wide_of eccentricity_ends (sqr_of sine))

-- sqrt(1 - e^2 sin^2 phi), for the sine of the latitude
unfoldable pub bulge_of : Ends → Ends
bulge_of sine = sqrt_of (radicand_of sine)

-- the radius of curvature across the meridian, in Mm
unfoldable pub radius_of : Ends → Ends
radius_of sine = div_of axis_ends (bulge_of sine)

-- ---- the frame
-- the distance from the Earth's axis
unfoldable pub axis_distance_of : Ends → PairEnds → Ends
axis_distance_of height lat = mul_of (add_of (radius_of lat.sine) height) lat.cosine

-- the receiver's position
unfoldable pub position_of : Ends → PairEnds → PairEnds → VectorEnds
position_of height lat lon = record {
  x = mul_of (axis_distance_of height lat) lon.cosine;
  y = mul_of (axis_distance_of height lat) lon.sine;
  z = mul_of (add_of (mul_of (radius_of lat.sine) (sub_of one_ends eccentricity_ends)) height) lat.sine;
}

unfoldable pub east_of : PairEnds → VectorEnds
east_of lon = record { x = neg_of lon.sine; y = lon.cosine; z = point (pos 0) }

unfoldable pub north_of : PairEnds → PairEnds → VectorEnds
north_of lat lon = record {
  x = neg_of (mul_of lat.sine lon.cosine);
  y = neg_of (mul_of lat.sine lon.sine);
  z = lat.cosine;
}

unfoldable pub up_of : PairEnds → PairEnds → VectorEnds
up_of lat lon = record {
  x = mul_of lat.cosine lon.cosine;
  y = mul_of lat.cosine lon.sine;
  z = lat.sine;
}

-- the frame of a receiver, from the sines and cosines of its latitude and longitude
unfoldable pub frame_at : Ends → PairEnds → PairEnds → FrameEnds
frame_at height lat lon = record {
  position = position_of height lat lon;
  east = east_of lon;
  north = north_of lat lon;
  up = up_of lat lon;
}

-- the frame of the receiver at a place
unfoldable pub frame_of : PlaceEnds → FrameEnds
frame_of place = frame_at place.height (sin_cos_of place.lat) (sin_cos_of place.lon)

-- ---- its bounds
-- both ends at most m units from 0
abbrev pub within : ℤ → Ends
within m = record { lo = neg_ℤ m; hi = m }

-- the radicand of every sine from -1 to 1
abbrev pub radicand_ends : Ends
radicand_ends = record { lo = pos 75052050674883646980096; hi = pos (2 ^ 76) }

-- the bulge of every sine from -1 to 1
abbrev pub bulge_ends : Ends
bulge_ends = record { lo = pos 273956293365; hi = pos 274877906946 }

-- the radius of curvature at every sine from -1 to 1
abbrev pub radius_ends : Ends
radius_ends = record { lo = pos 1753208948749; hi = pos 1759106901149 }

-- every frame near the Earth lies inside
abbrev pub widest_frame : FrameEnds
widest_frame = record {
  position = record { x = within (pos 1767353238359); y = within (pos 1767353238359); z = within (pos 1767353238359) };
  east = record { x = full_ends; y = full_ends; z = full_ends };
  north = record { x = full_ends; y = full_ends; z = full_ends };
  up = record { x = full_ends; y = full_ends; z = full_ends };
}

-- a is the frame of some place near the Earth
pub record IsFrame (a : FrameEnds) : Type 0 where
  pub place : PlaceEnds
  pub near_earth : IsNearEarth place
  pub frame : a ≡ frame_of place
