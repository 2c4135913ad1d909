-- Places of a receiver as intervals: their parts over a piece of a leg, and where a frame is asked for.
use Rattle.std.specs.Prelude.{ℕ, ℤ, pos, neg_ℤ, ◌+ℤ◌, ◌-ℤ◌, ◌*ℤ◌, unsigned_abs}
use Rattle.whole_numbers.specs.Rounding.{floor_of, ceil_of}
use Rattle.raim_model.specs.declared.waypoint.Waypoint.{Waypoint}
use Rattle.raim_model.specs.Receiver.{Place}
use Rattle.fix_interval.specs.Ends.{Ends, IsInside, IsNarrow}
use Rattle.fix_interval.specs.Bounds.{hull_of}
use Rattle.fix_interval.specs.Decimals.{from_dec_over_of}
use Rattle.fix_interval.specs.Lies.{Lies}

-- the ends of latitude and longitude, in turns, and of the height, in Mm
pub record PlaceEnds : Type 0 where
  pub lat : Ends
  pub lon : Ends
  pub height : Ends

-- the place lies in the three parts
pub record PlaceLies (a : PlaceEnds) (place : Place) : Type 0 where
  pub lat : Lies a.lat 38 place.lat
  pub lon : Lies a.lon 38 place.lon
  pub height : Lies a.height 38 place.height

-- the three parts of a are intervals, and inside those of b
pub record PlaceInside (a b : PlaceEnds) : Type 0 where
  pub lat : IsInside a.lat b.lat
  pub lon : IsInside a.lon b.lon
  pub height : IsInside a.height b.height

-- ---- on a leg
-- k times both ends
abbrev pub times_of : Ends → ℤ → Ends
times_of a k = record { lo = a.lo *ℤ k; hi = a.hi *ℤ k }

-- the value at t on the line from a at start to b at stop, rounded outward
unfoldable pub at_of : (start stop t : ℤ) → Ends → Ends → Ends
at_of start stop t a b = record {
  lo = floor_of (a.lo *ℤ (stop -ℤ t) +ℤ b.lo *ℤ (t -ℤ start)) (unsigned_abs (stop -ℤ start));
  hi = ceil_of (a.hi *ℤ (stop -ℤ t) +ℤ b.hi *ℤ (t -ℤ start)) (unsigned_abs (stop -ℤ start));
}

-- the hull of the values at first and at last
unfoldable pub along_of : (start stop first last : ℤ) → Ends → Ends → Ends
along_of start stop first last a b = hull_of (at_of start stop first a b) (at_of start stop last a b)

-- where a flight is from first to last, on the leg between two waypoints
unfoldable pub place_over_of : (start stop : Waypoint) → (first last : ℤ) → PlaceEnds
place_over_of start stop first last = record {
  lat = along_of start.at stop.at first last (from_dec_over_of start.lat 360) (from_dec_over_of stop.lat 360);
  lon = along_of start.at stop.at first last (from_dec_over_of start.lon 360) (from_dec_over_of stop.lon 360);
  height = along_of start.at stop.at first last (from_dec_over_of start.height 1000000) (from_dec_over_of stop.height 1000000);
}

-- ---- near the Earth
-- at most a turn and a unit either way
abbrev pub around_a_turn : Ends
around_a_turn = record { lo = neg_ℤ (pos 274877906945); hi = pos 274877906945 }

-- a quarter turn of latitude and a turn of longitude either way, heights from -1000 m to 30000 m, and a unit more
abbrev pub widest_place : PlaceEnds
widest_place = record {
  lat = record { lo = neg_ℤ (pos 68719476737); hi = pos 68719476737 };
  lon = around_a_turn;
  height = record { lo = neg_ℤ (pos 274877908); hi = pos 8246337210 };
}

-- a place that a frame is asked for
abbrev pub IsNearEarth : PlaceEnds → Type 0
IsNearEarth place = PlaceInside place widest_place

-- each part is at most w units wide
pub record PlaceNarrow (place : PlaceEnds) (w : ℕ) : Type 0 where
  pub lat : IsNarrow place.lat w
  pub lon : IsNarrow place.lon w
  pub height : IsNarrow place.height w
