-- The place of the receiver on its route, and its directions east, north and up from the ellipsoid of WGS 84 (geodetic latitude
-- and height). Angles in turns, lengths in Mm.
use Rattle.std.specs.Prelude.{◌≡◌, ℤ, pos, ◌^◌, ◌-ℤ◌, ◌≤ℤ◌, ◌<ℤ◌, List, ◌∷◌, ◌++◌}
use Rattle.fractions.specs.Fraction.{Fraction, whole, zeroᶠ, oneᶠ, ◌+ᶠ◌, ◌-ᶠ◌, ◌*ᶠ◌, neg}
use Rattle.fractions.specs.Inverse.{◌/ᶠ◌}
use Rattle.raim_model.specs.declared.decimal.Dec.{Dec}
use Rattle.raim_model.specs.declared.waypoint.Waypoint.{Waypoint}
use Rattle.raim_model.specs.Constants.{earth_axis, eccentricity_squared}
use Rattle.raim_model.specs.Decimal.{value_of}
use Rattle.raim_model.specs.Level.{Level}
use Rattle.raim_model.specs.Root.{IsRoot}
use Rattle.raim_model.specs.Sine.{IsSineCosine}
use Rattle.raim_model.specs.Vector.{Vector}

-- latitude and longitude in turns, and the height above the ellipsoid in Mm
pub record Place : Type 0 where
  pub lat : Fraction
  pub lon : Fraction
  pub height : Fraction

-- the leg of the route that t lies on: it runs between two waypoints in a row, and its end is not its own
pub record OnLeg (route : List Waypoint) (t : ℤ) : Type 0 where
  pub before : List Waypoint
  pub start : Waypoint
  pub stop : Waypoint
  pub after : List Waypoint
  pub neighbours : route ≡ before ++ start ∷ stop ∷ after
  pub started : start.at ≤ℤ t
  pub not_over : t <ℤ stop.at

-- the value at t on the straight line from a at the time T to b at the time U
abbrev pub between : (T U t : ℤ) (a b : Fraction) → Fraction
between T U t a b = (a *ᶠ whole (U -ℤ t) +ᶠ b *ᶠ whole (t -ℤ T)) /ᶠ whole (U -ℤ T)

-- decimal degrees in turns, and metres in Mm
abbrev pub turns_of_degrees : Dec → Fraction
turns_of_degrees d = value_of d /ᶠ whole (pos 360)

abbrev pub megametres_of : Dec → Fraction
megametres_of d = value_of d /ᶠ whole (pos (10 ^ 6))

-- where the flight is at t: latitude, longitude and height each run straight along the leg
abbrev pub place_on : {route : List Waypoint} {t : ℤ} → OnLeg route t → Place
place_on {route} {t} l = record {
  lat = between l.start.at l.stop.at t (turns_of_degrees l.start.lat) (turns_of_degrees l.stop.lat);
  lon = between l.start.at l.stop.at t (turns_of_degrees l.start.lon) (turns_of_degrees l.stop.lon);
  height = between l.start.at l.stop.at t (megametres_of l.start.height) (megametres_of l.stop.height);
}

-- a choice of fractions that the formulas of the WGS 84 ellipsoid admit at level N, for a place
pub record ReceiverSolution (N : Level) (place : Place) : Type 0 where
  pub sin_lat : Fraction
  pub cos_lat : Fraction
  pub at_lat : IsSineCosine N place.lat sin_lat cos_lat
  pub sin_lon : Fraction
  pub cos_lon : Fraction
  pub at_lon : IsSineCosine N place.lon sin_lon cos_lon
  -- sqrt(1 - e^2 sin^2 phi)
  pub bulge : Fraction
  pub bulge_root : IsRoot N (oneᶠ -ᶠ eccentricity_squared *ᶠ (sin_lat *ᶠ sin_lat)) bulge

-- a receiver's place, and its directions east, north and up, where up stands on the ellipsoid
pub record Site : Type 0 where
  pub position : Vector
  pub east : Vector
  pub north : Vector
  pub up : Vector

-- N = a / sqrt(1 - e^2 sin^2 phi), the radius of curvature in the prime vertical
abbrev pub prime_vertical_radius : {N : Level} {place : Place} → ReceiverSolution N place → Fraction
prime_vertical_radius s = earth_axis /ᶠ s.bulge

-- its place is ((N + h) cos phi cos lambda, (N + h) cos phi sin lambda, (N (1 - e^2) + h) sin phi)
abbrev pub site : {N : Level} {place : Place} → ReceiverSolution N place → Site
site {N} {place} s = record {
  position = record {
    x = (prime_vertical_radius s +ᶠ place.height) *ᶠ s.cos_lat *ᶠ s.cos_lon;
    y = (prime_vertical_radius s +ᶠ place.height) *ᶠ s.cos_lat *ᶠ s.sin_lon;
    z = (prime_vertical_radius s *ᶠ (oneᶠ -ᶠ eccentricity_squared) +ᶠ place.height) *ᶠ s.sin_lat;
  };
  east = record { x = neg s.sin_lon; y = s.cos_lon; z = zeroᶠ };
  north = record { x = neg (s.sin_lat *ᶠ s.cos_lon); y = neg (s.sin_lat *ᶠ s.sin_lon); z = s.cos_lat };
  up = record { x = s.cos_lat *ᶠ s.cos_lon; y = s.cos_lat *ᶠ s.sin_lon; z = s.sin_lat };
}
