-- How a satellite is seen from a receiver, as intervals: surely above the mask, surely not, or undecided.
use Rattle.std.specs.Prelude.{◌≡◌, pos, neg_ℤ, ◌≤ℤ◌, ◌+◌, ◌^◌, Bool, if◌then◌else◌, ◌&&◌, ◌||◌}
use lib.Signed.{le_z, lt_z}
use Rattle.fractions.specs.Fraction.{Fraction}
use Rattle.raim_model.specs.Level.{Level}
use Rattle.raim_model.specs.Vector.{Vector}
use Rattle.raim_model.specs.Receiver.{Place, ReceiverSolution, site}
use Rattle.raim_model.specs.Geometry.{Row, East, North, Up}
use Rattle.raim_model.specs.Look.{IsRange}
use Rattle.fix_interval.specs.Ends.{Ends, IsInside}
use Rattle.fix_interval.specs.Lies.{Lies}
use Rattle.fix_interval.specs.Bounds.{clamp_of}
use Rattle.fix_interval.specs.Products.{mul_wide_of, mul_of, sqr_wide_of, narrow76_of}
use Rattle.fix_interval.specs.Quotients.{div_of}
use Rattle.fix_interval.specs.Roots.{sqrt_of}
use Rattle.fix_interval.specs.Sums.{add_of, sub_of}
use Rattle.fix_interval.specs.Ranges.{full_ends}
use Rattle.fix_interval.specs.Vectors.{VectorEnds, VectorLies, VectorInside}
use Rattle.site_laws.specs.Places.{PlaceEnds, PlaceLies}
use Rattle.site_laws.specs.Frames.{within, FrameEnds}

-- the ends of a direction's parts to the east, to the north and up
pub record DirectionEnds : Type 0 where
  pub east : Ends
  pub north : Ends
  pub up : Ends

-- a satellite that is surely visible, in a direction; surely hidden; or neither
pub data SightEnds : Type 0 where
  visible : DirectionEnds → SightEnds
  hidden : SightEnds
  straddle : SightEnds

-- the row's direction lies in the three parts
pub record DirectionLies (a : DirectionEnds) (row : Row) : Type 0 where
  pub east : Lies a.east 38 (row East)
  pub north : Lies a.north 38 (row North)
  pub up : Lies a.up 38 (row Up)

-- the three parts of a are intervals, and inside those of b
pub record DirectionInside (a b : DirectionEnds) : Type 0 where
  pub east : IsInside a.east b.east
  pub north : IsInside a.north b.north
  pub up : IsInside a.up b.up

-- ---- the line of sight
-- from the receiver's position to the satellite
unfoldable pub line_of : VectorEnds → VectorEnds → VectorEnds
line_of position sat = record { x = sub_of sat.x position.x; y = sub_of sat.y position.y; z = sub_of sat.z position.z }

-- the sum of the three products
unfoldable pub dot_of : VectorEnds → VectorEnds → Ends
dot_of v d = narrow76_of (add_of (add_of (mul_wide_of v.x d.x) (mul_wide_of v.y d.y)) (mul_wide_of v.z d.z))

-- the length
unfoldable pub range_of : VectorEnds → Ends
range_of d = sqrt_of (add_of (add_of (sqr_wide_of d.x) (sqr_wide_of d.y)) (sqr_wide_of d.z))

-- a part of a direction, at most 1 and a unit either way: what is over it of the line, over the range
unfoldable pub share_of : Ends → Ends → Ends
share_of part range = clamp_of (div_of part range) (pos (2 ^ 38 + 1))

-- ---- the decisions
-- 1 Mm away at most, or below the mask
abbrev pub is_hidden : (range up mask : Ends) → Bool
is_hidden range up mask = lt_z range.hi (pos (2 ^ 38)) || lt_z up.hi mask.lo

-- 1 Mm away at least, and not below the mask
abbrev pub is_seen : (range up mask : Ends) → Bool
is_seen range up mask = le_z (pos (2 ^ 38)) range.lo && le_z mask.hi up.lo

-- the direction of the line d, of a given length, by its part over the up direction
unfoldable pub shares_of : (east north d : VectorEnds) → (range up : Ends) → DirectionEnds
shares_of east north d range up = record {
  east = share_of (dot_of east d) range;
  north = share_of (dot_of north d) range;
  up = share_of up range;
}

abbrev pub direction_of : FrameEnds → (d : VectorEnds) → (range up : Ends) → DirectionEnds
direction_of frame d range up = shares_of frame.east frame.north d range up

-- each part is an interval
pub record IsDirection (a : DirectionEnds) : Type 0 where
  pub east : a.east.lo ≤ℤ a.east.hi
  pub north : a.north.lo ≤ℤ a.north.hi
  pub up : a.up.lo ≤ℤ a.up.hi

-- the decision on a line d with its length, its part over the up direction, and the least such part that is not masked
unfoldable pub sight_of : FrameEnds → (d : VectorEnds) → (range up least : Ends) → SightEnds
sight_of frame d range up least =
    if is_hidden range up least then hidden
    else (if is_seen range up least then visible (direction_of frame d range up) else straddle)

-- the decision on the line d
unfoldable pub line_sight_of : FrameEnds → (d : VectorEnds) → (mask : Ends) → SightEnds
line_sight_of frame d mask = sight_of frame d (range_of d) (dot_of frame.up d) (mul_of mask (range_of d))

-- how a satellite is seen, for the sine of the mask
unfoldable pub look_of : FrameEnds → (sat : VectorEnds) → (mask : Ends) → SightEnds
look_of frame sat mask = line_sight_of frame (line_of frame.position sat) mask

-- ---- what is looked at
-- a satellite at most 2^46 units away from each axis
abbrev pub widest_satellite : VectorEnds
widest_satellite = record {
  x = record { lo = neg_ℤ (pos (2 ^ 46)); hi = pos (2 ^ 46) };
  y = record { lo = neg_ℤ (pos (2 ^ 46)); hi = pos (2 ^ 46) };
  z = record { lo = neg_ℤ (pos (2 ^ 46)); hi = pos (2 ^ 46) };
}

-- a satellite that is looked at
abbrev pub IsInReach : VectorEnds → Type 0
IsInReach sat = VectorInside sat widest_satellite

-- a sine, as of a mask
abbrev pub IsSineEnds : Ends → Type 0
IsSineEnds a = IsInside a full_ends

-- every component of a line lies inside
abbrev pub line_ends : Ends
line_ends = within (pos 72136097416023)

-- and every line
abbrev pub widest_line : VectorEnds
widest_line = record { x = line_ends; y = line_ends; z = line_ends }

-- the squares of a line, added up
abbrev pub squares_ends : Ends
squares_ends = record { lo = pos 0; hi = pos 15610849651241880412611409587 }

-- the range
abbrev pub range_ends : Ends
range_ends = record { lo = pos 0; hi = pos 124943385784291 }

-- the part over a direction
abbrev pub part_ends : Ends
part_ends = within (pos 216408292248069)

abbrev pub full_vector : VectorEnds
full_vector = record { x = full_ends; y = full_ends; z = full_ends }

-- from -1 to 1, and a unit more
abbrev pub share_ends : Ends
share_ends = record { lo = neg_ℤ (pos (2 ^ 38 + 1)); hi = pos (2 ^ 38 + 1) }

-- the direction that holds each
abbrev pub widest_direction : DirectionEnds
widest_direction = record { east = share_ends; north = share_ends; up = share_ends }

-- ---- what the model admits
-- a receiver at a place inside, a satellite inside, a sine of the mask inside, and a range from the one to the other
pub record LookChoice (N : Level) (box : PlaceEnds) (sat : VectorEnds) (mask : Ends) : Type 0 where
  pub place : Place
  pub place_inside : PlaceLies box place
  pub receiver : ReceiverSolution N place
  pub satellite : Vector
  pub satellite_inside : VectorLies sat satellite
  pub sine : Fraction
  pub sine_inside : Lies mask 38 sine
  pub range : Fraction
  pub is_range : IsRange N (site receiver) satellite range

-- what is decided on wide ends is decided on ends inside, in a direction inside
abbrev pub SightInside : SightEnds → SightEnds → Type 0
SightInside s straddle = Unit {0}
SightInside s hidden = s ≡ hidden
SightInside (visible a) (visible b) = DirectionInside a b
SightInside hidden (visible b) = ⊥
SightInside straddle (visible b) = ⊥
