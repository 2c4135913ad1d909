-- Ends by which others are bounded.
use Rattle.std.specs.Prelude.{◌+◌, ◌*◌, ◌^◌}
use Rattle.fix_interval.specs.Ends.{Ends}
use Rattle.fix_interval.specs.Ranges.{from_to}

-- the root of a half axis, at scale 56: from 4 to 7
abbrev pub root_ends : Ends
root_ends = from_to (4 * 2 ^ 56) (7 * 2 ^ 56)

-- its power of three halves, at scale 56
abbrev pub cube_ends : Ends
cube_ends = from_to (64 * 2 ^ 56) (343 * 2 ^ 56)

-- a half axis in megametres
abbrev pub axis_ends : Ends
axis_ends = from_to (16 * 2 ^ 38) (49 * 2 ^ 38)

-- an eccentricity: from 0 to a 32nd
abbrev pub eccentricity_ends : Ends
eccentricity_ends = from_to 0 (2 ^ 33)

-- the semi-minor axis over the semi-major one
abbrev pub ratio_ends : Ends
ratio_ends = from_to 0 (2 ^ 38 + 2)
