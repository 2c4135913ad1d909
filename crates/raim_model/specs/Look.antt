-- What a receiver sees of a satellite: the distance, whether it stands above the mask, and the row of its direction. This project's
-- own: light takes no time and is not bent, and a satellite nearer than 1 Mm is not visible.
use Rattle.std.specs.Prelude.{Bool, ◌&&◌}
use Rattle.fractions.specs.Fraction.{Fraction, oneᶠ, ◌*ᶠ◌, is_at_most}
use Rattle.fractions.specs.Inverse.{◌/ᶠ◌}
use Rattle.raim_model.specs.Level.{Level}
use Rattle.raim_model.specs.Root.{IsRoot}
use Rattle.raim_model.specs.Vector.{Vector, minus, dot}
use Rattle.raim_model.specs.Receiver.{Site}
use Rattle.raim_model.specs.Geometry.{Row, row_of}

-- the line of sight, from the receiver to the satellite, in Mm
abbrev pub line_of_sight : Site → Vector → Vector
line_of_sight from sat = minus sat from.position

-- range is an admitted distance to the satellite at level N, in Mm
abbrev pub IsRange : Level → Site → Vector → Fraction → Type 0
IsRange N from sat range = IsRoot N (dot (line_of_sight from sat) (line_of_sight from sat)) range

-- at least 1 Mm away and not below the mask, for a sine of the mask and a range: the part up is at least sine times range
unfoldable pub is_visible : Site → Vector → (sine range : Fraction) → Bool
is_visible from sat sine range = is_at_most oneᶠ range && is_at_most (sine *ᶠ range) (dot from.up (line_of_sight from sat))

-- the row of the direction: its parts to the east, to the north and up, and 1
abbrev pub direction_row : Site → Vector → (range : Fraction) → Row
direction_row from sat range = row_of (dot from.east (line_of_sight from sat) /ᶠ range) (dot from.north (line_of_sight from sat) /ᶠ range) (dot from.up (line_of_sight from sat) /ᶠ range)
