-- Places and directions in axes that turn with the Earth, in Mm: x to the equator at longitude 0, y to the equator at 90 degrees
-- east, z to the north pole (the Earth-centred, Earth-fixed axes of WGS 84).
use Rattle.fractions.specs.Fraction.{Fraction, ◌+ᶠ◌, ◌-ᶠ◌, ◌*ᶠ◌}

pub record Vector : Type 0 where
  pub x : Fraction
  pub y : Fraction
  pub z : Fraction

-- p less q: what leads from q to p
abbrev pub minus : Vector → Vector → Vector
minus p q = record { x = p.x -ᶠ q.x; y = p.y -ᶠ q.y; z = p.z -ᶠ q.z }

-- the scalar product
abbrev pub dot : Vector → Vector → Fraction
dot p q = p.x *ᶠ q.x +ᶠ p.y *ᶠ q.y +ᶠ p.z *ᶠ q.z
