-- Ends inside ends: that what is inside what is inside is inside, and so for vectors, frames and places.
use Rattle.std.specs.Prelude.{◌≤ℤ◌}
use Rattle.whole_numbers.proofs.Integers.{≤ℤ_refl}
use Rattle.fix_interval.specs.Ends.{Ends, IsInside}
use Rattle.fix_interval.specs.Pairs.{PairEnds, PairInside}
use Rattle.fix_interval.proofs.EndInsides.{inside_trans}
use Rattle.fix_interval.specs.Vectors.{VectorEnds, VectorInside}
use Rattle.site_laws.specs.Places.{PlaceEnds, PlaceInside}
use Rattle.site_laws.specs.Frames.{FrameEnds, FrameInside}

-- an interval is inside itself
pub inside_self : {a : Ends} → a.lo ≤ℤ a.hi → IsInside a a
inside_self {a} h = record { low = ≤ℤ_refl a.lo; ordered = h; high = ≤ℤ_refl a.hi }

pub vector_trans : {a b c : VectorEnds} → VectorInside a b → VectorInside b c → VectorInside a c
vector_trans p q = record { x = inside_trans p.x q.x; y = inside_trans p.y q.y; z = inside_trans p.z q.z }

pub frame_trans : {a b c : FrameEnds} → FrameInside a b → FrameInside b c → FrameInside a c
frame_trans p q = record { position = vector_trans p.position q.position; east = vector_trans p.east q.east; north = vector_trans p.north q.north; up = vector_trans p.up q.up }

pub place_trans : {a b c : PlaceEnds} → PlaceInside a b → PlaceInside b c → PlaceInside a c
place_trans p q = record { lat = inside_trans p.lat q.lat; lon = inside_trans p.lon q.lon; height = inside_trans p.height q.height }

pub pair_trans : {a b c : PairEnds} → PairInside a b → PairInside b c → PairInside a c
pair_trans p q = record { sine = inside_trans p.sine q.sine; cosine = inside_trans p.cosine q.cosine }

-- what is inside something is an interval in each part
pub vector_self : {a b : VectorEnds} → VectorInside a b → VectorInside a a
vector_self p = record { x = inside_self p.x.ordered; y = inside_self p.y.ordered; z = inside_self p.z.ordered }
