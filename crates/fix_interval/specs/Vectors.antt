-- Places and directions as intervals, in three components.
use Rattle.std.specs.Prelude.{ℕ, List, [], ◌∷◌}
use Rattle.raim_model.specs.Vector.{Vector}
use Rattle.fix_interval.specs.declared.interval.Iv.{Iv}
use Rattle.fix_interval.specs.Ends.{Ends, IsInside, IsNarrow, IsBelow}
use Rattle.fix_interval.specs.Ranges.{zero_ends}
use Rattle.fix_interval.specs.Lies.{Lies}
use Rattle.fix_interval.specs.Intervals.{ends}

-- the ends of the three components
pub record VectorEnds : Type 0 where
  pub x : Ends
  pub y : Ends
  pub z : Ends

-- the ends of the three intervals of the program; an array is a list in contracts, and no list of another length stands for one
abbrev pub vector_ends : List Iv → VectorEnds
vector_ends (x ∷ y ∷ z ∷ []) = record { x = ends x; y = ends y; z = ends z }
vector_ends _ = record { x = zero_ends; y = zero_ends; z = zero_ends }

-- each component of v lies in its ends
pub record VectorLies (p : VectorEnds) (v : Vector) : Type 0 where
  pub x : Lies p.x 38 v.x
  pub y : Lies p.y 38 v.y
  pub z : Lies p.z 38 v.z

-- each component of p is an interval, and inside that of q
pub record VectorInside (p q : VectorEnds) : Type 0 where
  pub x : IsInside p.x q.x
  pub y : IsInside p.y q.y
  pub z : IsInside p.z q.z

-- each component has a magnitude below m
pub record VectorBelow (p : VectorEnds) (m : ℕ) : Type 0 where
  pub x : IsBelow p.x m
  pub y : IsBelow p.y m
  pub z : IsBelow p.z m

-- each component is at most w units wide
pub record VectorNarrow (p : VectorEnds) (w : ℕ) : Type 0 where
  pub x : IsNarrow p.x w
  pub y : IsNarrow p.y w
  pub z : IsNarrow p.z w
