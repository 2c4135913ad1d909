-- A row of the geometry as intervals of units of 2^-38: a satellite's direction and 1, times its weight.
use Rattle.std.specs.Prelude.{ℕ, List, [], ◌∷◌}
use Rattle.raim_model.specs.Geometry.{Axis, East, North, Up, Clock, Row}
use Rattle.fix_interval.specs.Ends.{Ends, IsInside}
use Rattle.fix_interval.specs.Ranges.{around, one_ends}
use Rattle.fix_interval.specs.Lies.{Lies}
use Rattle.fix_interval.specs.Products.{mul_of}

-- the parts of a row; the last one is the weight
pub record RowEnds : Type 0 where
  pub e : Ends
  pub n : Ends
  pub u : Ends
  pub k : Ends

-- the part of an axis
abbrev pub part : RowEnds → Axis → Ends
part r East = r.e
part r North = r.n
part r Up = r.u
part r Clock = r.k

-- the row of a direction, which has the weight 1
unfoldable pub row_of_ends : (e n u : Ends) → RowEnds
row_of_ends e n u = record { e = e; n = n; u = u; k = one_ends }

-- the row of a direction and a weight
unfoldable pub weighed_of : (e n u k : Ends) → RowEnds
weighed_of e n u k = record { e = mul_of k e; n = mul_of k n; u = mul_of k u; k = k }

-- the parts of g lie in those of r
pub record RowLies (r : RowEnds) (g : Row) : Type 0 where
  pub parts : (j : Axis) → Lies (part r j) 38 (g j)

-- the parts of a are inside those of b
pub record RowInside (a b : RowEnds) : Type 0 where
  pub parts : (j : Axis) → IsInside (part a j) (part b j)

-- the parts of r have a magnitude of at most m
abbrev pub RowWithin : RowEnds → ℕ → Type 0
RowWithin r m = RowInside r record { e = around m; n = around m; u = around m; k = around m }

-- the rows gs lie in the rows rs, one by one
abbrev pub RowsLie : List RowEnds → List Row → Type 0
RowsLie [] [] = Unit
RowsLie (r ∷ rs) (g ∷ gs) = RowLies r g × RowsLie rs gs
RowsLie rs gs = ⊥

-- the rows as are inside the rows bs, one by one
abbrev pub RowsInside : List RowEnds → List RowEnds → Type 0
RowsInside [] [] = Unit
RowsInside (a ∷ at) (b ∷ bs) = RowInside a b × RowsInside at bs
RowsInside at bs = ⊥
