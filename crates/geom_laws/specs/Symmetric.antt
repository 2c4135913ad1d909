-- A symmetric matrix of the four axes as intervals of units of 2^-38: its ten entries on and above the diagonal.
use Rattle.std.specs.Prelude.{ℕ}
use Rattle.raim_model.specs.Geometry.{Axis, East, North, Up, Clock, Matrix}
use Rattle.fix_interval.specs.Ends.{Ends, IsInside}
use Rattle.fix_interval.specs.Lies.{Lies}
use Rattle.fix_interval.specs.Ranges.{around}

-- rows and columns 1 to 4 are East, North, Up and Clock
pub record SymEnds : Type 0 where
  pub a11 : Ends
  pub a12 : Ends
  pub a13 : Ends
  pub a14 : Ends
  pub a22 : Ends
  pub a23 : Ends
  pub a24 : Ends
  pub a33 : Ends
  pub a34 : Ends
  pub a44 : Ends

-- the entry of a row and a column
abbrev pub entry : SymEnds → Axis → Axis → Ends
entry h East East = h.a11
entry h East North = h.a12
entry h East Up = h.a13
entry h East Clock = h.a14
entry h North East = h.a12
entry h North North = h.a22
entry h North Up = h.a23
entry h North Clock = h.a24
entry h Up East = h.a13
entry h Up North = h.a23
entry h Up Up = h.a33
entry h Up Clock = h.a34
entry h Clock East = h.a14
entry h Clock North = h.a24
entry h Clock Up = h.a34
entry h Clock Clock = h.a44

-- the entries of X lie in those of h
pub record SymLies (h : SymEnds) (X : Matrix) : Type 0 where
  pub entries : (j k : Axis) → Lies (entry h j k) 38 (X j k)

-- the entries of a are inside those of b
pub record SymInside (a b : SymEnds) : Type 0 where
  pub entries : (j k : Axis) → IsInside (entry a j k) (entry b j k)

-- the matrix whose entries are all e
abbrev pub all_ends : Ends → SymEnds
all_ends e = record { a11 = e; a12 = e; a13 = e; a14 = e; a22 = e; a23 = e; a24 = e; a33 = e; a34 = e; a44 = e }

-- the entries of h have a magnitude of at most m
abbrev pub SymWithin : SymEnds → ℕ → Type 0
SymWithin h m = SymInside h (all_ends (around m))
