-- Determinants of a list of rows, and of it without one row, as far as they are worked out.
use Rattle.std.specs.Prelude.{◌≡◌, ℕ, List, None, IfSome, slice_index_or}
use Rattle.std.specs.declared.option.Option.{Option}
use Rattle.fix_interval.specs.declared.Iv64.{Iv64}
use Rattle.fix_interval.specs.Intervals.{ends_64}
use Rattle.geometry_laws.specs.Without.{without}
use Rattle.geom_laws.specs.Rows.{RowEnds}
use Rattle.slope_laws.specs.ShiftSlopes.{determinant_of}
use Rattle.slope_test.specs.declared.determinants.Determinants.{Determinants}

-- what is known is the determinant of the rows
abbrev pub IsDeterminant : Option Iv64 → List RowEnds → Type 0
IsDeterminant known rows = IfSome known (λ d. ends_64 d ≡ determinant_of rows)

-- and at each place that of the rows without the one at that place
abbrev pub AreWithout : List (Option Iv64) → List RowEnds → Type 0
AreWithout known rows = (i : ℕ) → IsDeterminant (slice_index_or known i None) (without i rows)

pub record AreDeterminants (known : Determinants) (rows : List RowEnds) : Type 0 where
  pub all : IsDeterminant known.all rows
  pub without : AreWithout known.without rows
