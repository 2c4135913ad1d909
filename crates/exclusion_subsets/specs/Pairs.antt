-- A store of determinants of lists without two rows.
use Rattle.std.specs.Prelude.{ℕ, ◌+◌, ◌*◌, ◌<◌, List, None, slice_index_or}
use Rattle.std.specs.declared.option.Option.{Option}
use Rattle.fix_interval.specs.declared.Iv64.{Iv64}
use Rattle.geometry_laws.specs.Without.{without}
use Rattle.geom_laws.specs.Rows.{RowEnds}
use Rattle.slope_test.specs.Determinants.{IsDeterminant}

-- in its line j, at place i, is that of the list without the row at place j, without the i-th of the others
abbrev pub ArePairs : (places : List (Option Iv64)) (rows : List RowEnds) → Type 0
ArePairs places rows = (i j : ℕ) → i < 16 → IsDeterminant (slice_index_or places (16 * j + i) None) (without i (without j rows))
