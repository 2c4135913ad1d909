-- what is kept is known
use Rattle.std.proofs.Common.{◌≡◌, ◌≤◌, List, length}
use Rattle.geometry_laws.specs.Without.{without}
use Rattle.geom_laws.specs.Rows.{RowEnds}
use Rattle.slope_test.specs.Determinants.{AreDeterminants}
use Rattle.exclusion_subsets.specs.Pairs.{ArePairs}
use Rattle.exclusion_subsets.proofs.pairs.Pairs.keep.Given as goal

abbrev pub invariant-loop-i : goal.invariant-loop-i
invariant-loop-i l = record {
  size : length l.self.places ≡ 256;
  from : l.j ≤ l.i;
  known : (rows : List RowEnds) → ArePairs l.fn.self.places rows → AreDeterminants l.dets (without l.j rows) → ArePairs l.self.places rows;
}
