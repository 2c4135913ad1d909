-- what is copied is known
use Rattle.std.proofs.Common.{◌≡◌, List, length}
use Rattle.geometry_laws.specs.Without.{without}
use Rattle.geom_laws.specs.Rows.{RowEnds}
use Rattle.slope_test.specs.Determinants.{AreWithout}
use Rattle.exclusion_subsets.specs.Pairs.{ArePairs}
use Rattle.exclusion_subsets.proofs.pairs.Pairs.line.Given as goal

abbrev pub invariant-loop-i : goal.invariant-loop-i
invariant-loop-i l = record {
  size : length l.line ≡ 32;
  known : (rows : List RowEnds) → ArePairs l.self.places rows → AreWithout l.line (without l.j rows);
}
