use Rattle.std.proofs.Common.{◌+◌, ◌*◌}
use Rattle.geometry_laws.specs.Without.{without}
use Rattle.slope_test.proofs.Stores.{none_known}
use Rattle.exclusion_subsets.proofs.pairs.Pairs.none.Goals as goal

pub returns : goal.returns
returns c = λ rows i j p. none_known 256 (16 * j + i) (without i (without j rows))
