use Rattle.std.proofs.Common.{refl}
use Rattle.geometry_laws.specs.Without.{without}
use Rattle.slope_test.proofs.Stores.{none_known}
use Rattle.exclusion_subsets.proofs.pairs.Pairs.line.Goals as goal

pub returns-then-j-ge-MOST : goal.returns-then-j-ge-MOST
returns-then-j-ge-MOST c = λ rows pairs i. none_known 32 i (without i (without c.args.j rows))

pub loop-i-init : goal.loop-i-init
loop-i-init c = record {
  size = refl;
  known = λ rows pairs i. none_known 32 i (without i (without c.args.j rows));
}
