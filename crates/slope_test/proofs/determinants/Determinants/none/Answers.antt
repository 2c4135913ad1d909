use Rattle.slope_test.proofs.Stores.{none_known}
use Rattle.geometry_laws.specs.Without.{without}
use Rattle.slope_test.proofs.determinants.Determinants.none.Goals as goal

pub returns : goal.returns
returns c = λ rows. record {
  all = tt;
  without = λ i. none_known 32 i (without i rows);
}
