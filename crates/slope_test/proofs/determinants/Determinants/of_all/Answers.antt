use Rattle.fix_interval.specs.Intervals.{ends_64}
use Rattle.geom_inverse.specs.Views.{sym_ends}
use Rattle.slope_test.proofs.Detections.{determinant_is}
use Rattle.slope_test.proofs.determinants.Determinants.of_all.Goals as goal

pub returns-in-None : goal.returns-in-None
returns-in-None c = λ rows known e. determinant_is (ends_64 c.det_64.result) (sym_ends c.args.gram.now) rows c.det_64.ensures.exact e
