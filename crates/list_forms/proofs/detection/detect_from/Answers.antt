use Rattle.std.proofs.Common.{arith, inr}
use Rattle.time_forms.specs.Programs.{form}
use Rattle.matrix_forms.specs.Views.{rows_of}
use Rattle.slope_forms.specs.Slopes.{detect_told}
use Rattle.list_forms.proofs.Answers.{list_or_unknown}
use Rattle.list_forms.proofs.Lists.{detect_few}
use Rattle.list_forms.proofs.detection.detect_from.Goals as goal

pub returns-then-rows-lt5-clause-exact : goal.returns-then-rows-lt5-clause-exact
returns-then-rows-lt5-clause-exact c = inr (detect_few c.args.shift c.args.rows.now (form c.args.kappa) (omega arith))

pub returns-clause-exact : goal.returns-clause-exact
returns-clause-exact c = list_or_unknown c.told_of_enough.result c.unwrap_or.result (detect_told c.args.shift (rows_of c.args.rows.now) (form c.args.kappa)) c.told_of_enough.ensures c.unwrap_or.ensures
