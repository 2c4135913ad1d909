use Rattle.time_forms.specs.Programs.{form}
use Rattle.matrix_forms.specs.Views.{rows_of}
use Rattle.slope_laws.specs.ShiftSlopes.{detect_of}
use Rattle.slope_forms.specs.Slopes.{detect_told}
use Rattle.slope_forms.proofs.Lists.{detect_tells}
use Rattle.list_forms.specs.Views.{told}
use Rattle.list_forms.proofs.Answers.{tells_so}
use Rattle.list_forms.proofs.detection.detect.Goals as goal

pub returns-clause-tells : goal.returns-clause-tells
returns-clause-tells c = λ h d named k t v s p q.
    tells_so (told c.detect_from.result) (detect_told c.args.shift (rows_of c.args.rows.now) (form c.args.kappa)) (detect_of c.args.shift named k) c.detect_from.ensures.exact
    (detect_tells c.args.shift (rows_of c.args.rows.now) named (form c.args.kappa) k t v s p q)
