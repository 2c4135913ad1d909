use Rattle.time_forms.specs.Programs.{form}
use Rattle.matrix_forms.specs.Views.{rows_of}
use Rattle.slope_laws.specs.ShiftSlopes.{exclude_of}
use Rattle.slope_forms.specs.Slopes.{exclude_told}
use Rattle.slope_forms.proofs.Lists.{exclude_tells}
use Rattle.list_forms.specs.Views.{told}
use Rattle.list_forms.proofs.Answers.{tells_so}
use Rattle.list_forms.proofs.exclusion.exclude.Goals as goal

pub returns-clause-tells : goal.returns-clause-tells
returns-clause-tells c = λ h d named k k_less t v s p q r w.
    tells_so (told c.excluded.result) (exclude_told c.args.shift (rows_of c.args.rows.now) (form c.args.kappa) (form c.args.kappa_less)) (exclude_of c.args.shift named k k_less) c.excluded.ensures.exact
    (exclude_tells c.args.shift (rows_of c.args.rows.now) named (form c.args.kappa) (form c.args.kappa_less) k k_less t v s p q r w)
