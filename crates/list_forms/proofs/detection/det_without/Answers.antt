use Rattle.std.proofs.Common.{◌≡◌, subst, IfSome}
use Rattle.geometry_laws.specs.Without.{without}
use Rattle.time_forms.specs.Programs.{form}
use Rattle.geometry_forms.specs.Matrices.{SymForm}
use Rattle.geometry_forms.specs.Geometry.{det_form}
use Rattle.matrix_forms.specs.Views.{rows_of}
use Rattle.list_forms.proofs.Lists.{matrix_is}
use Rattle.list_forms.proofs.detection.det_without.Goals as goal

pub returns-clause-exact : goal.returns-clause-exact
returns-clause-exact c =
    subst (λ (m : SymForm). IfSome c.det.result (λ f. form f ≡ det_form m)) (matrix_is (without c.args.i (rows_of c.args.rows.now)) c.in_ok-matrix.ensures.exact c.sums_less.ensures.exact) c.det.ensures.exact
