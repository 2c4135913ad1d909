use Rattle.std.proofs.Common.{ap, sym, ◌∙◌, inr}
use Rattle.time_forms.specs.Programs.{form}
use Rattle.geometry_forms.specs.Geometry.{det_form}
use Rattle.matrix_forms.specs.Views.{rows_of, matrix_of}
use Rattle.list_forms.specs.Views.{told}
use Rattle.list_forms.proofs.Lists.{matrix_is, detect_irregular, detect_regular}
use Rattle.list_forms.proofs.detection.told_of_enough.Goals as goal

pub returns-then-not-passes : goal.returns-then-not-passes
returns-then-not-passes c =
    let matrix = matrix_is (rows_of c.args.rows.now) c.in_ok-matrix.ensures.exact c.requires.all in
    inr (detect_irregular c.args.shift c.args.rows.now (form c.args.kappa) (form c.in_ok-determinant.determinant) (told c.told_by_determinant-regular.result) c.requires.enough
    (c.in_ok-determinant.ensures.exact ∙ ap det_form matrix) c.told_by_determinant-regular.ensures (sym c.passes.ensures ∙ c.if-not-passes.true))

pub returns : goal.returns
returns c =
    let matrix = matrix_is (rows_of c.args.rows.now) c.in_ok-matrix.ensures.exact c.requires.all in
    detect_regular c.args.shift c.args.rows.now (form c.args.kappa) (form c.in_ok-determinant.determinant) (matrix_of c.in_ok-matrix.matrix) c.in_ok-lines.lines (told c.told_by_determinant-regular.result) (told c.slopes.result) c.requires.enough
    matrix c.in_ok-determinant.ensures.exact c.told_by_determinant-regular.ensures (sym c.passes.ensures ∙ c.if-not-passes.false) c.in_ok-lines.ensures c.slopes.ensures
