use Rattle.geometry_forms.specs.Geometry.{adjugate_form}
use Rattle.matrix_forms.specs.Views.{matrix_of}
use Rattle.list_forms.proofs.Answers.{across, upward}
use Rattle.list_forms.proofs.lines.lines_for.Goals as goal

pub returns-in_ok-east-in-Horizontal : goal.returns-in_ok-east-in-Horizontal
returns-in_ok-east-in-Horizontal c =
    let rows = c.in_ok-east-in-Horizontal.ensures.exact in
    across c.args.shift (adjugate_form (matrix_of c.args.matrix.now)) c.in_ok-east-in-Horizontal.east c.in_ok-east-in-Horizontal.north c.in-Horizontal.is rows.0 rows.1

pub returns-in_ok-up-in-Vertical : goal.returns-in_ok-up-in-Vertical
returns-in_ok-up-in-Vertical c = upward c.args.shift (adjugate_form (matrix_of c.args.matrix.now)) c.in_ok-up-in-Vertical.up c.in-Vertical.is c.in_ok-up-in-Vertical.ensures.exact
