use Rattle.matrix_forms.specs.Views.{row_of, minors_of}
use Rattle.matrix_forms.specs.Lines.{along_north}
use Rattle.matrix_forms.proofs.Shorts.{negative_short}
use Rattle.matrix_forms.proofs.cofactors.less_north.Goals as goal

pub returns-in_err-without_north-clause-some : goal.returns-in_err-without_north-clause-some
returns-in_err-without_north-clause-some c s =
    let t = c.in_err-without_north.ensures.some (negative_short (along_north (row_of c.args.b.now) (minors_of c.args.m.now)) s) in cc
