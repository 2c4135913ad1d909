use Rattle.matrix_forms.specs.Views.{row_of, minors_of}
use Rattle.matrix_forms.specs.Lines.{along_up}
use Rattle.matrix_forms.proofs.Shorts.{negative_short}
use Rattle.matrix_forms.proofs.cofactors.less_up.Goals as goal

pub returns-in_err-without_up-clause-some : goal.returns-in_err-without_up-clause-some
returns-in_err-without_up-clause-some c s =
    let t = c.in_err-without_up.ensures.some (negative_short (along_up (row_of c.args.b.now) (minors_of c.args.m.now)) s) in cc
