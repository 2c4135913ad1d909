use Rattle.matrix_forms.specs.Views.{row_of, minors_of}
use Rattle.matrix_forms.specs.Lines.{along_clock}
use Rattle.matrix_forms.proofs.Shorts.{negative_short}
use Rattle.matrix_forms.proofs.cofactors.less_clock.Goals as goal

pub returns-in_err-without_clock-clause-some : goal.returns-in_err-without_clock-clause-some
returns-in_err-without_clock-clause-some c s =
    let t = c.in_err-without_clock.ensures.some (negative_short (along_clock (row_of c.args.b.now) (minors_of c.args.m.now)) s) in cc
