use Rattle.std.proofs.Common.{sym}
use Rattle.time_forms.specs.Operations.{mul_form}
use Rattle.time_forms.specs.Programs.{form}
use Rattle.time_forms.proofs.Shorts.{short_same}
use Rattle.look_forms.specs.Looks.{weighed_form}
use Rattle.sight_forms.proofs.Vectors.{same_row}
use Rattle.sight_forms.proofs.row.weighed.Goals as goal

pub returns : goal.returns
unfolding weighed_form
returns c =
    let k = form c.args.weight in
    let a = c.args.direction in
    same_row k (short_same (mul_form k (form a.east)) (form c.in_ok-e.e) (sym c.in_ok-e.ensures.exact)) (short_same (mul_form k (form a.north)) (form c.in_ok-n.n) (sym c.in_ok-n.ensures.exact))
    (short_same (mul_form k (form a.up)) (form c.in_ok-u.u) (sym c.in_ok-u.ensures.exact))
