use Rattle.std.proofs.Common.{arith, ◌+◌, ◌^◌}
use Rattle.time_forms.specs.Programs.{form}
use Rattle.look_forms.specs.Looks.{line_form}
use Rattle.matrix_forms.proofs.Bounds.{weaken}
use Rattle.sight_forms.proofs.Vectors.{same_vector}
use Rattle.sight_forms.proofs.line.line.Goals as goal

pub returns-clause-exact : goal.returns-clause-exact
unfolding line_form
returns-clause-exact c = same_vector c.sub.ensures.exact c.sub-2.ensures.exact c.sub-3.ensures.exact

pub returns-clause-small : goal.returns-clause-small
returns-clause-small c =
    let p = c.requires.place in
    let o = c.requires.position in
    record {
      x = weaken (form c.sub.result) (2 ^ 59 + 2 ^ 58) (2 ^ 60) (omega arith) (c.sub.ensures.small (2 ^ 59) (2 ^ 58) p.x o.x);
      y = weaken (form c.sub-2.result) (2 ^ 59 + 2 ^ 58) (2 ^ 60) (omega arith) (c.sub-2.ensures.small (2 ^ 59) (2 ^ 58) p.y o.y);
      z = weaken (form c.sub-3.result) (2 ^ 59 + 2 ^ 58) (2 ^ 60) (omega arith) (c.sub-3.ensures.small (2 ^ 59) (2 ^ 58) p.z o.z);
    }
