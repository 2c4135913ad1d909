use Rattle.std.proofs.Common.{arith, ◌*◌, ◌+◌, ◌^◌}
use Rattle.time_forms.specs.Programs.{wide}
use Rattle.matrix_forms.proofs.Bounds.{weaken}
use Rattle.sight_forms.proofs.line.product.Goals as goal

pub returns-clause-small : goal.returns-clause-small
returns-clause-small c = weaken (wide c.wide_product.result) (6 * (2 ^ 60 * 2 ^ 60) + 1) (2 ^ 123) (omega arith) (c.wide_product.ensures.small (2 ^ 60) (2 ^ 60) c.requires.a_small c.requires.b_small)
