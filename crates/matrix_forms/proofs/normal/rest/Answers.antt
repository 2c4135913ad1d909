use Rattle.std.proofs.Common.{arith}
use Rattle.std.proofs.lemmas.Int.{ints}
use Rattle.time_forms.specs.Operations.{less_form}
use Rattle.time_forms.proofs.FormSums.{same_form}
use Rattle.matrix_forms.proofs.normal.rest.Goals as goal

pub returns : goal.returns
unfolding less_form
returns c = same_form (omega (arith, ints)) (omega (arith, ints)) (omega (arith, ints))
