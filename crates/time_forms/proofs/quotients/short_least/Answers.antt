use Rattle.std.proofs.Common.{arith}
use Rattle.std.proofs.lemmas.Int.{ints}
use Rattle.time_forms.specs.Forms.{least_of}
use Rattle.time_forms.proofs.quotients.short_least.Goals as goal

pub returns-clause-value : goal.returns-clause-value
unfolding least_of
returns-clause-value c = omega (arith, ints)
