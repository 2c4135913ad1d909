use Rattle.std.proofs.Common.{arith}
use Rattle.std.proofs.lemmas.Int.{ints}
use Rattle.fix_interval.proofs.EndBounds.{below_encloses}
use Rattle.fix_interval.proofs.comparisons.certainly_le.Goals as goal

pub returns-clause-encloses : goal.returns-clause-encloses
returns-clause-encloses c h = below_encloses (omega (arith, ints))
