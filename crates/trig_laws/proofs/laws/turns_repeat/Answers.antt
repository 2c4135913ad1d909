use Rattle.trig_laws.proofs.Periods.{sin_cos_on}
use Rattle.trig_laws.proofs.laws.turns_repeat.Goals as goal

pub returns : goal.returns
returns c a w = sin_cos_on a w
