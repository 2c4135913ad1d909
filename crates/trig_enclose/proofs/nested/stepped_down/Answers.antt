use Rattle.std.proofs.Common.{rules}
use Rattle.trig_laws.specs.Chains.{step_down}
use Rattle.trig_enclose.proofs.nested.stepped_down.Goals as goal

pub returns-clause-value : goal.returns-clause-value
unfolding step_down
returns-clause-value c = search rules
