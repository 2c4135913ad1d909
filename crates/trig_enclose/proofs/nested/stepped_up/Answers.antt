use Rattle.std.proofs.Common.{rules}
use Rattle.trig_laws.specs.Chains.{step_up}
use Rattle.trig_enclose.proofs.nested.stepped_up.Goals as goal

pub returns-clause-value : goal.returns-clause-value
unfolding step_up
returns-clause-value c = search rules
