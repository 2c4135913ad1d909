use Rattle.trig_laws.specs.Chains.{nest_end}
use Rattle.trig_enclose.proofs.nested.sine_nest_low.Goals as goal

pub returns-clause-value : goal.returns-clause-value
unfolding nest_end
returns-clause-value c = cc
