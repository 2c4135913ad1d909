use Rattle.time_laws.proofs.FaultLemmas.{answer_comes}
use Rattle.time_laws.proofs.laws.a_range_has_an_answer.Goals as goal

pub returns : goal.returns
returns c = answer_comes
