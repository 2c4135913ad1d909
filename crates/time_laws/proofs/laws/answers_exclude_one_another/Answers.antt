use Rattle.std.specs.Prelude.{None}
use Rattle.time_laws.proofs.FaultLemmas.{runs-no_fault, faults-one}
use Rattle.time_laws.proofs.RunLemmas.{AreRunsAfter-one}
use Rattle.time_laws.proofs.laws.answers_exclude_one_another.Goals as goal

pub returns : goal.returns
returns c = record { runs = λ w. AreRunsAfter-one w None; no_fault = runs-no_fault; one_fault = faults-one }
