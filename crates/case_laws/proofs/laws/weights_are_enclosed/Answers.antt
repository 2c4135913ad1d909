use Rattle.case_laws.proofs.Weights.{weight_encloses, weight_bounded}
use Rattle.case_laws.proofs.laws.weights_are_enclosed.Goals as goal

pub returns-clause-encloses : goal.returns-clause-encloses
returns-clause-encloses c weights prn = weight_encloses weights prn

pub returns-clause-bound : goal.returns-clause-bound
returns-clause-bound c weights prn a = weight_bounded weights prn a.each
