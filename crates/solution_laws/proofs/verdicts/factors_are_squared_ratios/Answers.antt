use Rattle.raim_model.specs.PointVerdict.{bias_of}
use Rattle.solution_laws.proofs.Biases.{square_over}
use Rattle.solution_laws.proofs.verdicts.factors_are_squared_ratios.Goals as goal

pub returns : goal.returns
returns c limits alert_mm n h = square_over (bias_of limits n) alert_mm h
