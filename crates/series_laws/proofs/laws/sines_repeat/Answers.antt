use Rattle.series_laws.proofs.Periods.{sine_on}
use Rattle.series_laws.proofs.laws.sines_repeat.Goals as goal

pub returns : goal.returns
returns c N u s k w p = sine_on N u s k w p
