use Rattle.slope_laws.proofs.ShiftSlopes.{shift_holds}
use Rattle.slope_laws.proofs.laws.slopes_are_enclosed.Goals as goal

pub returns : goal.returns
returns c shift = shift_holds shift
