use Rattle.fractions.proofs.Floors.{ratio-floor_of, ratio-ceil_of}
use Rattle.fractions.proofs.floor.rounding_goes_outward.Goals as goal

pub returns-clause-down : goal.returns-clause-down
returns-clause-down c = ratio-floor_of

pub returns-clause-up : goal.returns-clause-up
returns-clause-up c = ratio-ceil_of
