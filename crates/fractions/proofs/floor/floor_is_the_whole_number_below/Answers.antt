use Rattle.fractions.proofs.Floors.{floor_low, floor_high, floor-unique, at_most-floor, floor-ratio}
use Rattle.fractions.proofs.floor.floor_is_the_whole_number_below.Goals as goal

pub returns-clause-low : goal.returns-clause-low
returns-clause-low c = floor_low

pub returns-clause-high : goal.returns-clause-high
returns-clause-high c = floor_high

pub returns-clause-unique : goal.returns-clause-unique
returns-clause-unique c = floor-unique

pub returns-clause-greatest : goal.returns-clause-greatest
returns-clause-greatest c = at_most-floor

pub returns-clause-of_ratio : goal.returns-clause-of_ratio
returns-clause-of_ratio c = floor-ratio
