use Rattle.whole_numbers.proofs.Divisions.{floor_of_low, floor_of_high, floor_of-unique, floor_of_mono, floor_of-twice}
use Rattle.whole_numbers.proofs.laws.floor_is_rounded_down.Goals as goal

pub returns-clause-low : goal.returns-clause-low
returns-clause-low c = floor_of_low

pub returns-clause-high : goal.returns-clause-high
returns-clause-high c = floor_of_high

pub returns-clause-unique : goal.returns-clause-unique
returns-clause-unique c = floor_of-unique

pub returns-clause-grows : goal.returns-clause-grows
returns-clause-grows c = floor_of_mono

pub returns-clause-twice : goal.returns-clause-twice
returns-clause-twice c = floor_of-twice
