use Rattle.whole_numbers.proofs.Divisions.{ceil_of_high, ceil_of_low, ceil_of-unique, ceil_of_mono, ceil_of-twice}
use Rattle.whole_numbers.proofs.laws.ceiling_is_rounded_up.Goals as goal

pub returns-clause-high : goal.returns-clause-high
returns-clause-high c = ceil_of_high

pub returns-clause-low : goal.returns-clause-low
returns-clause-low c = ceil_of_low

pub returns-clause-unique : goal.returns-clause-unique
returns-clause-unique c = ceil_of-unique

pub returns-clause-grows : goal.returns-clause-grows
returns-clause-grows c = ceil_of_mono

pub returns-clause-twice : goal.returns-clause-twice
returns-clause-twice c = ceil_of-twice
