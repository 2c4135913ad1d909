use Rattle.whole_numbers.proofs.Roots.{root_of_low, root_of_high, root_of-unique, root_of_mono}
use Rattle.whole_numbers.proofs.laws.root_is_rounded_down.Goals as goal

pub returns-clause-low : goal.returns-clause-low
returns-clause-low c = root_of_low

pub returns-clause-high : goal.returns-clause-high
returns-clause-high c = root_of_high

pub returns-clause-unique : goal.returns-clause-unique
returns-clause-unique c = root_of-unique

pub returns-clause-grows : goal.returns-clause-grows
returns-clause-grows c = root_of_mono
