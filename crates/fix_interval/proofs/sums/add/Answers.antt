use Rattle.std.proofs.Common.{arith}
use Rattle.std.proofs.lemmas.Int.{ints}
use Rattle.fix_interval.specs.Sums.{add_of}
use Rattle.fix_interval.proofs.EndSums.{same_ends, add_encloses, add_isotone}
use Rattle.fix_interval.proofs.sums.add.Goals as goal

pub returns-clause-exact : goal.returns-clause-exact
unfolding add_of
returns-clause-exact c = same_ends (omega (arith, ints)) (omega (arith, ints))

pub returns-clause-encloses : goal.returns-clause-encloses
returns-clause-encloses c = add_encloses (returns-clause-exact c)

pub returns-clause-isotone : goal.returns-clause-isotone
returns-clause-isotone c = add_isotone (returns-clause-exact c)
