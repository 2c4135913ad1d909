use Rattle.std.proofs.Common.{arith}
use Rattle.std.proofs.lemmas.Int.{ints}
use Rattle.fix_interval.specs.Sums.{sub_of}
use Rattle.fix_interval.proofs.EndSums.{same_ends, sub_encloses, sub_isotone}
use Rattle.fix_interval.proofs.sums.sub.Goals as goal

pub returns-clause-exact : goal.returns-clause-exact
unfolding sub_of
returns-clause-exact c = same_ends (omega (arith, ints)) (omega (arith, ints))

pub returns-clause-encloses : goal.returns-clause-encloses
returns-clause-encloses c = sub_encloses (returns-clause-exact c)

pub returns-clause-isotone : goal.returns-clause-isotone
returns-clause-isotone c = sub_isotone (returns-clause-exact c)
