use Rattle.std.proofs.Common.{arith}
use Rattle.std.proofs.lemmas.Int.{ints, clamps}
use Rattle.fix_interval.specs.Bounds.{hull_of}
use Rattle.fix_interval.proofs.EndSums.{same_ends}
use Rattle.fix_interval.proofs.EndBounds.{hull_encloses, hull_isotone}
use Rattle.fix_interval.proofs.comparisons.hull.Goals as goal

pub returns-clause-exact : goal.returns-clause-exact
unfolding hull_of
returns-clause-exact c = same_ends (omega (arith, ints, clamps)) (omega (arith, ints, clamps))

pub returns-clause-encloses : goal.returns-clause-encloses
returns-clause-encloses c = hull_encloses (returns-clause-exact c)

pub returns-clause-isotone : goal.returns-clause-isotone
returns-clause-isotone c = hull_isotone (returns-clause-exact c)
