use Rattle.std.proofs.Common.{arith}
use Rattle.std.proofs.lemmas.Int.{ints, clamps}
use Rattle.fix_interval.specs.Bounds.{clamp_of}
use Rattle.fix_interval.proofs.EndSums.{same_ends}
use Rattle.fix_interval.proofs.EndBounds.{clamp_encloses, clamp_isotone}
use Rattle.fix_interval.proofs.comparisons.clamp.Goals as goal

pub returns-clause-exact : goal.returns-clause-exact
unfolding clamp_of
returns-clause-exact c = same_ends (omega (arith, ints, clamps)) (omega (arith, ints, clamps))

pub returns-clause-encloses : goal.returns-clause-encloses
returns-clause-encloses c = clamp_encloses c.args.m (returns-clause-exact c)

pub returns-clause-isotone : goal.returns-clause-isotone
returns-clause-isotone c = clamp_isotone c.args.m (returns-clause-exact c) (omega (arith, ints, clamps))

pub returns-clause-lo : goal.returns-clause-lo
returns-clause-lo c = omega (arith, ints, clamps)

pub invariant_of-result : goal.invariant_of-result
invariant_of-result c = record { ordered = omega (arith, ints, clamps) }
