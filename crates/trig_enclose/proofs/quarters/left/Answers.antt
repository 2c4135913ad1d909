use Rattle.std.proofs.Common.{arith}
use Rattle.std.proofs.lemmas.Int.{ints, clamps}
use Rattle.fix_interval.specs.Bounds.{clamp_of}
use Rattle.fix_interval.specs.Sums.{sub_of}
use Rattle.fix_interval.proofs.EndSums.{same_ends}
use Rattle.trig_laws.specs.Quarter.{left_of}
use Rattle.trig_enclose.proofs.quarters.left.Goals as goal

pub invariant_of-result : goal.invariant_of-result
invariant_of-result c = record { ordered = omega (arith, ints, clamps) }

pub returns-clause-exact : goal.returns-clause-exact
unfolding left_of sub_of clamp_of
returns-clause-exact c = same_ends (omega (arith, ints, clamps)) (omega (arith, ints, clamps))
