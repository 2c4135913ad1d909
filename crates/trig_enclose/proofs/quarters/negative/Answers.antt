use Rattle.std.proofs.Common.{arith}
use Rattle.std.proofs.lemmas.Int.{ints}
use Rattle.fix_interval.specs.Sums.{sub_of, neg_of}
use Rattle.fix_interval.proofs.EndSums.{same_ends}
use Rattle.trig_enclose.proofs.quarters.negative.Goals as goal

pub returns : goal.returns
unfolding neg_of sub_of
returns c = same_ends (omega (arith, ints)) (omega (arith, ints))
