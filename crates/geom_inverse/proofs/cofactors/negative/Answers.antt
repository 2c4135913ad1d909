use Rattle.fix_interval.specs.Sums.{neg_of}
use Rattle.geom_inverse.proofs.cofactors.negative.Goals as goal

pub returns : goal.returns
unfolding neg_of
returns c = c.less.ensures.exact
