use Rattle.fix_interval.specs.Pairs.{pair_hull}
use Rattle.fix_interval.proofs.EndPairs.{same_pair}
use Rattle.fix_interval.proofs.pairs.joined.Goals as goal

pub returns : goal.returns
unfolding pair_hull
returns c = same_pair c.hull.ensures.exact c.hull-2.ensures.exact
