use Rattle.fix_interval.specs.Sums.{neg_of}
use Rattle.wgs_position.proofs.directions.negative.Goals as goal

pub returns : goal.returns
unfolding neg_of
returns c = c.sub.ensures.exact
