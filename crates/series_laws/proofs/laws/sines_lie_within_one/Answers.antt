use Rattle.series_laws.proofs.Turns.{pair_within}
use Rattle.series_laws.proofs.laws.sines_lie_within_one.Goals as goal

pub returns-clause-sine : goal.returns-clause-sine
returns-clause-sine c N u s k p = let w = (pair_within N u s k p).0 in (w.low, w.high)

pub returns-clause-cosine : goal.returns-clause-cosine
returns-clause-cosine c N u s k p = let w = (pair_within N u s k p).1 in (w.low, w.high)
