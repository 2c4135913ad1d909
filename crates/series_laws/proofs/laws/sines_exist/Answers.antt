use Rattle.series_laws.proofs.Pairs.{has_pair}
use Rattle.series_laws.proofs.laws.sines_exist.Goals as goal

pub returns : goal.returns
returns c N u = let p = has_pair N u in (p.sine, p.cosine, p.pair)
