use Rattle.std.proofs.Common.{sym, subst}
use Rattle.fix_interval.specs.Intervals.{ends}
use Rattle.fix_interval.specs.Pairs.{full_pair, PairInside}
use Rattle.trig_laws.proofs.Encloses.{sin_cos_full}
use Rattle.wgs_position.proofs.receiver.sines.Goals as goal

pub returns-clause-bound : goal.returns-clause-bound
returns-clause-bound c = subst (λ p. PairInside p full_pair) (sym c.sin_cos.ensures.exact) (sin_cos_full (ends c.args.turns) c.args.turns.ordered)
