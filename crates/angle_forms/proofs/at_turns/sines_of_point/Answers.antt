use Rattle.std.proofs.Common.{ap, sym, subst, ◌∙◌}
use Rattle.fix_interval.specs.Intervals.{ends}
use Rattle.fix_interval.specs.Pairs.{PairEnds, full_pair, PairInside}
use Rattle.fix_interval.specs.Ranges.{point}
use Rattle.trig_laws.specs.SinCos.{sin_cos_of}
use Rattle.trig_laws.proofs.Encloses.{sin_cos_full}
use Rattle.orbit_forms.specs.Positions.{fixed_pair}
use Rattle.angle_forms.proofs.Fits.{long-plain}
use Rattle.angle_forms.proofs.at_turns.sines_of_point.Goals as goal

pub sines_that_stay-requires : goal.sines_that_stay-requires
sines_that_stay-requires c = subst (λ (p : PairEnds). PairInside p full_pair) (sym c.sin_cos-pair.ensures.exact) (sin_cos_full (ends c.point.result) c.point.result.ordered)

pub returns-clause-exact : goal.returns-clause-exact
returns-clause-exact c = c.sines_that_stay.ensures.exact ∙ ap fixed_pair (c.sin_cos-pair.ensures.exact ∙ ap sin_cos_of (c.point.ensures ∙ ap point (long-plain c.args.turns c.requires)))
