use Rattle.fractions.specs.Pair.{pair_ratio, pair_is_at_most}
use Rattle.fractions.specs.Fraction.{ratio, neg, abs, is_at_most}
use Rattle.number_cases.proofs.intervals.decimals_are_rounded_outward.Goals as goal

pub dec76-requires-clause-small : goal.dec76-requires-clause-small
unfolding abs neg ratio pair_ratio is_at_most pair_is_at_most
dec76-requires-clause-small g c = record { le = tt }

pub dec76-requires-2-clause-small : goal.dec76-requires-2-clause-small
unfolding abs neg ratio pair_ratio is_at_most pair_is_at_most
dec76-requires-2-clause-small g c = record { le = tt }
