use Rattle.std.specs.Prelude.{true}
use Rattle.std.proofs.Math.Bool.{Bool-set}
use Rattle.fractions.proofs.Ratios.{by_ratio, ratio-same, ratio-same_out, ratio_at_most, ratio_at_most_out, ratio-add_cross, ratio-mul, neg-ratio}
use Rattle.fractions.proofs.StrictOrder.{ratio_below, ratio_below_out}
use Rattle.fractions.proofs.ratio.fractions_are_ratios.Goals as goal

pub returns-clause-every : goal.returns-clause-every
returns-clause-every c P f = by_ratio (λ x. Bool-set (P x) true) f

pub returns-clause-equal : goal.returns-clause-equal
returns-clause-equal c m n k l p q = (ratio-same_out m n k l p q, ratio-same m n k l p q)

pub returns-clause-at_most : goal.returns-clause-at_most
returns-clause-at_most c m n k l p q = (ratio_at_most_out m n k l p q, ratio_at_most m n k l p q)

pub returns-clause-below : goal.returns-clause-below
returns-clause-below c m n k l p q = (ratio_below_out m n k l p q, ratio_below m n k l p q)

pub returns-clause-sum : goal.returns-clause-sum
returns-clause-sum c = ratio-add_cross

pub returns-clause-product : goal.returns-clause-product
returns-clause-product c = ratio-mul

pub returns-clause-negation : goal.returns-clause-negation
returns-clause-negation c = neg-ratio
