use Rattle.geom_laws.proofs.Adjugates.{alpha_lies, alpha_inside}
use Rattle.geom_laws.proofs.Bounds.{alpha_within, horizontal_within, vertical_within}
use Rattle.geom_laws.proofs.laws.alphas_are_enclosed.Goals as goal

pub returns-clause-encloses : goal.returns-clause-encloses
returns-clause-encloses c adj r X g j v w = alpha_lies adj r X g j v w

pub returns-clause-isotone : goal.returns-clause-isotone
returns-clause-isotone c adj a r s j v w = alpha_inside adj a r s j v w

pub returns-clause-bound : goal.returns-clause-bound
returns-clause-bound c adj r j v w = alpha_within adj r j v w

pub returns-clause-square_bound : goal.returns-clause-square_bound
returns-clause-square_bound c a b p q = horizontal_within a b p q

pub returns-clause-vertical_bound : goal.returns-clause-vertical_bound
returns-clause-vertical_bound c a p = vertical_within a p
