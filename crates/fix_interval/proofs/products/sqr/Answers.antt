use Rattle.std.proofs.Common.{ap, ◌∙◌}
use Rattle.fix_interval.specs.Products.{sqr_of, narrow76_of}
use Rattle.fix_interval.proofs.EndSquares.{sqr_encloses, sqr_isotone}
use Rattle.fix_interval.proofs.products.sqr.Goals as goal

pub returns-clause-exact : goal.returns-clause-exact
unfolding sqr_of
returns-clause-exact c = c.narrow76.ensures.exact ∙ ap narrow76_of c.sqr_wide.ensures.exact

pub returns-clause-encloses : goal.returns-clause-encloses
returns-clause-encloses c = sqr_encloses (returns-clause-exact c)

pub returns-clause-isotone : goal.returns-clause-isotone
returns-clause-isotone c = sqr_isotone (returns-clause-exact c)
