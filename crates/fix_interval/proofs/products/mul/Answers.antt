use Rattle.std.proofs.Common.{ap, ◌∙◌}
use Rattle.fix_interval.specs.Products.{mul_of, narrow76_of}
use Rattle.fix_interval.proofs.EndProducts.{mul_encloses, mul_isotone}
use Rattle.fix_interval.proofs.products.mul.Goals as goal

pub returns-clause-exact : goal.returns-clause-exact
unfolding mul_of
returns-clause-exact c = c.narrow76.ensures.exact ∙ ap narrow76_of c.mul_wide.ensures.exact

pub returns-clause-encloses : goal.returns-clause-encloses
returns-clause-encloses c = mul_encloses (returns-clause-exact c)

pub returns-clause-isotone : goal.returns-clause-isotone
returns-clause-isotone c = mul_isotone (returns-clause-exact c)
