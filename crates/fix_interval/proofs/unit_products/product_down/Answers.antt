use Rattle.std.proofs.Common.{arith}
use Rattle.std.proofs.lemmas.Grind.{common_steps}
use Rattle.fix_interval.proofs.UnitProducts.{product_small}
use Rattle.fix_interval.proofs.unit_products.product_down.Goals as goal

pub returns-clause-value : goal.returns-clause-value
returns-clause-value c = grind (arith, common_steps)

pub returns-clause-low : goal.returns-clause-low
returns-clause-low c = rw (returns-clause-value c) (product_small c.args.x c.args.h c.requires.low c.requires.high c.requires.unit).0

pub returns-clause-high : goal.returns-clause-high
returns-clause-high c = rw (returns-clause-value c) (product_small c.args.x c.args.h c.requires.low c.requires.high c.requires.unit).1
