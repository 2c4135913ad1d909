use Rattle.whole_numbers.proofs.Integers.{integers_are_ring, integers_are_ordered, integers_are_strictly_ordered}
use Rattle.whole_numbers.proofs.Products.{order_is_compatible}
use Rattle.whole_numbers.proofs.laws.integers_are_an_ordered_ring.Goals as goal

pub returns-clause-ring : goal.returns-clause-ring
returns-clause-ring c = integers_are_ring

pub returns-clause-order : goal.returns-clause-order
returns-clause-order c = integers_are_ordered

pub returns-clause-strict : goal.returns-clause-strict
returns-clause-strict c = integers_are_strictly_ordered

pub returns-clause-compatible : goal.returns-clause-compatible
returns-clause-compatible c = order_is_compatible
