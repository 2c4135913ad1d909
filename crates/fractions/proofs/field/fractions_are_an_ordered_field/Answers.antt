use Rattle.fractions.proofs.Laws.{fractions_are_ring, fractions_are_ordered, order_is_compatible}
use Rattle.fractions.proofs.Inverses.{*ᶠ_inverse, inverse-zero}
use Rattle.fractions.proofs.StrictOrder.{zero_below_one, fractions_are_strictly_ordered, +ᶠ_strict_left, *ᶠ_strict_left}
use Rattle.fractions.proofs.field.fractions_are_an_ordered_field.Goals as goal

pub returns-clause-ring : goal.returns-clause-ring
returns-clause-ring c = fractions_are_ring

pub returns-clause-inverses : goal.returns-clause-inverses
returns-clause-inverses c = *ᶠ_inverse

pub returns-clause-inverse_of_zero : goal.returns-clause-inverse_of_zero
returns-clause-inverse_of_zero c = inverse-zero

pub returns-clause-zero_below_one : goal.returns-clause-zero_below_one
returns-clause-zero_below_one c = zero_below_one

pub returns-clause-order : goal.returns-clause-order
returns-clause-order c = fractions_are_ordered

pub returns-clause-strict : goal.returns-clause-strict
returns-clause-strict c = fractions_are_strictly_ordered

pub returns-clause-compatible : goal.returns-clause-compatible
returns-clause-compatible c = order_is_compatible

pub returns-clause-strict_sums : goal.returns-clause-strict_sums
returns-clause-strict_sums c x y z h = +ᶠ_strict_left z h

pub returns-clause-strict_products : goal.returns-clause-strict_products
returns-clause-strict_products c x y z p h = *ᶠ_strict_left p h
