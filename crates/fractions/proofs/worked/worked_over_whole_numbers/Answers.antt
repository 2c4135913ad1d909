use Rattle.std.proofs.Common.{[], ◌∷◌, pos, ◌+ℤ◌, ◌-ℤ◌, ◌*ℤ◌}
use lib.Dec.{lit≤}
use Rattle.whole_numbers.proofs.Quote.{quote, identity}
use Rattle.whole_numbers.proofs.Certificates.{at_most, at_most_scaled, below, equal_by, constants, constants_below, not_negative, positive, vanishing}
use Rattle.fractions.proofs.worked.worked_over_whole_numbers.Goals as goal

pub returns-clause-identity : goal.returns-clause-identity
returns-clause-identity c x y = identity (x ∷ y ∷ []) (search quote depth 20) tt

pub returns-clause-inequality : goal.returns-clause-inequality
returns-clause-inequality c x y = at_most (x ∷ y ∷ []) ((x -ℤ y) *ℤ (x -ℤ y)) (search not_negative) (search quote depth 20) tt

pub returns-clause-strict : goal.returns-clause-strict
returns-clause-strict c x y p h = below (x ∷ y ∷ []) ((y -ℤ x) *ℤ (y -ℤ x) +ℤ pos 2 *ℤ x *ℤ (y -ℤ x)) (search positive depth 8) (search quote depth 20) tt

pub returns-clause-scaled : goal.returns-clause-scaled
returns-clause-scaled c x y h = at_most_scaled (x ∷ y ∷ []) 3 (lit≤ tt) (pos 3 *ℤ y -ℤ pos 3 *ℤ x) (search not_negative) (search quote depth 20) tt

pub returns-clause-equation : goal.returns-clause-equation
returns-clause-equation o a b c e = equal_by (a ∷ b ∷ c ∷ []) (a *ℤ a +ℤ b *ℤ b -ℤ c *ℤ c) (search vanishing) (search quote depth 20) tt

pub returns-clause-constants : goal.returns-clause-constants
returns-clause-constants c = constants (search quote depth 20) tt

pub returns-clause-constants_below : goal.returns-clause-constants_below
returns-clause-constants_below c = constants_below (search quote depth 20) tt
