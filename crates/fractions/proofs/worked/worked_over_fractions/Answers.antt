use Rattle.std.proofs.Common.{[], ◌∷◌, pos}
use Rattle.fractions.specs.Fraction.{ratio, ◌+ᶠ◌, ◌-ᶠ◌, ◌*ᶠ◌}
use Rattle.fractions.proofs.Quote.{quote, identity}
use Rattle.fractions.proofs.Certificates.{at_most, at_most_scaled, below, equal_by, constants, constants_below, not_negative, positive, vanishing}
use Rattle.fractions.proofs.worked.worked_over_fractions.Goals as goal

pub returns-clause-identity : goal.returns-clause-identity
returns-clause-identity c x y = identity (x ∷ y ∷ []) (search quote depth 20) tt

pub returns-clause-inequality : goal.returns-clause-inequality
returns-clause-inequality c x y = at_most (x ∷ y ∷ []) ((x -ᶠ y) *ᶠ (x -ᶠ y)) (search not_negative) (search quote depth 20) tt

pub returns-clause-strict : goal.returns-clause-strict
returns-clause-strict c x y h = below (x ∷ y ∷ []) (ratio (pos 1) 2 *ᶠ (y -ᶠ x)) (search positive) (search quote depth 20) tt

pub returns-clause-scaled : goal.returns-clause-scaled
returns-clause-scaled c x y p h = at_most_scaled (x ∷ y ∷ []) x (search positive) (x *ᶠ y -ᶠ x *ᶠ x) (search not_negative) (search quote depth 20) tt

pub returns-clause-equation : goal.returns-clause-equation
returns-clause-equation o a b c e = equal_by (a ∷ b ∷ c ∷ []) (a *ᶠ a +ᶠ b *ᶠ b -ᶠ c *ᶠ c) (search vanishing) (search quote depth 20) tt

pub returns-clause-constants : goal.returns-clause-constants
returns-clause-constants c = constants (search quote depth 20) tt

pub returns-clause-constants_below : goal.returns-clause-constants_below
returns-clause-constants_below c = constants_below (search quote depth 20) tt
