-- The inverse of a fraction, and division.
use mathlib.Core.Quot.{lift, sound, Quot-set}
use Rattle.fractions.specs.Pair.{Pair, Same, pair_inverse}
use Rattle.fractions.specs.Fraction.{Fraction, of_pair, ◌*ᶠ◌}
use Rattle.fractions.specs.SamePairs.{same_inverse}

-- 1 / x, and 0 at 0
unfoldable pub inverse : Fraction → Fraction
inverse x = lift {r = Same} Quot-set (λ (a : Pair). of_pair (pair_inverse a)) (λ a b h. sound (same_inverse a b h)) x

infixl 7 ◌/ᶠ◌
-- the quotient, and 0 where y is 0
abbrev pub ◌/ᶠ◌ : Fraction → Fraction → Fraction
x /ᶠ y = x *ᶠ inverse y
