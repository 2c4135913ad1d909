-- The floor of a fraction.
use Rattle.std.specs.Prelude.{ℤ}
use Rattle.std.proofs.Math.IntN.{ℤ_set}
use mathlib.Core.Quot.{lift}
use Rattle.fractions.specs.Pair.{Same, pair_floor}
use Rattle.fractions.specs.Fraction.{Fraction}
use Rattle.fractions.specs.SamePairs.{pair_floor_same}

-- the greatest whole number that is at most x
unfoldable pub floor : Fraction → ℤ
floor x = lift {r = Same} ℤ_set pair_floor pair_floor_same x
