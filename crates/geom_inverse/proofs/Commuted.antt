-- A product of intervals does not depend on the order of its factors.
use Rattle.std.specs.Prelude.{◌≡◌, ℤ, ◌*ℤ◌, [], ◌∷◌}
use Rattle.std.proofs.Common.{arith, ap, ap₂, ◌∙◌}
use Rattle.std.proofs.lemmas.Int.{ints, clamps}
use Rattle.std.specs.Int.{int_min, int_max}
use Rattle.whole_numbers.proofs.Quote.{quote, identity}
use Rattle.fix_interval.specs.Ends.{Ends}
use Rattle.fix_interval.specs.Products.{mul_wide_of, narrow76_of}
use Rattle.fix_interval.specs.Sums.{sub_of}
use Rattle.fix_interval.proofs.EndSums.{same_ends}
use Rattle.geom_laws.specs.Determinant.{crossed_of}

turned : (x y : ℤ) → x *ℤ y ≡ y *ℤ x
turned x y = identity (x ∷ y ∷ []) (search quote depth 20) tt

-- the two in the middle change places
least_turned : (p q r s : ℤ) → int_min (int_min p q) (int_min r s) ≡ int_min (int_min p r) (int_min q s)
least_turned p q r s = omega (arith, ints, clamps)

greatest_turned : (p q r s : ℤ) → int_max (int_max p q) (int_max r s) ≡ int_max (int_max p r) (int_max q s)
greatest_turned p q r s = omega (arith, ints, clamps)

pub product_turned : (a b : Ends) → mul_wide_of a b ≡ mul_wide_of b a
unfolding mul_wide_of
product_turned a b = same_ends
    (least_turned (a.lo *ℤ b.lo) (a.lo *ℤ b.hi) (a.hi *ℤ b.lo) (a.hi *ℤ b.hi) ∙ ap₂ int_min (ap₂ int_min (turned a.lo b.lo) (turned a.hi b.lo)) (ap₂ int_min (turned a.lo b.hi) (turned a.hi b.hi)))
    (greatest_turned (a.lo *ℤ b.lo) (a.lo *ℤ b.hi) (a.hi *ℤ b.lo) (a.hi *ℤ b.hi) ∙ ap₂ int_max (ap₂ int_max (turned a.lo b.lo) (turned a.hi b.lo)) (ap₂ int_max (turned a.lo b.hi) (turned a.hi b.hi)))

pub crossed_turned : (a b c d : Ends) → crossed_of a b c d ≡ crossed_of a b d c
unfolding crossed_of
crossed_turned a b c d = ap (λ t. narrow76_of (sub_of (mul_wide_of a b) t)) (product_turned c d)
