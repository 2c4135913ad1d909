-- The nested product is isotone, so that its size is found by computing it once.
use Rattle.std.specs.Prelude.{◌≡◌, ℕ, pos, ◌^◌, ◌<◌, ◌≤ℤ◌, refl, List, [], ◌∷◌}
use Rattle.std.proofs.Common.{arith, ap}
use Rattle.std.proofs.Math.Nat.{zero-div}
use Rattle.std.proofs.lemmas.Int.{ints}
use Rattle.whole_numbers.specs.Rounding.{floor_of, ceil_of}
use Rattle.fix_interval.specs.Ends.{Ends, IsInside}
use Rattle.fix_interval.specs.Products.{mul_of, mul_wide_of, narrow76_of}
use Rattle.fix_interval.specs.Quotients.{div_int_of}
use Rattle.fix_interval.specs.Sums.{sub_of}
use Rattle.fix_interval.proofs.EndProducts.{mul_isotone, rounded_ordered}
use Rattle.fix_interval.proofs.EndQuotients.{div_int_isotone}
use Rattle.fix_interval.proofs.EndSums.{sub_isotone}
use Rattle.fix_interval.specs.Ranges.{one_ends, unit_ends}
use Rattle.fix_interval.proofs.EndInsides.{inside_trans}
use Rattle.trig_laws.specs.Quarter.{nested_of}

one_inside : IsInside one_ends one_ends
one_inside = record { low = record { le = tt }; ordered = record { le = tt }; high = record { le = tt } }

pub data Positive : List ℕ → Type 0 where
  none : Positive []
  more : {k : ℕ} {ks : List ℕ} → 0 < k → Positive ks → Positive (k ∷ ks)

pub nested_isotone : (y z : Ends) (ks : List ℕ) → Positive ks → IsInside y z → IsInside (nested_of y ks) (nested_of z ks)
unfolding nested_of
nested_isotone y z [] p h = one_inside
nested_isotone y z (k ∷ ks) (more q p) h = sub_isotone refl _ _ one_inside (div_int_isotone k refl q _ (mul_isotone refl _ _ h (nested_isotone y z ks p h)))

-- one step stays from 0 to 1
unit_product : mul_of unit_ends unit_ends ≡ unit_ends
unfolding mul_of mul_wide_of narrow76_of
unit_product = refl

ceil_unit : (k : ℕ) → ceil_of (pos (2 ^ 38)) k ≤ℤ pos (2 ^ 38)
ceil_unit k = omega (arith, ints)

floor_unit : (k : ℕ) → floor_of (pos 0) k ≡ pos 0
floor_unit k = ap pos (zero-div k)

quotient_unit : (k : ℕ) → 0 < k → IsInside (div_int_of unit_ends k) unit_ends
unfolding div_int_of
quotient_unit k p = record { low = rw (floor_unit k) record { le = tt }; ordered = rounded_ordered (pos 0) (pos (2 ^ 38)) k p (record { le = tt }); high = ceil_unit k }

one_less : (a : Ends) → IsInside a unit_ends → IsInside (sub_of one_ends a) unit_ends
unfolding sub_of
one_less a p = record { low = omega (arith, ints); ordered = omega (arith, ints); high = omega (arith, ints) }

pub quotient_small : (y h : Ends) (k : ℕ) → 0 < k → IsInside y unit_ends → IsInside h unit_ends → IsInside (div_int_of (mul_of y h) k) unit_ends
quotient_small y h k p q r = inside_trans (div_int_isotone k refl p _ (rw unit_product at (mul_isotone refl _ _ q r))) (quotient_unit k p)

pub step_unit : (y h : Ends) (k : ℕ) → 0 < k → IsInside y unit_ends → IsInside h unit_ends → IsInside (sub_of one_ends (div_int_of (mul_of y h) k)) unit_ends
step_unit y h k p q r = one_less _ (quotient_small y h k p q r)
