-- A place of a satellite is in reach of a look.
use Rattle.std.specs.Prelude.{◌^◌, ℤ, pos, neg_ℤ, ◌≤ℤ◌, List, [], ◌∷◌}
use Rattle.std.proofs.Common.{arith}
use Rattle.std.proofs.lemmas.Int.{ints}
use Rattle.fix_interval.specs.declared.interval.Iv.{Iv}
use Rattle.fix_interval.specs.Ends.{Ends, IsInside, IsBelow}
use Rattle.fix_interval.specs.Vectors.{vector_ends, VectorBelow}
use Rattle.site_laws.specs.Sights.{IsInReach}

-- a component in reach
reach : (a : Ends) → IsBelow a (2 ^ 46) → a.lo ≤ℤ a.hi → IsInside a record { lo = neg_ℤ (pos (2 ^ 46)); hi = pos (2 ^ 46) }
reach a b o = let l = b.low in let h = b.high in record { low = omega (arith, ints); ordered = o; high = omega (arith, ints) }

-- zero is in reach
none : (z : ℤ) → IsInside record { lo = pos 0; hi = pos 0 } record { lo = neg_ℤ (pos (2 ^ 46)); hi = pos (2 ^ 46) }
none z = record { low = omega (arith, ints); ordered = omega (arith, ints); high = omega (arith, ints) }

-- and all three
pub in_reach : (xs : List Iv) → VectorBelow (vector_ends xs) (2 ^ 46) → IsInReach (vector_ends xs)
in_reach (x ∷ y ∷ z ∷ []) b = record { x = reach _ b.x x.ordered; y = reach _ b.y y.ordered; z = reach _ b.z z.ordered }
in_reach [] b = record { x = none (pos 0); y = none (pos 0); z = none (pos 0) }
in_reach (x ∷ []) b = record { x = none (pos 0); y = none (pos 0); z = none (pos 0) }
in_reach (x ∷ y ∷ []) b = record { x = none (pos 0); y = none (pos 0); z = none (pos 0) }
in_reach (x ∷ y ∷ z ∷ w ∷ ws) b = record { x = none (pos 0); y = none (pos 0); z = none (pos 0) }
