-- Magnitudes of intervals within ends, and of what the code finds on its way.
use Rattle.std.specs.Prelude.{ℤ, pos, neg_ℤ, ◌^◌, ◌≤ℤ◌, refl}
use Rattle.fix_interval.specs.Ends.{Ends, IsInside}
use Rattle.fix_interval.specs.Products.{mul_wide_of, narrow76_of, scale_int_of}
use Rattle.fix_interval.specs.Sums.{add_of, sub_of}
use Rattle.fix_interval.proofs.EndProducts.{narrow76_isotone, scale_int_isotone}
use Rattle.fix_interval.proofs.EndSums.{add_isotone, sub_isotone}
use Rattle.fix_interval.proofs.EndInsides.{inside_trans}
use Rattle.fix_interval.specs.Ranges.{around}

-- ---- an angle that moves
scale_widest : IsInside (scale_int_of (around (2 ^ 52)) (neg_ℤ (pos 7776000000)) (pos 7776000000)) (around (2 ^ 85))
unfolding scale_int_of mul_wide_of
scale_widest = record { low = record { le = tt }; ordered = record { le = tt }; high = record { le = tt } }

pub scale_small : (a : Ends) (k l : ℤ) → IsInside a (around (2 ^ 52)) → k ≤ℤ l → neg_ℤ (pos 7776000000) ≤ℤ k → l ≤ℤ pos 7776000000 → IsInside (scale_int_of a k l) (around (2 ^ 85))
scale_small a k l i o low high = inside_trans (scale_int_isotone k l refl o (around (2 ^ 52)) record { lo = neg_ℤ (pos 7776000000); hi = pos 7776000000 } i low high) scale_widest

narrow_widest : IsInside (narrow76_of (around (2 ^ 86))) (around (2 ^ 48))
unfolding narrow76_of
narrow_widest = record { low = record { le = tt }; ordered = record { le = tt }; high = record { le = tt } }

pub narrow_small : (a : Ends) → IsInside a (around (2 ^ 86)) → IsInside (narrow76_of a) (around (2 ^ 48))
narrow_small a i = inside_trans (narrow76_isotone refl (around (2 ^ 86)) i) narrow_widest

difference_widest : IsInside (sub_of (around (2 ^ 85)) (around (2 ^ 80))) (around (2 ^ 86))
unfolding sub_of
difference_widest = record { low = record { le = tt }; ordered = record { le = tt }; high = record { le = tt } }

pub difference_small : (a b : Ends) → IsInside a (around (2 ^ 85)) → IsInside b (around (2 ^ 80)) → IsInside (sub_of a b) (around (2 ^ 86))
difference_small a b i j = inside_trans (sub_isotone refl (around (2 ^ 85)) (around (2 ^ 80)) i j) difference_widest

sum_widest : IsInside (add_of (around (2 ^ 41)) (around (2 ^ 48))) (around (2 ^ 60))
unfolding add_of
sum_widest = record { low = record { le = tt }; ordered = record { le = tt }; high = record { le = tt } }

pub sum_small : (a b : Ends) → IsInside a (around (2 ^ 41)) → IsInside b (around (2 ^ 48)) → IsInside (add_of a b) (around (2 ^ 60))
sum_small a b i j = inside_trans (add_isotone refl (around (2 ^ 41)) (around (2 ^ 48)) i j) sum_widest
