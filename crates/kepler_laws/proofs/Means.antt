-- The ends of the mean anomaly of one number of units, each from one end of its sine.
use Rattle.std.specs.Prelude.{◌≡◌, ℕ, ℤ, pos, ◌^◌, ◌≤◌, ◌-ℤ◌, ◌*ℤ◌, cond}
use Rattle.std.proofs.Common.{arith, ap, sym, ◌∙◌}
use Rattle.std.proofs.lemmas.Int.{ints, clamps}
use Rattle.std.specs.Int.{int_min, int_max}
use lib.Signed.{le_z}
use Rattle.whole_numbers.specs.Rounding.{floor_of, ceil_of}
use Rattle.fix_interval.specs.Ends.{Ends}
use Rattle.fix_interval.specs.Products.{mul_wide_of, mul_of, narrow76_of}
use Rattle.fix_interval.specs.Sums.{sub_of}
use Rattle.fix_interval.proofs.EndSums.{same_ends}
use Rattle.fix_interval.specs.Ranges.{point, from_to}
use Rattle.trig_laws.specs.SinCos.{sin_cos_of}
use Rattle.trig_laws.proofs.Ends.{mul-low, mul-high}
use Rattle.kepler_laws.specs.Anomalies.{mean_of}
use Rattle.kepler_laws.proofs.Rising.{sine_ordered}

commuted : (a b : ℤ) → a *ℤ b ≡ b *ℤ a
commuted a b = omega (arith, ints)

-- the order of the factors does not matter
mul-swap : (a b : Ends) → mul_of a b ≡ mul_of b a
unfolding mul_of mul_wide_of
mul-swap a b = ap narrow76_of (same_ends
    (rw (commuted a.lo b.lo, commuted a.lo b.hi, commuted a.hi b.lo, commuted a.hi b.hi) (least (b.lo *ℤ a.lo) (b.hi *ℤ a.lo) (b.lo *ℤ a.hi) (b.hi *ℤ a.hi)))
    (rw (commuted a.lo b.lo, commuted a.lo b.hi, commuted a.hi b.lo, commuted a.hi b.hi) (greatest (b.lo *ℤ a.lo) (b.hi *ℤ a.lo) (b.lo *ℤ a.hi) (b.hi *ℤ a.hi))))
  where
    least : (p q r s : ℤ) → int_min (int_min p q) (int_min r s) ≡ int_min (int_min p r) (int_min q s)
    least p q r s = omega (arith, ints, clamps)

    greatest : (p q r s : ℤ) → int_max (int_max p q) (int_max r s) ≡ int_max (int_max p r) (int_max q s)
    greatest p q r s = omega (arith, ints, clamps)

pub mean-high : (l h : ℕ) (k s : ℤ) → l ≤ h → s ≡ (sin_cos_of (point k)).sine.lo → (mean_of (from_to l h) k).hi ≡ k -ℤ floor_of (s *ℤ pos (cond (le_z (pos 0) s) l h)) (2 ^ 38)
unfolding mean_of sub_of
mean-high l h k s o e =
    ap (λ (t : Ends). k -ℤ t.lo) (mul-swap (from_to l h) (sin_cos_of (point k)).sine)
    ∙ ap (λ z. k -ℤ z) (mul-low (sin_cos_of (point k)).sine l h (sine_ordered k) o)
    ∙ ap (λ z. k -ℤ floor_of (z *ℤ pos (cond (le_z (pos 0) z) l h)) (2 ^ 38)) (sym e)

pub mean-low : (l h : ℕ) (k s : ℤ) → l ≤ h → s ≡ (sin_cos_of (point k)).sine.hi → (mean_of (from_to l h) k).lo ≡ k -ℤ ceil_of (s *ℤ pos (cond (le_z (pos 0) s) h l)) (2 ^ 38)
unfolding mean_of sub_of
mean-low l h k s o e =
    ap (λ (t : Ends). k -ℤ t.hi) (mul-swap (from_to l h) (sin_cos_of (point k)).sine)
    ∙ ap (λ z. k -ℤ z) (mul-high (sin_cos_of (point k)).sine l h (sine_ordered k) o)
    ∙ ap (λ z. k -ℤ ceil_of (z *ℤ pos (cond (le_z (pos 0) z) h l)) (2 ^ 38)) (sym e)
