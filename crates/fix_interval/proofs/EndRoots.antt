-- The root of ends encloses each root that the model admits at any level, and is isotone.
use Rattle.std.specs.Prelude.{◌≡◌, ℕ, zero, suc, ℤ, pos, ◌+◌, ◌-◌, ◌*◌, ◌^◌, ◌≤◌, refl, ◌+ℤ◌, ◌≤ℤ◌}
use Rattle.std.proofs.Common.{arith}
use Rattle.std.proofs.lemmas.Int.{ints, clamps}
use Rattle.std.proofs.lemmas.Nat.{pow_pos}
use Rattle.std.proofs.Math.Nat.{pow-le-pow_right}
use lib.Dec.{lit≤}
use Rattle.whole_numbers.specs.Root.{root_of}
use Rattle.whole_numbers.proofs.Roots.{root_of_low, root_of_high, root_of_mono}
use Rattle.fractions.specs.Fraction.{Fraction, ratio, ◌*ᶠ◌, ◌≤ᶠ◌}
use Rattle.fractions.proofs.Laws.{≤ᶠ_trans, ≤ᶠ_refl, +ᶠ_mono, +ᶠ_cancel, root_mono}
use Rattle.fractions.proofs.Ratios.{ratio_mono, ratio-mul, ratio-add, ratio_at_most, ratio_anti, not_negative_ratio}
use Rattle.raim_model.specs.Level.{Level}
use Rattle.raim_model.specs.Root.{IsRoot}
use Rattle.fix_interval.specs.Ends.{Ends, IsInside}
use Rattle.fix_interval.specs.Lies.{Lies}
use Rattle.fix_interval.specs.Roots.{sqrt_of}

-- a square at scale 38 is one at scale 76
square_at : (n : ℕ) → ratio (pos n) (2 ^ 38) *ᶠ ratio (pos n) (2 ^ 38) ≡ ratio (pos (n * n)) (2 ^ 76)
square_at n = ratio-mul (pos n) (pos n) (2 ^ 38) (2 ^ 38) (pow_pos 38) (pow_pos 38)

-- the gap of the model is at most a unit at scale 76
small_gap : (N : ℕ) → 100 ≤ N → ratio (pos 1) (2 ^ N) ≤ᶠ ratio (pos 1) (2 ^ 76)
small_gap N h = ratio_anti (2 ^ 76) (2 ^ N) (pow_pos 76) (let more : 76 ≤ N = omega arith in pow-le-pow_right (lit≤ tt) more)

-- each root of what is at least z is at least the root of z less a unit
root_low : (z : ℤ) (N : Level) (x w : Fraction) → pos 0 ≤ℤ z → ratio z (2 ^ 76) ≤ᶠ x → IsRoot N x w → ratio (pos (root_of z - 1)) (2 ^ 38) ≤ᶠ w
root_low z N x w nz hx r = by_size (root_of z) refl
  where
    goes : (j : ℕ) → (pos (j * j) +ℤ pos 1) ≤ℤ z → ratio (pos j) (2 ^ 38) ≤ᶠ w
    goes j h = root_mono (not_negative_ratio j (2 ^ 38)) r.not_negative (rw (square_at j)
        (+ᶠ_cancel (ratio (pos 1) (2 ^ 76)) (rw (ratio-add (pos (j * j)) (pos 1) (2 ^ 76))
        (≤ᶠ_trans (ratio_mono (2 ^ 76) h) (≤ᶠ_trans hx (≤ᶠ_trans r.near.high (+ᶠ_mono (≤ᶠ_refl (w *ᶠ w)) (small_gap N.terms N.enough))))))))

    by_size : (m : ℕ) → root_of z ≡ m → ratio (pos (m - 1)) (2 ^ 38) ≤ᶠ w
    by_size zero e = ≤ᶠ_trans (ratio_at_most (pos 0) (pos 0) (2 ^ 38) 1 (pow_pos 38) (lit≤ tt) (omega (arith, ints))) r.not_negative
    by_size (suc m) e =
        let k : suc m - 1 ≡ m = omega arith in
        let l = rw e at (root_of_low z nz) in
        rw k (goes m (omega (arith, ints)))

-- each root of what is at most z is at most the root of z and two units
root_high : (z : ℤ) (N : Level) (x w : Fraction) → x ≤ᶠ ratio z (2 ^ 76) → IsRoot N x w → w ≤ᶠ ratio (pos (root_of z + 2)) (2 ^ 38)
root_high z N x w hx r =
    root_mono r.not_negative (not_negative_ratio (root_of z + 2) (2 ^ 38)) (rw (square_at (root_of z + 2))
    (≤ᶠ_trans r.near.low (≤ᶠ_trans (+ᶠ_mono hx (small_gap N.terms N.enough)) (rw (ratio-add z (pos 1) (2 ^ 76)) (ratio_mono (2 ^ 76) (omega (arith, ints, root_of_high z)))))))

-- each root of a choice lies in the root
pub sqrt_encloses : {a r : Ends} → r ≡ sqrt_of a → pos 0 ≤ℤ a.lo → (N : Level) (x w : Fraction) → Lies a 76 x → IsRoot N x w → Lies r 38 w
unfolding sqrt_of
sqrt_encloses {a} {r} e n N x w p q = rw e record { low = root_low a.lo N x w n p.low q; high = root_high a.hi N x w p.high q }

-- wider ends have a wider root
pub sqrt_isotone : {a r : Ends} → r ≡ sqrt_of a → (c : Ends) → pos 0 ≤ℤ c.lo → IsInside a c → IsInside r (sqrt_of c)
unfolding sqrt_of
sqrt_isotone {a} {r} e c n p = rw e record { ordered = omega (arith, ints, root_of_mono a.lo a.hi (omega (arith, ints)) p.ordered); low = omega (arith, ints, clamps, root_of_mono c.lo a.lo n p.low); high = omega (arith, ints, root_of_mono a.hi c.hi (omega (arith, ints)) p.high) }
