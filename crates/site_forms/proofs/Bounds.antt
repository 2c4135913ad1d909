-- Wider bounds, and the bounds of quotients and of intervals.
use Rattle.std.proofs.Common.{arith, sym, subst, ◌≡◌, ℕ, ℤ, pos, neg_ℤ, ◌<◌, ◌≤◌, ◌*ℤ◌, ◌≤ℤ◌}
use Rattle.std.proofs.lemmas.Int.{ints}
use Rattle.whole_numbers.specs.Rounding.{floor_of}
use Rattle.whole_numbers.proofs.Divisions.{floor_of_mono, floor_of-multiple}
use Rattle.whole_numbers.proofs.Integers.{≤ℤ_trans}
use Rattle.whole_numbers.proofs.Products.{*ℤ_mono_right, *ℤ_anti_right}
use Rattle.fix_interval.specs.declared.interval.Iv.{Iv}
use Rattle.fix_interval.specs.Ends.{Ends, IsInside}
use Rattle.fix_interval.specs.Intervals.{ends, IsWithin}
use Rattle.time_forms.specs.Forms.{Form}
use Rattle.time_forms.specs.Programs.{IsNumberWithin, IsFormWithin}
use Rattle.time_forms.proofs.Bits.{centre_within, turning_within, remainder_within, form_within, wider_bits}

pub wider_form : {f : Form} (m n : ℕ) → m ≤ n → IsFormWithin f m → IsFormWithin f n
wider_form {f} m n h p = form_within f n (wider_bits m n h (centre_within p)) (wider_bits m n h (turning_within p)) (wider_bits m n h (remainder_within p))

-- an interval inside ends within a bound
pub inside_bound : (a : Iv) (e b : Ends) (m : ℕ) → ends a ≡ e → IsInside e b → neg_ℤ (pos m) ≤ℤ b.lo → b.hi ≤ℤ pos m → IsWithin a m
inside_bound a e b m q i l h = within (subst (λ (x : Ends). IsInside x b) (sym q) i)
  where
    within : IsInside (ends a) b → IsWithin a m
    within j = let x = j.low in let y = j.high in record { low = omega (arith, ints); high = omega (arith, ints) }

-- a quotient by a number above 0 is no greater than what is divided
pub floor_within : (z : ℤ) (k m : ℕ) → 0 < k → IsNumberWithin z m → IsNumberWithin (floor_of z k) m
floor_within z k m some p = record {
  low = subst (λ t. t ≤ℤ floor_of z k) (floor_of-multiple (neg_ℤ (pos m)) k some) (floor_of_mono (neg_ℤ (pos m) *ℤ pos k) z k some lower);
  high = subst (λ t. floor_of z k ≤ℤ t) (floor_of-multiple (pos m) k some) (floor_of_mono z (pos m *ℤ pos k) k some upper);
}
  where
    some_z : pos 1 ≤ℤ pos k
    some_z = omega (arith, ints)

    below : neg_ℤ (pos m) ≤ℤ pos 0
    below = omega (arith, ints)

    above : pos 0 ≤ℤ pos m
    above = omega (arith, ints)

    from_low : neg_ℤ (pos m) ≤ℤ z → (neg_ℤ (pos m) *ℤ pos 1) ≤ℤ z
    from_low l = omega (arith, ints)

    lower : (neg_ℤ (pos m) *ℤ pos k) ≤ℤ z
    lower = ≤ℤ_trans _ (neg_ℤ (pos m) *ℤ pos 1) z (*ℤ_anti_right (pos 1) (pos k) (neg_ℤ (pos m)) below some_z) (from_low p.low)

    to_high : z ≤ℤ pos m → z ≤ℤ (pos m *ℤ pos 1)
    to_high l = omega (arith, ints)

    upper : z ≤ℤ (pos m *ℤ pos k)
    upper = ≤ℤ_trans z (pos m *ℤ pos 1) _ (to_high p.high) (*ℤ_mono_right (pos 1) (pos k) (pos m) above some_z)
