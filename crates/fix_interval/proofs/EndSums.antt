-- Sums and differences of ends enclose those of fractions, and are isotone.
use Rattle.std.specs.Prelude.{◌≡◌, ℕ, ℤ, pos, ◌^◌, ◌-ℤ◌, neg_ℤ, refl}
use Rattle.std.proofs.Common.{arith, ap, sym, ◌∙◌}
use Rattle.std.proofs.lemmas.Int.{ints}
use Rattle.fractions.specs.Fraction.{Fraction, ratio, zeroᶠ, neg, ◌+ᶠ◌, ◌-ᶠ◌}
use Rattle.fractions.proofs.Laws.{+ᶠ_mono, -ᶠ_mono, zero-+ᶠ, ≤ᶠ_refl}
use Rattle.fractions.proofs.Ratios.{ratio-add, ratio-zero, neg-ratio}
use Rattle.fix_interval.specs.Ends.{Ends, IsInside}
use Rattle.fix_interval.specs.Lies.{Lies}
use Rattle.fix_interval.specs.Sums.{add_of, sub_of, neg_of}

-- ends are equal where both are
pub same_ends : {a b : Ends} → a.lo ≡ b.lo → a.hi ≡ b.hi → a ≡ b
same_ends p q = λ i. record { lo = p i; hi = q i }

-- the sum of two choices lies in the sum
pub add_encloses : {a b r : Ends} → r ≡ add_of a b → (s : ℕ) (x y : Fraction) → Lies a s x → Lies b s y → Lies r s (x +ᶠ y)
unfolding add_of
add_encloses {a} {b} {r} e s x y p q = rw e record {
  low = rw (sym (ratio-add a.lo b.lo (2 ^ s))) (+ᶠ_mono p.low q.low);
  high = rw (sym (ratio-add a.hi b.hi (2 ^ s))) (+ᶠ_mono p.high q.high);
}

-- wider ends have a wider sum
pub add_isotone : {a b r : Ends} → r ≡ add_of a b → (c d : Ends) → IsInside a c → IsInside b d → IsInside r (add_of c d)
unfolding add_of
add_isotone {a} {b} {r} e c d p q = rw e record { low = omega (arith, ints); ordered = omega (arith, ints); high = omega (arith, ints) }

-- differences over one denominator
ratio-sub : (m n : ℤ) (k : ℕ) → ratio (m -ℤ n) k ≡ ratio m k -ᶠ ratio n k
ratio-sub m n k = sym (ap (λ t. ratio m k +ᶠ t) (neg-ratio n k) ∙ ratio-add m (neg_ℤ n) k)

-- the difference of two choices lies in the difference
pub sub_encloses : {a b r : Ends} → r ≡ sub_of a b → (s : ℕ) (x y : Fraction) → Lies a s x → Lies b s y → Lies r s (x -ᶠ y)
unfolding sub_of
sub_encloses {a} {b} {r} e s x y p q = rw e record {
  low = rw (ratio-sub a.lo b.hi (2 ^ s)) (-ᶠ_mono p.low q.high);
  high = rw (ratio-sub a.hi b.lo (2 ^ s)) (-ᶠ_mono p.high q.low);
}

-- wider ends have a wider difference
pub sub_isotone : {a b r : Ends} → r ≡ sub_of a b → (c d : Ends) → IsInside a c → IsInside b d → IsInside r (sub_of c d)
unfolding sub_of
sub_isotone {a} {b} {r} e c d p q = rw e record { low = omega (arith, ints); ordered = omega (arith, ints); high = omega (arith, ints) }

-- ---- negatives
-- the negative of a choice lies in the negatives
pub neg_encloses : (a : Ends) (x : Fraction) → Lies a 38 x → Lies (neg_of a) 38 (neg x)
unfolding neg_of
neg_encloses a x l =
    let z : Lies record { lo = pos 0; hi = pos 0 } 38 zeroᶠ = record { low = rw (ratio-zero (2 ^ 38)) (≤ᶠ_refl zeroᶠ); high = rw (ratio-zero (2 ^ 38)) (≤ᶠ_refl zeroᶠ) } in
    rw (zero-+ᶠ (neg x)) at (sub_encloses {r = neg_of a} refl 38 zeroᶠ x z l)

-- wider ends have wider negatives
pub neg_isotone : (a c : Ends) → IsInside a c → IsInside (neg_of a) (neg_of c)
unfolding neg_of sub_of
neg_isotone a c p = record { low = omega (arith, ints); ordered = omega (arith, ints); high = omega (arith, ints) }
