-- Powers of fractions.
use Rattle.std.specs.Prelude.{◌≡◌, ℕ, zero, suc, ◌+◌}
use Rattle.std.proofs.Common.{arith, ap, sym, ◌∙◌, refl}
use Rattle.fractions.specs.Fraction.{Fraction, ◌*ᶠ◌, oneᶠ, pow}
use Rattle.fractions.proofs.Laws.{one-*ᶠ, *ᶠ_assoc}

-- to the power 0 is 1
pub pow-zero : (x : Fraction) → pow x 0 ≡ oneᶠ
unfolding pow
pow-zero x = refl

-- one factor more
pub pow-suc : (x : Fraction) (n : ℕ) → pow x (suc n) ≡ x *ᶠ pow x n
unfolding pow
pow-suc x n = refl

-- the same, of n + 1
pub pow-next : (x : Fraction) (n : ℕ) → pow x (n + 1) ≡ x *ᶠ pow x n
pow-next x n = ap (λ (k : ℕ). pow x k) (next n) ∙ pow-suc x n
  where
    next : (n : ℕ) → n + 1 ≡ suc n
    next n = omega arith

-- a power to a sum is the product of the powers
pub pow-+ : (x : Fraction) (m n : ℕ) → pow x (m + n) ≡ pow x m *ᶠ pow x n
pow-+ x zero n = ap (λ (k : ℕ). pow x k) (none n) ∙ sym (ap (λ t. t *ᶠ pow x n) (pow-zero x) ∙ one-*ᶠ (pow x n))
  where
    none : (n : ℕ) → 0 + n ≡ n
    none n = omega arith
pow-+ x (suc m) n = ap (λ (k : ℕ). pow x k) (more m n) ∙ pow-suc x (m + n) ∙ ap (λ t. x *ᶠ t) (pow-+ x m n) ∙ sym (ap (λ t. t *ᶠ pow x n) (pow-suc x m) ∙ *ᶠ_assoc x (pow x m) (pow x n))
  where
    more : (m n : ℕ) → suc m + n ≡ suc (m + n)
    more m n = omega arith
