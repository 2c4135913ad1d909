-- The integers as a ring for the normal forms of `Ring`, and identities of integers by one line: `identity (x ∷ y ∷ []) (search quote depth 20) tt`.
use Rattle.std.proofs.Common.{◌≡◌, ℕ, zero, suc, ◌+◌, ◌-◌, ◌*◌, refl, sym, subst, ap, ap₂, Bool, true, false, List, ℤ, pos, negsuc, neg_ℤ, unsigned_abs, ◌+ℤ◌, ◌*ℤ◌}
use lib.Dec.{T}
use Rattle.whole_numbers.proofs.Integers.{integers_are_ring}
use Rattle.whole_numbers.proofs.Ring.{Operations, IsRing, con, lit, ◌⊕◌, ◌⊗◌, minus, norm, is_zero}
use Rattle.whole_numbers.proofs.Quoting.{Quoted, Sides, sides, variables, equal_sides}

abbrev pub is_zeroℤ : ℤ → Bool
is_zeroℤ (pos zero) = true
is_zeroℤ (pos (suc n)) = false
is_zeroℤ (negsuc n) = false

-- the operations of the integers, where each integer may be a constant
abbrev pub integers : Operations ℤ ℤ
integers = record {
  zero = pos 0;
  one = pos 1;
  add = ◌+ℤ◌;
  mul = ◌*ℤ◌;
  neg = neg_ℤ;
  value = λ c. c;
  constant_zero = pos 0;
  constant_one = pos 1;
  constant_minus_one = negsuc 0;
  constant_add = ◌+ℤ◌;
  constant_mul = ◌*ℤ◌;
  is_constant_zero = is_zeroℤ;
}

-- what passes the test is 0
pub is_zeroℤ-is : (c : ℤ) → T (is_zeroℤ c) → c ≡ pos 0
is_zeroℤ-is (pos zero) t = refl
is_zeroℤ-is (pos (suc n)) t = absurd t
is_zeroℤ-is (negsuc n) t = absurd t

-- the integers are a ring of which `Ring` speaks
pub integers_ring : IsRing integers
integers_ring = record {
  ring = integers_are_ring;
  value_zero = is_zeroℤ-is;
  constant_zero_is_zero = tt;
  value-constant_one = refl;
  value-constant_minus_one = refl;
  value-constant_add = λ c d. refl;
  value-constant_mul = λ c d. refl;
}

-- ---- the rules: an operation of the integers is one of expressions
abbrev pub quote_sum : (ρ : List ℤ) (a b : ℤ) → Quoted integers ρ a → Quoted integers ρ b → Quoted integers ρ (a +ℤ b)
quote_sum ρ a b p q = record { expr = p.expr ⊕ q.expr; is = ap₂ ◌+ℤ◌ p.is q.is }

abbrev pub quote_product : (ρ : List ℤ) (a b : ℤ) → Quoted integers ρ a → Quoted integers ρ b → Quoted integers ρ (a *ℤ b)
quote_product ρ a b p q = record { expr = p.expr ⊗ q.expr; is = ap₂ ◌*ℤ◌ p.is q.is }

abbrev pub quote_negation : (ρ : List ℤ) (a : ℤ) → Quoted integers ρ a → Quoted integers ρ (neg_ℤ a)
quote_negation ρ a p = record { expr = minus p.expr; is = ap neg_ℤ p.is }

-- a numeral: `n - n` computes to 0 there alone, and `search` closes the premise by `refl`
abbrev pub quote_numeral : (ρ : List ℤ) (n : ℕ) → n - n ≡ 0 → Quoted integers ρ (pos n)
quote_numeral ρ n e = record { expr = lit (pos n); is = refl }

abbrev pub quote_negative : (ρ : List ℤ) (n : ℕ) → n - n ≡ 0 → Quoted integers ρ (negsuc n)
quote_negative ρ n e = record { expr = lit (negsuc n); is = refl }

-- sums and products of naturals
abbrev pub quote_natural_sum : (ρ : List ℤ) (m n : ℕ) → Quoted integers ρ (pos m) → Quoted integers ρ (pos n) → Quoted integers ρ (pos (m + n))
quote_natural_sum ρ m n p q = record { expr = p.expr ⊕ q.expr; is = ap₂ ◌+ℤ◌ p.is q.is }

abbrev pub quote_natural_product : (ρ : List ℤ) (m n : ℕ) → Quoted integers ρ (pos m) → Quoted integers ρ (pos n) → Quoted integers ρ (pos (m * n))
quote_natural_product ρ m n p q = record { expr = p.expr ⊗ q.expr; is = ap₂ ◌*ℤ◌ p.is q.is }

pub ruleset quote = (variables, quote_sum, quote_product, quote_negation, quote_numeral, quote_negative, quote_natural_sum, quote_natural_product, sides)

-- an identity of integers, by computation
pub identity : (ρ : List ℤ) {a b : ℤ} (s : Sides integers ρ a b) → T (is_zero integers (norm integers (s.left.expr ⊕ minus s.right.expr))) → a ≡ b
identity ρ s t = equal_sides integers integers_ring ρ s t

-- to see why an identity fails: the refusal of `refl` here shows the normal form of the difference
pub identity_by : (ρ : List ℤ) {a b : ℤ} (s : Sides integers ρ a b) → norm integers (s.left.expr ⊕ minus s.right.expr) ≡ con (pos 0) → a ≡ b
identity_by ρ s e = identity ρ s (subst (λ p. T (is_zero integers p)) (sym e) tt)

-- an identity of naturals by that of the integers
pub natural_identity : (ρ : List ℤ) {m n : ℕ} (s : Sides integers ρ (pos m) (pos n)) → T (is_zero integers (norm integers (s.left.expr ⊕ minus s.right.expr))) → m ≡ n
natural_identity ρ s t = ap unsigned_abs (identity ρ s t)
