-- Identities of fractions by one line: `identity (x ∷ y ∷ []) (search quote depth 20) tt`.
use Rattle.std.proofs.Common.{◌≡◌, ℕ, List, refl, ap, ap₂, ℤ}
use lib.Dec.{T}
use Rattle.whole_numbers.proofs.Ring.{lit, ◌⊕◌, ◌⊗◌, minus, norm, is_zero}
use Rattle.whole_numbers.proofs.Quoting.{Quoted, Sides, sides, variables, equal_sides}
use Rattle.fractions.specs.Fraction.{Fraction, ratio, ◌+ᶠ◌, ◌*ᶠ◌, neg}
use Rattle.fractions.proofs.Ring.{fractions, fractions_ring}

-- ---- the rules: an operation of the fractions is one of expressions
abbrev pub quote_sum : (ρ : List Fraction) (a b : Fraction) → Quoted fractions ρ a → Quoted fractions ρ b → Quoted fractions ρ (a +ᶠ b)
quote_sum ρ a b p q = record { expr = p.expr ⊕ q.expr; is = ap₂ ◌+ᶠ◌ p.is q.is }

abbrev pub quote_product : (ρ : List Fraction) (a b : Fraction) → Quoted fractions ρ a → Quoted fractions ρ b → Quoted fractions ρ (a *ᶠ b)
quote_product ρ a b p q = record { expr = p.expr ⊗ q.expr; is = ap₂ ◌*ᶠ◌ p.is q.is }

abbrev pub quote_negation : (ρ : List Fraction) (a : Fraction) → Quoted fractions ρ a → Quoted fractions ρ (neg a)
quote_negation ρ a p = record { expr = minus p.expr; is = ap neg p.is }

abbrev pub quote_ratio : (ρ : List Fraction) (m : ℤ) (k : ℕ) → Quoted fractions ρ (ratio m k)
quote_ratio ρ m k = record { expr = lit record { numerator = m; denominator = k }; is = refl }

pub ruleset quote = (variables, quote_sum, quote_product, quote_negation, quote_ratio, sides)

-- an identity of fractions, by computation
pub identity : (ρ : List Fraction) {a b : Fraction} (s : Sides fractions ρ a b) → T (is_zero fractions (norm fractions (s.left.expr ⊕ minus s.right.expr))) → a ≡ b
identity ρ s t = equal_sides fractions fractions_ring ρ s t
