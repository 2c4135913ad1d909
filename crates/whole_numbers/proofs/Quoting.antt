-- A goal read off by `search`: each rule turns an operation of a ring into one of expressions. The rules for the operations stand with each ring; those for variables serve all.
use Rattle.std.proofs.Common.{◌≡◌, List, [], ◌∷◌, refl, sym, subst, ap₂, ◌∙◌, Bool}
use lib.Dec.{T}
use Rattle.whole_numbers.proofs.Ring.{Operations, IsRing, Expr, var, ◌⊕◌, minus, den, norm, is_zero, is_constant, ring, constant_difference}

-- an expression whose value is z
pub record Quoted {A C : Type 0} (R : Operations A C) (ρ : List A) (z : A) : Type 0 where
  pub expr : Expr C
  pub is : den R expr ρ ≡ z

-- both sides of an equation
pub record Sides {A C : Type 0} (R : Operations A C) (ρ : List A) (a b : A) : Type 0 where
  pub left : Quoted R ρ a
  pub right : Quoted R ρ b

abbrev pub sides : {A C : Type 0} (R : Operations A C) (ρ : List A) (a b : A) → Quoted R ρ a → Quoted R ρ b → Sides R ρ a b
sides R ρ a b p q = record { left = p; right = q }

-- the first twenty-five variables, a rule for each
abbrev pub variable0 : {A C : Type 0} (R : Operations A C) (x0 : A) (ρ : List A) → Quoted R (x0 ∷ ρ) x0
variable0 R x0 ρ = record { expr = var 0; is = refl }

abbrev pub variable1 : {A C : Type 0} (R : Operations A C) (x0 x1 : A) (ρ : List A) → Quoted R (x0 ∷ x1 ∷ ρ) x1
variable1 R x0 x1 ρ = record { expr = var 1; is = refl }

abbrev pub variable2 : {A C : Type 0} (R : Operations A C) (x0 x1 x2 : A) (ρ : List A) → Quoted R (x0 ∷ x1 ∷ x2 ∷ ρ) x2
variable2 R x0 x1 x2 ρ = record { expr = var 2; is = refl }

abbrev pub variable3 : {A C : Type 0} (R : Operations A C) (x0 x1 x2 x3 : A) (ρ : List A) → Quoted R (x0 ∷ x1 ∷ x2 ∷ x3 ∷ ρ) x3
variable3 R x0 x1 x2 x3 ρ = record { expr = var 3; is = refl }

abbrev pub variable4 : {A C : Type 0} (R : Operations A C) (x0 x1 x2 x3 x4 : A) (ρ : List A) → Quoted R (x0 ∷ x1 ∷ x2 ∷ x3 ∷ x4 ∷ ρ) x4
variable4 R x0 x1 x2 x3 x4 ρ = record { expr = var 4; is = refl }

abbrev pub variable5 : {A C : Type 0} (R : Operations A C) (x0 x1 x2 x3 x4 x5 : A) (ρ : List A) → Quoted R (x0 ∷ x1 ∷ x2 ∷ x3 ∷ x4 ∷ x5 ∷ ρ) x5
variable5 R x0 x1 x2 x3 x4 x5 ρ = record { expr = var 5; is = refl }

abbrev pub variable6 : {A C : Type 0} (R : Operations A C) (x0 x1 x2 x3 x4 x5 x6 : A) (ρ : List A) → Quoted R (x0 ∷ x1 ∷ x2 ∷ x3 ∷ x4 ∷ x5 ∷ x6 ∷ ρ) x6
variable6 R x0 x1 x2 x3 x4 x5 x6 ρ = record { expr = var 6; is = refl }

abbrev pub variable7 : {A C : Type 0} (R : Operations A C) (x0 x1 x2 x3 x4 x5 x6 x7 : A) (ρ : List A) → Quoted R (x0 ∷ x1 ∷ x2 ∷ x3 ∷ x4 ∷ x5 ∷ x6 ∷ x7 ∷ ρ) x7
variable7 R x0 x1 x2 x3 x4 x5 x6 x7 ρ = record { expr = var 7; is = refl }

abbrev pub variable8 : {A C : Type 0} (R : Operations A C) (x0 x1 x2 x3 x4 x5 x6 x7 x8 : A) (ρ : List A) → Quoted R (x0 ∷ x1 ∷ x2 ∷ x3 ∷ x4 ∷ x5 ∷ x6 ∷ x7 ∷ x8 ∷ ρ) x8
variable8 R x0 x1 x2 x3 x4 x5 x6 x7 x8 ρ = record { expr = var 8; is = refl }

abbrev pub variable9 : {A C : Type 0} (R : Operations A C) (x0 x1 x2 x3 x4 x5 x6 x7 x8 x9 : A) (ρ : List A) → Quoted R (x0 ∷ x1 ∷ x2 ∷ x3 ∷ x4 ∷ x5 ∷ x6 ∷ x7 ∷ x8 ∷ x9 ∷ ρ) x9
variable9 R x0 x1 x2 x3 x4 x5 x6 x7 x8 x9 ρ = record { expr = var 9; is = refl }

abbrev pub variable10 : {A C : Type 0} (R : Operations A C) (x0 x1 x2 x3 x4 x5 x6 x7 x8 x9 x10 : A) (ρ : List A) → Quoted R (x0 ∷ x1 ∷ x2 ∷ x3 ∷ x4 ∷ x5 ∷ x6 ∷ x7 ∷ x8 ∷ x9 ∷ x10 ∷ ρ) x10
variable10 R x0 x1 x2 x3 x4 x5 x6 x7 x8 x9 x10 ρ = record { expr = var 10; is = refl }

abbrev pub variable11 : {A C : Type 0} (R : Operations A C) (x0 x1 x2 x3 x4 x5 x6 x7 x8 x9 x10 x11 : A) (ρ : List A) → Quoted R (x0 ∷ x1 ∷ x2 ∷ x3 ∷ x4 ∷ x5 ∷ x6 ∷ x7 ∷ x8 ∷ x9 ∷ x10 ∷ x11 ∷ ρ) x11
variable11 R x0 x1 x2 x3 x4 x5 x6 x7 x8 x9 x10 x11 ρ = record { expr = var 11; is = refl }

abbrev pub variable12 : {A C : Type 0} (R : Operations A C) (x0 x1 x2 x3 x4 x5 x6 x7 x8 x9 x10 x11 x12 : A) (ρ : List A) → Quoted R (x0 ∷ x1 ∷ x2 ∷ x3 ∷ x4 ∷ x5 ∷ x6 ∷ x7 ∷ x8 ∷ x9 ∷ x10 ∷ x11 ∷ x12 ∷ ρ) x12
variable12 R x0 x1 x2 x3 x4 x5 x6 x7 x8 x9 x10 x11 x12 ρ = record { expr = var 12; is = refl }

abbrev pub variable13 : {A C : Type 0} (R : Operations A C) (x0 x1 x2 x3 x4 x5 x6 x7 x8 x9 x10 x11 x12 x13 : A) (ρ : List A) → Quoted R (x0 ∷ x1 ∷ x2 ∷ x3 ∷ x4 ∷ x5 ∷ x6 ∷ x7 ∷ x8 ∷ x9 ∷ x10 ∷ x11 ∷ x12 ∷ x13 ∷ ρ) x13
variable13 R x0 x1 x2 x3 x4 x5 x6 x7 x8 x9 x10 x11 x12 x13 ρ = record { expr = var 13; is = refl }

abbrev pub variable14 : {A C : Type 0} (R : Operations A C) (x0 x1 x2 x3 x4 x5 x6 x7 x8 x9 x10 x11 x12 x13 x14 : A) (ρ : List A) → Quoted R (x0 ∷ x1 ∷ x2 ∷ x3 ∷ x4 ∷ x5 ∷ x6 ∷ x7 ∷ x8 ∷ x9 ∷ x10 ∷ x11 ∷ x12 ∷ x13 ∷ x14 ∷ ρ) x14
variable14 R x0 x1 x2 x3 x4 x5 x6 x7 x8 x9 x10 x11 x12 x13 x14 ρ = record { expr = var 14; is = refl }

abbrev pub variable15 : {A C : Type 0} (R : Operations A C) (x0 x1 x2 x3 x4 x5 x6 x7 x8 x9 x10 x11 x12 x13 x14 x15 : A) (ρ : List A) → Quoted R (x0 ∷ x1 ∷ x2 ∷ x3 ∷ x4 ∷ x5 ∷ x6 ∷ x7 ∷ x8 ∷ x9 ∷ x10 ∷ x11 ∷ x12 ∷ x13 ∷ x14 ∷ x15 ∷ ρ) x15
variable15 R x0 x1 x2 x3 x4 x5 x6 x7 x8 x9 x10 x11 x12 x13 x14 x15 ρ = record { expr = var 15; is = refl }

abbrev pub variable16 : {A C : Type 0} (R : Operations A C) (x0 x1 x2 x3 x4 x5 x6 x7 x8 x9 x10 x11 x12 x13 x14 x15 x16 : A) (ρ : List A) → Quoted R (x0 ∷ x1 ∷ x2 ∷ x3 ∷ x4 ∷ x5 ∷ x6 ∷ x7 ∷ x8 ∷ x9 ∷ x10 ∷ x11 ∷ x12 ∷ x13 ∷ x14 ∷ x15 ∷ x16 ∷ ρ) x16
variable16 R x0 x1 x2 x3 x4 x5 x6 x7 x8 x9 x10 x11 x12 x13 x14 x15 x16 ρ = record { expr = var 16; is = refl }

abbrev pub variable17 : {A C : Type 0} (R : Operations A C) (x0 x1 x2 x3 x4 x5 x6 x7 x8 x9 x10 x11 x12 x13 x14 x15 x16 x17 : A) (ρ : List A) → Quoted R (x0 ∷ x1 ∷ x2 ∷ x3 ∷ x4 ∷ x5 ∷ x6 ∷ x7 ∷ x8 ∷ x9 ∷ x10 ∷ x11 ∷ x12 ∷ x13 ∷ x14 ∷ x15 ∷ x16 ∷ x17 ∷ ρ) x17
variable17 R x0 x1 x2 x3 x4 x5 x6 x7 x8 x9 x10 x11 x12 x13 x14 x15 x16 x17 ρ = record { expr = var 17; is = refl }

abbrev pub variable18 : {A C : Type 0} (R : Operations A C) (x0 x1 x2 x3 x4 x5 x6 x7 x8 x9 x10 x11 x12 x13 x14 x15 x16 x17 x18 : A) (ρ : List A) → Quoted R (x0 ∷ x1 ∷ x2 ∷ x3 ∷ x4 ∷ x5 ∷ x6 ∷ x7 ∷ x8 ∷ x9 ∷ x10 ∷ x11 ∷ x12 ∷ x13 ∷ x14 ∷ x15 ∷ x16 ∷ x17 ∷ x18 ∷ ρ) x18
variable18 R x0 x1 x2 x3 x4 x5 x6 x7 x8 x9 x10 x11 x12 x13 x14 x15 x16 x17 x18 ρ = record { expr = var 18; is = refl }

abbrev pub variable19 : {A C : Type 0} (R : Operations A C) (x0 x1 x2 x3 x4 x5 x6 x7 x8 x9 x10 x11 x12 x13 x14 x15 x16 x17 x18 x19 : A) (ρ : List A) → Quoted R (x0 ∷ x1 ∷ x2 ∷ x3 ∷ x4 ∷ x5 ∷ x6 ∷ x7 ∷ x8 ∷ x9 ∷ x10 ∷ x11 ∷ x12 ∷ x13 ∷ x14 ∷ x15 ∷ x16 ∷ x17 ∷ x18 ∷ x19 ∷ ρ) x19
variable19 R x0 x1 x2 x3 x4 x5 x6 x7 x8 x9 x10 x11 x12 x13 x14 x15 x16 x17 x18 x19 ρ = record { expr = var 19; is = refl }

abbrev pub variable20 : {A C : Type 0} (R : Operations A C) (x0 x1 x2 x3 x4 x5 x6 x7 x8 x9 x10 x11 x12 x13 x14 x15 x16 x17 x18 x19 x20 : A) (ρ : List A) → Quoted R (x0 ∷ x1 ∷ x2 ∷ x3 ∷ x4 ∷ x5 ∷ x6 ∷ x7 ∷ x8 ∷ x9 ∷ x10 ∷ x11 ∷ x12 ∷ x13 ∷ x14 ∷ x15 ∷ x16 ∷ x17 ∷ x18 ∷ x19 ∷ x20 ∷ ρ) x20
variable20 R x0 x1 x2 x3 x4 x5 x6 x7 x8 x9 x10 x11 x12 x13 x14 x15 x16 x17 x18 x19 x20 ρ = record { expr = var 20; is = refl }

abbrev pub variable21 : {A C : Type 0} (R : Operations A C) (x0 x1 x2 x3 x4 x5 x6 x7 x8 x9 x10 x11 x12 x13 x14 x15 x16 x17 x18 x19 x20 x21 : A) (ρ : List A) → Quoted R (x0 ∷ x1 ∷ x2 ∷ x3 ∷ x4 ∷ x5 ∷ x6 ∷ x7 ∷ x8 ∷ x9 ∷ x10 ∷ x11 ∷ x12 ∷ x13 ∷ x14 ∷ x15 ∷ x16 ∷ x17 ∷ x18 ∷ x19 ∷ x20 ∷ x21 ∷ ρ) x21
variable21 R x0 x1 x2 x3 x4 x5 x6 x7 x8 x9 x10 x11 x12 x13 x14 x15 x16 x17 x18 x19 x20 x21 ρ = record { expr = var 21; is = refl }

abbrev pub variable22 : {A C : Type 0} (R : Operations A C) (x0 x1 x2 x3 x4 x5 x6 x7 x8 x9 x10 x11 x12 x13 x14 x15 x16 x17 x18 x19 x20 x21 x22 : A) (ρ : List A) → Quoted R (x0 ∷ x1 ∷ x2 ∷ x3 ∷ x4 ∷ x5 ∷ x6 ∷ x7 ∷ x8 ∷ x9 ∷ x10 ∷ x11 ∷ x12 ∷ x13 ∷ x14 ∷ x15 ∷ x16 ∷ x17 ∷ x18 ∷ x19 ∷ x20 ∷ x21 ∷ x22 ∷ ρ) x22
variable22 R x0 x1 x2 x3 x4 x5 x6 x7 x8 x9 x10 x11 x12 x13 x14 x15 x16 x17 x18 x19 x20 x21 x22 ρ = record { expr = var 22; is = refl }

abbrev pub variable23 : {A C : Type 0} (R : Operations A C) (x0 x1 x2 x3 x4 x5 x6 x7 x8 x9 x10 x11 x12 x13 x14 x15 x16 x17 x18 x19 x20 x21 x22 x23 : A) (ρ : List A) → Quoted R (x0 ∷ x1 ∷ x2 ∷ x3 ∷ x4 ∷ x5 ∷ x6 ∷ x7 ∷ x8 ∷ x9 ∷ x10 ∷ x11 ∷ x12 ∷ x13 ∷ x14 ∷ x15 ∷ x16 ∷ x17 ∷ x18 ∷ x19 ∷ x20 ∷ x21 ∷ x22 ∷ x23 ∷ ρ) x23
variable23 R x0 x1 x2 x3 x4 x5 x6 x7 x8 x9 x10 x11 x12 x13 x14 x15 x16 x17 x18 x19 x20 x21 x22 x23 ρ = record { expr = var 23; is = refl }

abbrev pub variable24 : {A C : Type 0} (R : Operations A C) (x0 x1 x2 x3 x4 x5 x6 x7 x8 x9 x10 x11 x12 x13 x14 x15 x16 x17 x18 x19 x20 x21 x22 x23 x24 : A) (ρ : List A) → Quoted R (x0 ∷ x1 ∷ x2 ∷ x3 ∷ x4 ∷ x5 ∷ x6 ∷ x7 ∷ x8 ∷ x9 ∷ x10 ∷ x11 ∷ x12 ∷ x13 ∷ x14 ∷ x15 ∷ x16 ∷ x17 ∷ x18 ∷ x19 ∷ x20 ∷ x21 ∷ x22 ∷ x23 ∷ x24 ∷ ρ) x24
variable24 R x0 x1 x2 x3 x4 x5 x6 x7 x8 x9 x10 x11 x12 x13 x14 x15 x16 x17 x18 x19 x20 x21 x22 x23 x24 ρ = record { expr = var 24; is = refl }

pub ruleset variables = (variable0, variable1, variable2, variable3, variable4, variable5, variable6, variable7, variable8, variable9, variable10, variable11, variable12, variable13, variable14, variable15, variable16, variable17, variable18, variable19, variable20, variable21, variable22, variable23, variable24)

-- the two sides of an equation have one value, if their difference comes to 0
pub equal_sides : {A C : Type 0} (R : Operations A C) → IsRing R → (ρ : List A) {a b : A} (s : Sides R ρ a b) → T (is_zero R (norm R (s.left.expr ⊕ minus s.right.expr))) → a ≡ b
equal_sides R L ρ s t = sym s.left.is ∙ ring R L ρ s.left.expr s.right.expr t ∙ s.right.is

-- the difference of two constants is what each constant is that passes the test, if it passes
pub constant_sides : {A C : Type 0} (R : Operations A C) → IsRing R → (P : A → Type 0) (passes : C → Bool) → ((c : C) → T (passes c) → P (R.value c)) → {a b : A} (s : Sides R [] b a) → T (is_constant R passes (norm R (s.left.expr ⊕ minus s.right.expr))) → P (R.add b (R.neg a))
constant_sides R L P passes f s t = subst P (ap₂ (λ y z. R.add y (R.neg z)) s.left.is s.right.is) (constant_difference R L P passes f s.left.expr s.right.expr t)
