-- What a commutative ring is, and what an order of its elements has to keep.
use Rattle.std.specs.Prelude.{◌≡◌, ◌⊎◌, ◌↔◌}

-- sum, product and negation obey the laws of a commutative ring
pub record IsCommutativeRing {A : Type 0} (zero one : A) (add mul : A → A → A) (neg : A → A) : Type 0 where
  pub add_assoc : (x y z : A) → add (add x y) z ≡ add x (add y z)
  pub add_comm : (x y : A) → add x y ≡ add y x
  pub add_zero : (x : A) → add x zero ≡ x
  pub add_neg : (x : A) → add x (neg x) ≡ zero
  pub mul_assoc : (x y z : A) → mul (mul x y) z ≡ mul x (mul y z)
  pub mul_comm : (x y : A) → mul x y ≡ mul y x
  pub mul_one : (x : A) → mul x one ≡ x
  pub mul_add : (x y z : A) → mul x (add y z) ≡ add (mul x y) (mul x z)

-- `le` orders all elements in one row
pub record IsTotalOrder {A : Type 0} (le : A → A → Type 0) : Type 0 where
  pub refl : (x : A) → le x x
  pub trans : (x y z : A) → le x y → le y z → le x z
  pub antisym : (x y : A) → le x y → le y x → x ≡ y
  pub total : (x y : A) → (le x y) ⊎ (le y x)

-- `lt` is that order without equality
pub record IsStrictOrder {A : Type 0} (le lt : A → A → Type 0) : Type 0 where
  pub irrefl : (x : A) → ¬ (lt x x)
  pub trans : (x y z : A) → lt x y → lt y z → lt x z
  pub at_most : (x y : A) → lt x y → le x y
  pub not_at_most : (x y : A) → (lt x y) ↔ (¬ (le y x))
  pub below_trans : (x y z : A) → lt x y → le y z → lt x z
  pub trans_below : (x y z : A) → le x y → lt y z → lt x z
  pub trichotomy : (x y : A) → (lt x y) ⊎ ((x ≡ y) ⊎ (lt y x))

-- sums, and products by what is not negative, keep an order
pub record IsCompatibleOrder {A : Type 0} (zero : A) (add mul : A → A → A) (le : A → A → Type 0) : Type 0 where
  pub add_mono : (x y z : A) → le x y → le (add x z) (add y z)
  pub mul_mono : (x y z : A) → le zero z → le x y → le (mul x z) (mul y z)
