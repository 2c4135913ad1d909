-- Polynomial identities in a commutative ring by computation: an expression over numbered variables is brought into a normal form, and two expressions whose difference has the normal form 0 have one value.
use Rattle.std.proofs.Common.{◌≡◌, ℕ, zero, suc, refl, sym, ap, ap₂, ◌∙◌, Bool, true, false, ◌&&◌, List, [], ◌∷◌, subst}
use lib.Dec.{T}
use Rattle.whole_numbers.specs.Algebra.{IsCommutativeRing}
use Prim.Native.Nat.{compare, Ordering}
use native.Mathlib.Omega.{compare-eq}

-- the operations of a ring A, and of the constants C in which its fixed elements are written
pub record Operations (A C : Type 0) : Type 0 where
  pub zero : A
  pub one : A
  pub add : A → A → A
  pub mul : A → A → A
  pub neg : A → A
  pub value : C → A
  pub constant_zero : C
  pub constant_one : C
  pub constant_minus_one : C
  pub constant_add : C → C → C
  pub constant_mul : C → C → C
  pub is_constant_zero : C → Bool

-- these operations make a commutative ring, and computing with constants is right
pub record IsRing {A C : Type 0} (R : Operations A C) : Type 0 where
  pub ring : IsCommutativeRing R.zero R.one R.add R.mul R.neg
  pub value_zero : (c : C) → T (R.is_constant_zero c) → R.value c ≡ R.zero
  pub constant_zero_is_zero : T (R.is_constant_zero R.constant_zero)
  pub value-constant_one : R.value R.constant_one ≡ R.one
  pub value-constant_minus_one : R.value R.constant_minus_one ≡ R.neg R.one
  pub value-constant_add : (c d : C) → R.value (R.constant_add c d) ≡ R.add (R.value c) (R.value d)
  pub value-constant_mul : (c d : C) → R.value (R.constant_mul c d) ≡ R.mul (R.value c) (R.value d)

-- ---- expressions
infixl 6 ◌⊕◌
infixl 7 ◌⊗◌
-- expressions over numbered variables
pub data Expr (C : Type 0) : Type 0 where
  var : ℕ → Expr C
  lit : C → Expr C
  ◌⊕◌ : Expr C → Expr C → Expr C
  ◌⊗◌ : Expr C → Expr C → Expr C
  minus : Expr C → Expr C

-- normal forms: `node p i q` is p + x_i * q, where p has variables after i alone, and q those from i on
pub data Poly (C : Type 0) : Type 0 where
  con : C → Poly C
  node : Poly C → ℕ → Poly C → Poly C

-- a case is computed only where it is picked
abbrev pub pick : {P : Type 0} → Ordering → (Unit {0} → P) → (Unit {0} → P) → (Unit {0} → P) → P
pick Ordering.lt a b c = a tt
pick Ordering.eq a b c = b tt
pick Ordering.gt a b c = c tt

-- the same for a test
abbrev pub choose : {P : Type 0} → Bool → (Unit {0} → P) → (Unit {0} → P) → P
choose true a b = a tt
choose false a b = b tt

module _ {A C : Type 0} (R : Operations A C) where
  -- the value of a variable, and 0 past the end
  abbrev pub at : List A → ℕ → A
  at [] i = R.zero
  at (x ∷ ρ) zero = x
  at (x ∷ ρ) (suc i) = at ρ i

  -- the value of an expression
  abbrev pub den : Expr C → List A → A
  den (var i) ρ = at ρ i
  den (lit c) ρ = R.value c
  den (a ⊕ b) ρ = R.add (den a ρ) (den b ρ)
  den (a ⊗ b) ρ = R.mul (den a ρ) (den b ρ)
  den (minus a) ρ = R.neg (den a ρ)

  -- the value of a normal form
  abbrev pub eval : List A → Poly C → A
  eval ρ (con c) = R.value c
  eval ρ (node p i q) = R.add (eval ρ p) (R.mul (at ρ i) (eval ρ q))

  -- `node`, but for a q that is 0
  abbrev pub join : Poly C → ℕ → Poly C → Poly C
  join p i (con c) = choose (R.is_constant_zero c) (λ _. p) (λ _. node p i (con c))
  join p i (node a j b) = node p i (node a j b)

  -- ---- sums
  abbrev pub add_con : C → Poly C → Poly C
  add_con c (con d) = con (R.constant_add c d)
  add_con c (node p i q) = node (add_con c p) i q

  -- the sum of `node p i q` and another, from the functions that add to p and to q
  abbrev pub add_node : (Poly C → Poly C) → (Poly C → Poly C) → Poly C → ℕ → Poly C → Poly C → Poly C
  add_node f g p i q (con d) = node (f (con d)) i q
  add_node f g p i q (node r j s) =
      pick (compare i j) (λ _. node (f (node r j s)) i q) (λ _. join (f r) i (g s)) (λ _. node (add_node f g p i q r) j s)

  abbrev pub sum_of : Poly C → Poly C → Poly C
  sum_of (con c) = add_con c
  sum_of (node p i q) = add_node (sum_of p) (sum_of q) p i q

  -- ---- products
  abbrev pub scale : C → Poly C → Poly C
  scale c (con d) = con (R.constant_mul c d)
  scale c (node p i q) = node (scale c p) i (scale c q)

  -- times a constant; nothing is left of 0 times a polynomial
  abbrev pub mul_con : C → Poly C → Poly C
  mul_con c r = choose (R.is_constant_zero c) (λ _. con R.constant_zero) (λ _. scale c r)

  -- times a variable
  abbrev pub mul_var : ℕ → Poly C → Poly C
  mul_var i (con c) = join (con R.constant_zero) i (con c)
  mul_var i (node p j q) =
      pick (compare i j) (λ _. node (con R.constant_zero) i (node p j q)) (λ _. node (con R.constant_zero) i (node p j q)) (λ _. node (mul_var i p) j (mul_var i q))

  abbrev pub product_of : Poly C → Poly C → Poly C
  product_of (con c) r = mul_con c r
  product_of (node p i q) r = sum_of (product_of p r) (mul_var i (product_of q r))

  -- the normal form of an expression
  abbrev pub norm : Expr C → Poly C
  norm (var i) = node (con R.constant_zero) i (con R.constant_one)
  norm (lit c) = con c
  norm (a ⊕ b) = sum_of (norm a) (norm b)
  norm (a ⊗ b) = product_of (norm a) (norm b)
  norm (minus a) = scale R.constant_minus_one (norm a)

  -- whether a normal form is 0
  abbrev pub is_zero : Poly C → Bool
  is_zero (con c) = R.is_constant_zero c
  is_zero (node p i q) = is_zero p && is_zero q

  -- whether a normal form is a constant that passes a test
  abbrev pub is_constant : (C → Bool) → Poly C → Bool
  is_constant passes (con c) = passes c
  is_constant passes (node p i q) = false

  -- ---- soundness
  module _ (L : IsRing R) where
    -- 0 adds nothing, on the left
    zero_add : (x : A) → R.add R.zero x ≡ x
    zero_add x = L.ring.add_comm R.zero x ∙ L.ring.add_zero x

    -- the last two of three summands may change places
    add_right_comm : (x y z : A) → R.add (R.add x y) z ≡ R.add (R.add x z) y
    add_right_comm x y z = L.ring.add_assoc x y z ∙ ap (λ t. R.add x t) (L.ring.add_comm y z) ∙ sym (L.ring.add_assoc x z y)

    -- the inner two of four summands may change places
    add_swap : (x y z w : A) → R.add (R.add x y) (R.add z w) ≡ R.add (R.add x z) (R.add y w)
    add_swap x y z w = sym (L.ring.add_assoc (R.add x y) z w) ∙ ap (λ t. R.add t w) (add_right_comm x y z) ∙ L.ring.add_assoc (R.add x z) y w

    -- a sum times a number is the sum of the products
    add_mul : (x y z : A) → R.mul (R.add x y) z ≡ R.add (R.mul x z) (R.mul y z)
    add_mul x y z = L.ring.mul_comm (R.add x y) z ∙ L.ring.mul_add z x y ∙ ap₂ R.add (L.ring.mul_comm z x) (L.ring.mul_comm z y)

    -- the first two of three factors may change places
    mul_left_comm : (x y z : A) → R.mul x (R.mul y z) ≡ R.mul y (R.mul x z)
    mul_left_comm x y z = sym (L.ring.mul_assoc x y z) ∙ ap (λ t. R.mul t z) (L.ring.mul_comm x y) ∙ L.ring.mul_assoc y x z

    -- what adds nothing to a number is 0
    add_cancel : (x y : A) → R.add x y ≡ x → y ≡ R.zero
    add_cancel x y e =
        sym (zero_add y) ∙ ap (λ t. R.add t y) (sym (L.ring.add_neg x) ∙ L.ring.add_comm x (R.neg x)) ∙ L.ring.add_assoc (R.neg x) x y ∙ ap (λ t. R.add (R.neg x) t) e ∙ L.ring.add_comm (R.neg x) x ∙ L.ring.add_neg x

    -- a number times 0 is 0
    mul_zero : (x : A) → R.mul x R.zero ≡ R.zero
    mul_zero x = add_cancel (R.mul x R.zero) (R.mul x R.zero) (sym (L.ring.mul_add x R.zero R.zero) ∙ ap (λ t. R.mul x t) (L.ring.add_zero R.zero))

    -- 0 times a number is 0
    zero_mul : (x : A) → R.mul R.zero x ≡ R.zero
    zero_mul x = L.ring.mul_comm R.zero x ∙ mul_zero x

    -- what differs by 0 is equal
    pub from_difference : (x y : A) → R.add x (R.neg y) ≡ R.zero → x ≡ y
    from_difference x y e =
        sym (L.ring.add_zero x) ∙ ap (λ t. R.add x t) (sym (L.ring.add_neg y) ∙ L.ring.add_comm y (R.neg y)) ∙ sym (L.ring.add_assoc x (R.neg y) y) ∙ ap (λ t. R.add t y) e ∙ zero_add y

    -- two negations cancel
    neg_neg : (x : A) → R.neg (R.neg x) ≡ x
    neg_neg x =
        sym (zero_add (R.neg (R.neg x))) ∙ ap (λ t. R.add t (R.neg (R.neg x))) (sym (L.ring.add_neg x)) ∙ L.ring.add_assoc x (R.neg x) (R.neg (R.neg x)) ∙ ap (λ t. R.add x t) (L.ring.add_neg (R.neg x)) ∙ L.ring.add_zero x

    -- 1 times a number is the number
    one_mul : (x : A) → R.mul R.one x ≡ x
    one_mul x = L.ring.mul_comm R.one x ∙ L.ring.mul_one x

    -- -1 times a number is its negation
    negative_one_mul : (x : A) → R.mul (R.neg R.one) x ≡ R.neg x
    negative_one_mul x =
        from_difference (R.mul (R.neg R.one) x) (R.neg x) (add_cancel x _ (sym (L.ring.add_assoc x _ _) ∙ ap (λ t. R.add t (R.neg (R.neg x))) (ap (λ t. R.add t (R.mul (R.neg R.one) x)) (sym (one_mul x)) ∙ sym (add_mul R.one (R.neg R.one) x) ∙ ap (λ t. R.mul t x) (L.ring.add_neg R.one) ∙ zero_mul x)
        ∙ zero_add _ ∙ neg_neg x))

    -- the same of the constant -1
    minus_one_mul : (x : A) → R.mul (R.value R.constant_minus_one) x ≡ R.neg x
    minus_one_mul x = ap (λ t. R.mul t x) L.value-constant_minus_one ∙ negative_one_mul x

    -- the constant 0 is 0
    value-constant_zero : R.value R.constant_zero ≡ R.zero
    value-constant_zero = L.value_zero R.constant_zero L.constant_zero_is_zero

    -- what holds of each case holds of the one that is picked
    pick_ind : {P : Type 0} (Q : P → Type 0) (o : Ordering) (a b c : Unit {0} → P) → Q (a tt) → (o ≡ Ordering.eq → Q (b tt)) → Q (c tt) → Q (pick o a b c)
    pick_ind Q Ordering.lt a b c p q r = p
    pick_ind Q Ordering.eq a b c p q r = q refl
    pick_ind Q Ordering.gt a b c p q r = r

    -- and of the one that is chosen
    choose_ind : {P : Type 0} (Q : P → Type 0) (t : Bool) (a b : Unit {0} → P) → (T t → Q (a tt)) → Q (b tt) → Q (choose t a b)
    choose_ind Q true a b p q = p tt
    choose_ind Q false a b p q = q

    module _ (ρ : List A) where
      -- `join` has the value of `node`
      join_is : (p : Poly C) (i : ℕ) (q : Poly C) → eval ρ (join p i q) ≡ R.add (eval ρ p) (R.mul (at ρ i) (eval ρ q))
      join_is p i (con c) =
          choose_ind (λ t. eval ρ t ≡ R.add (eval ρ p) (R.mul (at ρ i) (R.value c))) (R.is_constant_zero c) (λ _. p) (λ _. node p i (con c))
          (λ h. sym (ap (λ z. R.add (eval ρ p) z) (ap (λ z. R.mul (at ρ i) z) (L.value_zero c h) ∙ mul_zero (at ρ i)) ∙ L.ring.add_zero (eval ρ p)))
          refl
      join_is p i (node a j b) = refl

      -- `add_con` adds a constant
      add_con_is : (c : C) (r : Poly C) → eval ρ (add_con c r) ≡ R.add (R.value c) (eval ρ r)
      add_con_is c (con d) = L.value-constant_add c d
      add_con_is c (node p i q) = ap (λ z. R.add z (R.mul (at ρ i) (eval ρ q))) (add_con_is c p) ∙ L.ring.add_assoc (R.value c) (eval ρ p) _

      -- f adds p
      Adds : (Poly C → Poly C) → Poly C → Type 0
      Adds f p = (r : Poly C) → eval ρ (f r) ≡ R.add (eval ρ p) (eval ρ r)

      -- `add_node` adds a node
      add_node_is : (f g : Poly C → Poly C) (p : Poly C) (i : ℕ) (q : Poly C) → Adds f p → Adds g q → (r : Poly C) → eval ρ (add_node f g p i q r) ≡ R.add (eval ρ (node p i q)) (eval ρ r)
      unfolding Adds
      add_node_is f g p i q hf hg (con d) = ap (λ z. R.add z (R.mul (at ρ i) (eval ρ q))) (hf (con d)) ∙ add_right_comm (eval ρ p) (R.value d) _
      add_node_is f g p i q hf hg (node r j s) =
          pick_ind (λ t. eval ρ t ≡ R.add (eval ρ (node p i q)) (eval ρ (node r j s))) (compare i j) (λ _. node (f (node r j s)) i q) (λ _. join (f r) i (g s)) (λ _. node (add_node f g p i q r) j s)
          (ap (λ z. R.add z (R.mul (at ρ i) (eval ρ q))) (hf (node r j s)) ∙ add_right_comm (eval ρ p) _ _)
          (λ e. join_is (f r) i (g s) ∙ ap₂ (λ y z. R.add y (R.mul (at ρ i) z)) (hf r) (hg s) ∙ ap (λ z. R.add (R.add (eval ρ p) (eval ρ r)) z) (L.ring.mul_add (at ρ i) (eval ρ q) (eval ρ s))
          ∙ add_swap (eval ρ p) (eval ρ r) _ _ ∙ ap (λ k. R.add (eval ρ (node p i q)) (R.add (eval ρ r) (R.mul (at ρ k) (eval ρ s)))) (compare-eq i j e))
          (ap (λ z. R.add z (R.mul (at ρ j) (eval ρ s))) (add_node_is f g p i q hf hg r) ∙ L.ring.add_assoc (eval ρ (node p i q)) (eval ρ r) _)

      -- `sum_of` adds
      sum_is : (p r : Poly C) → eval ρ (sum_of p r) ≡ R.add (eval ρ p) (eval ρ r)
      unfolding Adds
      sum_is (con c) r = add_con_is c r
      sum_is (node p i q) r = add_node_is (sum_of p) (sum_of q) p i q (sum_is p) (sum_is q) r

      -- `scale` multiplies by a constant
      scale_is : (c : C) (r : Poly C) → eval ρ (scale c r) ≡ R.mul (R.value c) (eval ρ r)
      scale_is c (con d) = L.value-constant_mul c d
      scale_is c (node p i q) =
          ap₂ (λ y z. R.add y (R.mul (at ρ i) z)) (scale_is c p) (scale_is c q) ∙ ap (λ z. R.add (R.mul (R.value c) (eval ρ p)) z) (mul_left_comm (at ρ i) (R.value c) (eval ρ q)) ∙ sym (L.ring.mul_add (R.value c) (eval ρ p) _)

      -- so does `mul_con`
      mul_con_is : (c : C) (r : Poly C) → eval ρ (mul_con c r) ≡ R.mul (R.value c) (eval ρ r)
      mul_con_is c r =
          choose_ind (λ t. eval ρ t ≡ R.mul (R.value c) (eval ρ r)) (R.is_constant_zero c) (λ _. con R.constant_zero) (λ _. scale c r)
          (λ h. value-constant_zero ∙ sym (ap (λ z. R.mul z (eval ρ r)) (L.value_zero c h) ∙ zero_mul (eval ρ r)))
          (scale_is c r)

      -- the constant 0 adds nothing
      constant_zero-add : (x : A) → R.add (R.value R.constant_zero) x ≡ x
      constant_zero-add x = ap (λ z. R.add z x) value-constant_zero ∙ zero_add x

      -- `mul_var` multiplies by a variable
      mul_var_is : (i : ℕ) (r : Poly C) → eval ρ (mul_var i r) ≡ R.mul (at ρ i) (eval ρ r)
      mul_var_is i (con c) = join_is (con R.constant_zero) i (con c) ∙ constant_zero-add _
      mul_var_is i (node p j q) =
          pick_ind (λ t. eval ρ t ≡ R.mul (at ρ i) (eval ρ (node p j q))) (compare i j) (λ _. node (con R.constant_zero) i (node p j q)) (λ _. node (con R.constant_zero) i (node p j q)) (λ _. node (mul_var i p) j (mul_var i q))
          (constant_zero-add _)
          (λ _. constant_zero-add _)
          (ap₂ (λ y z. R.add y (R.mul (at ρ j) z)) (mul_var_is i p) (mul_var_is i q) ∙ ap (λ z. R.add (R.mul (at ρ i) (eval ρ p)) z) (mul_left_comm (at ρ j) (at ρ i) (eval ρ q)) ∙ sym (L.ring.mul_add (at ρ i) (eval ρ p) _))

      -- `product_of` multiplies
      product_is : (p r : Poly C) → eval ρ (product_of p r) ≡ R.mul (eval ρ p) (eval ρ r)
      product_is (con c) r = mul_con_is c r
      product_is (node p i q) r =
          sum_is (product_of p r) (mul_var i (product_of q r)) ∙ ap₂ R.add (product_is p r) (mul_var_is i (product_of q r) ∙ ap (λ z. R.mul (at ρ i) z) (product_is q r) ∙ sym (L.ring.mul_assoc (at ρ i) (eval ρ q) (eval ρ r))) ∙ sym (add_mul (eval ρ p) _ (eval ρ r))

      -- an expression has the value of its normal form
      pub norm_is : (a : Expr C) → eval ρ (norm a) ≡ den a ρ
      norm_is (var i) = constant_zero-add _ ∙ ap (λ z. R.mul (at ρ i) z) L.value-constant_one ∙ L.ring.mul_one (at ρ i)
      norm_is (lit c) = refl
      norm_is (a ⊕ b) = sum_is (norm a) (norm b) ∙ ap₂ R.add (norm_is a) (norm_is b)
      norm_is (a ⊗ b) = product_is (norm a) (norm b) ∙ ap₂ R.mul (norm_is a) (norm_is b)
      norm_is (minus a) = scale_is R.constant_minus_one (norm a) ∙ minus_one_mul (eval ρ (norm a)) ∙ ap R.neg (norm_is a)

      -- both parts of a test that passes pass
      both_true : (a b : Bool) → T (a && b) → T a × T b
      both_true true true t = (tt, tt)
      both_true true false t = absurd t
      both_true false b t = absurd t

      -- a normal form that passes the test is 0
      is_zero_is : (p : Poly C) → T (is_zero p) → eval ρ p ≡ R.zero
      is_zero_is (con c) t = L.value_zero c t
      is_zero_is (node p i q) t =
          let h = both_true (is_zero p) (is_zero q) t in
          ap₂ (λ y z. R.add y (R.mul (at ρ i) z)) (is_zero_is p h.0) (is_zero_is q h.1) ∙ zero_add _ ∙ mul_zero (at ρ i)

      -- two expressions whose difference comes to 0 have one value
      pub ring : (a b : Expr C) → T (is_zero (norm (a ⊕ minus b))) → den a ρ ≡ den b ρ
      ring a b t = from_difference (den a ρ) (den b ρ) (sym (norm_is (a ⊕ minus b)) ∙ is_zero_is (norm (a ⊕ minus b)) t)

    -- what each constant that passes a test is, that is the difference of two expressions with no variables, if it comes to one
    pub constant_difference : (P : A → Type 0) (passes : C → Bool) → ((c : C) → T (passes c) → P (R.value c)) → (a b : Expr C) → T (is_constant passes (norm (a ⊕ minus b))) → P (R.add (den a []) (R.neg (den b [])))
    constant_difference P passes f a b t = subst P (norm_is [] (a ⊕ minus b)) (constant_is (norm (a ⊕ minus b)) t)
      where
        constant_is : (p : Poly C) → T (is_constant passes p) → P (eval [] p)
        constant_is (con c) t = f c t
        constant_is (node p i q) t = absurd t
