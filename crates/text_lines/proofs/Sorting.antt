-- Each list can be sorted by a key, and in one way where the keys differ.
use Rattle.std.proofs.Common.{◌≡◌, ◌==◌, ◌⊎◌, ◌<◌, ◌≤◌, ◌+◌, ℕ, suc, zero, Bool, true, false, cond, nat_le, nat_lt, List, [], ◌∷◌, length, get_or, refl, sym, ap₂, ◌∙◌, subst, inl, inr, arith, All, AllPairs, IsPermutation, IsSortedByKey}
use Rattle.std.specs.List.{Contains}
use Rattle.std.specs.List.Sorted.{IsNonDecreasingBy}
use Rattle.std.specs.Ordering.{nat_cmp, is_lt}
use Rattle.std.specs.declared.cmp.Ordering.TheVariants.{Less, Equal, Greater}
use Rattle.std.proofs.lemmas.Bool.Decides.{nat_tests}
use Rattle.std.proofs.lemmas.List.Sorted.{All-permutation, Contains-permutation, IsPermutation-cons, IsPermutation-middle, IsPermutation-refl, IsPermutation-sym, IsPermutation-trans}

not_less : (a b : ℕ) → b ≤ a → is_lt (nat_cmp a b) ≡ false
not_less a b h = ends (nat_lt a b) (a == b) (grind (arith, nat_tests))
  where
    ends : (t e : Bool) → t ≡ false → is_lt (cond t Less (cond e Equal Greater)) ≡ false
    ends true e h = cc
    ends false true h = refl
    ends false false h = refl

all_cons : {X : Type 0} (P : X → Type 0) (x : X) (xs : List X) → P x → All P xs → All P (x ∷ xs)
all_cons P x xs p a zero d below = p
all_cons P x xs p a (suc k) d below = a k d (omega arith)

module _ {X : Type 0} (n : X → ℕ) where
  -- an element at its place in a sorted list
  abbrev place : X → List X → List X
  place y [] = y ∷ []
  place y (x ∷ xs) = cond (nat_le (n y) (n x)) (y ∷ x ∷ xs) (x ∷ place y xs)

  placed : (y : X) (xs : List X) → IsPermutation (y ∷ xs) (place y xs)
  placed y [] = IsPermutation-refl (y ∷ [])
  placed y (x ∷ xs) = go (nat_le (n y) (n x)) (placed y xs)
    where
      go : (t : Bool) → IsPermutation (y ∷ xs) (place y xs) → IsPermutation (y ∷ x ∷ xs) (cond t (y ∷ x ∷ xs) (x ∷ place y xs))
      go true p = IsPermutation-refl (y ∷ x ∷ xs)
      go false p =
          IsPermutation-trans (y ∷ x ∷ xs) (x ∷ y ∷ xs) (x ∷ place y xs)
          (IsPermutation-sym (x ∷ y ∷ xs) (y ∷ x ∷ xs) (IsPermutation-middle (x ∷ []) y xs))
          (IsPermutation-cons x (y ∷ xs) (place y xs) p)

  -- each key is at most those after it
  abbrev Up : List X → Type 0
  Up [] = Unit {0}
  Up (x ∷ xs) = All (λ y. n x ≤ n y) xs × Up xs

  up_placed : (y : X) (xs : List X) → Up xs → Up (place y xs)
  up_placed y [] u = ((λ k d below. absurd (omega arith)), tt)
  up_placed y (x ∷ xs) u = go (nat_le (n y) (n x)) refl (up_placed y xs u.1)
    where
      below_all : n y ≤ n x → All (λ z. n y ≤ n z) xs
      below_all low k d below = let next = u.0 k d below in omega (arith, low, next)

      go : (t : Bool) → nat_le (n y) (n x) ≡ t → Up (place y xs) → Up (cond t (y ∷ x ∷ xs) (x ∷ place y xs))
      go true e p = let low : n y ≤ n x = grind (arith, nat_tests) in (all_cons (λ z. n y ≤ n z) x xs low (below_all low), u)
      go false e p =
          let low : n x ≤ n y = grind (arith, nat_tests) in
          (All-permutation (λ z. n x ≤ n z) (y ∷ xs) (place y xs) (placed y xs) (all_cons (λ z. n x ≤ n z) y xs low u.0), p)

  up_sorted : (xs : List X) → Up xs → IsNonDecreasingBy n xs
  up_sorted [] u i j d le below = absurd (omega arith)
  up_sorted (x ∷ xs) u zero zero d le below = omega arith
  up_sorted (x ∷ xs) u zero (suc j) d le below = u.0 j d (omega arith)
  up_sorted (x ∷ xs) u (suc i) zero d le below = absurd (omega arith)
  up_sorted (x ∷ xs) u (suc i) (suc j) d le below = up_sorted xs u.1 i j d (omega arith) (omega arith)

  abbrev sorted : List X → List X
  sorted [] = []
  sorted (x ∷ xs) = place x (sorted xs)

  sorted_same : (xs : List X) → IsPermutation xs (sorted xs)
  sorted_same [] = IsPermutation-refl []
  sorted_same (x ∷ xs) = IsPermutation-trans (x ∷ xs) (x ∷ sorted xs) (place x (sorted xs)) (IsPermutation-cons x xs (sorted xs) (sorted_same xs)) (placed x (sorted xs))

  sorted_up : (xs : List X) → Up (sorted xs)
  sorted_up [] = tt
  sorted_up (x ∷ xs) = up_placed x (sorted xs) (sorted_up xs)

  -- a list can be sorted
  pub sorted_exists : (xs : List X) → (ys : List X) × IsPermutation xs ys × IsSortedByKey n nat_cmp ys
  sorted_exists xs =
      let ys = sorted xs in
      (ys, sorted_same xs, λ k d low below. not_less (n (get_or ys (k + 1) d)) (n (get_or ys k d)) (up_sorted ys (sorted_up xs) k (k + 1) d (omega arith) below))

  -- each key is below those after it
  abbrev Rise : List X → Type 0
  Rise [] = Unit {0}
  Rise (x ∷ xs) = All (λ y. n x < n y) xs × Rise xs

  rise_of : (xs : List X) → AllPairs (λ a b. n a < n b) xs → Rise xs
  rise_of [] a = tt
  rise_of (x ∷ xs) a = (λ k d below. a zero (suc k) d (omega arith) (omega arith), rise_of xs (λ i j d lt below. a (suc i) (suc j) d (omega arith) (omega arith)))

  -- an element is the first one, or has a higher key and is one of the others
  in_cons : (x : X) (xs : List X) → Rise (x ∷ xs) → (z : X) (k : ℕ) → k < length (x ∷ xs) → get_or (x ∷ xs) k z ≡ z → (z ≡ x) ⊎ ((n x < n z) × Contains xs z)
  in_cons x xs u z zero below is = inl (sym is)
  in_cons x xs u z (suc k) below is = let low : k < length xs = omega arith in inr (subst (λ (w : X). n x < n w) is (u.0 k z low), (k, low, is))

  in_more : (x : X) (xs : List X) (z : X) → Contains xs z → Contains (x ∷ xs) z
  in_more x xs z c = let low = c.1 in (suc c.0, omega (arith, low), c.2)

  higher : (x : X) (xs : List X) → Rise (x ∷ xs) → (z : X) → Contains xs z → n x < n z
  higher x xs u z c = subst (λ (w : X). n x < n w) c.2 (u.0 c.0 z c.1)

  one_order : (xs ys : List X) → Rise xs → Rise ys → ((z : X) → Contains xs z → Contains ys z) → ((z : X) → Contains ys z → Contains xs z) → xs ≡ ys
  one_order [] [] u v f g = refl
  one_order [] (y ∷ ys) u v f g = let c = g y (zero, omega arith, refl) in let low = c.1 in absurd (omega (arith, low))
  one_order (x ∷ xs) [] u v f g = let c = f x (zero, omega arith, refl) in let low = c.1 in absurd (omega (arith, low))
  one_order (x ∷ xs) (y ∷ ys) u v f g =
      let there = f x (zero, omega arith, refl) in
      let back = g y (zero, omega arith, refl) in
      let same = heads (in_cons y ys v x there.0 there.1 there.2) (in_cons x xs u y back.0 back.1 back.2) in
      ap₂ ◌∷◌ same (one_order xs ys u.1 v.1
      (λ z c. let d = f z (in_more x xs z c) in others x xs y ys (sym same) u z c (in_cons y ys v z d.0 d.1 d.2))
      (λ z c. let d = g z (in_more y ys z c) in others y ys x xs same v z c (in_cons x xs u z d.0 d.1 d.2)))
    where
      heads : (x ≡ y) ⊎ ((n y < n x) × Contains ys x) → (y ≡ x) ⊎ ((n x < n y) × Contains xs y) → x ≡ y
      heads (inl e) q = e
      heads (inr p) (inl e) = sym e
      heads (inr p) (inr q) = let a = p.0 in let b = q.0 in absurd (omega (arith, a, b))

      others : (x : X) (xs : List X) (y : X) (ys : List X) → y ≡ x → Rise (x ∷ xs) → (z : X) → Contains xs z → (z ≡ y) ⊎ ((n y < n z) × Contains ys z) → Contains ys z
      others x xs y ys same u z c (inl e) = let high = subst (λ (w : X). n x < n w) (e ∙ same) (higher x xs u z c) in absurd (omega (arith, high))
      others x xs y ys same u z c (inr p) = p.1

  -- a list whose keys differ is sorted in one way
  pub sorted_once : (xs ys zs : List X) → AllPairs (λ a b. n a < n b) ys → AllPairs (λ a b. n a < n b) zs → IsPermutation xs ys → IsPermutation xs zs → ys ≡ zs
  sorted_once xs ys zs a b p q =
      one_order ys zs (rise_of ys a) (rise_of zs b)
      (λ z c. Contains-permutation xs zs z q (Contains-permutation ys xs z (IsPermutation-sym xs ys p) c))
      (λ z c. Contains-permutation xs ys z p (Contains-permutation zs xs z (IsPermutation-sym xs zs q) c))
