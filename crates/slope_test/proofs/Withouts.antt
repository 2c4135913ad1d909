-- Lists without one of their entries.
use Rattle.std.specs.Prelude.{◌≡◌, ℕ, zero, suc, ◌≤◌, List, [], ◌∷◌, map, length, refl}
use Rattle.std.proofs.Common.{arith, ap}
use Rattle.geometry_laws.specs.Without.{without}

pub without_shorter : {A : Type 0} (j : ℕ) (xs : List A) → length (without j xs) ≤ length xs
unfolding without
without_shorter j [] = omega arith
without_shorter zero (y ∷ ys) = omega arith
without_shorter (suc j) (y ∷ ys) = let h = without_shorter j ys in omega arith

pub map-without : {A B : Type 0} (f : A → B) (j : ℕ) (xs : List A) → map f (without j xs) ≡ without j (map f xs)
unfolding without
map-without f j [] = refl
map-without f zero (y ∷ ys) = refl
map-without f (suc j) (y ∷ ys) = ap (λ t. f y ∷ t) (map-without f j ys)

-- a list without an entry is no longer than it
pub without_few : {A : Type 0} (j : ℕ) (xs ys : List A) (n : ℕ) → ys ≡ without j xs → length xs ≤ n → length ys ≤ n
without_few j xs ys n e p = let h = without_shorter j xs in rw e (omega arith)
