-- The rows without one, kept in a store in which one row is put back for the next that is left out.
use Rattle.std.specs.Prelude.{◌≡◌, ℕ, zero, suc, ◌+◌, ◌<◌, ◌≤◌, Bool, true, false, nat_lt, List, [], ◌∷◌, map, take, length, slice_index_or, slice_set, refl}
use Rattle.std.proofs.Common.{arith, ap, ap₂, sym, ◌∙◌}
use Rattle.std.proofs.lemmas.Bool.Decides.{nat_tests}
use Rattle.std.proofs.lemmas.List.{get_or-set_other, get_or_default}
use Rattle.std.proofs.lemmas.Grind.{get_or-set_at}
use Rattle.geometry_laws.specs.Without.{without}

-- the rest without the row at j: the rows before it, and those after it one place further in
pub record IsRest {A : Type 0} (rows rest : List A) (j last : ℕ) : Type 0 where
  pub low : (k : ℕ) (d : A) → k < j → k < last → slice_index_or rest k d ≡ slice_index_or rows k d
  pub high : (k : ℕ) (d : A) → j ≤ k → k < last → slice_index_or rest k d ≡ slice_index_or rows (k + 1) d

-- the entries of a list without one
without_low : {A : Type 0} (xs : List A) (j k : ℕ) (d : A) → k < j → slice_index_or (without j xs) k d ≡ slice_index_or xs k d
unfolding without
without_low xs zero k d p = absurd (omega (arith, p))
without_low [] (suc j) k d p = refl
without_low (x ∷ xs) (suc j) zero d p = refl
without_low (x ∷ xs) (suc j) (suc k) d p = without_low xs j k d (omega (arith, p))

without_high : {A : Type 0} (xs : List A) (j k : ℕ) (d : A) → j ≤ k → slice_index_or (without j xs) k d ≡ slice_index_or xs (suc k) d
unfolding without
without_high [] j k d p = refl
without_high (x ∷ xs) zero k d p = refl
without_high (x ∷ xs) (suc j) zero d p = absurd (omega (arith, p))
without_high (x ∷ xs) (suc j) (suc k) d p = without_high xs j k d (omega (arith, p))

-- a list without one entry is one shorter
pub without_length : {A : Type 0} (xs : List A) (j : ℕ) → j < length xs → length (without j xs) + 1 ≡ length xs
unfolding without
without_length [] j p = absurd (omega (arith, p))
without_length (x ∷ xs) zero p = omega arith
without_length (x ∷ xs) (suc j) p = let h = without_length xs j (omega (arith, p)) in omega (arith, h)

pub map-without : {A B : Type 0} (f : A → B) (j : ℕ) (xs : List A) → map f (without j xs) ≡ without j (map f xs)
unfolding without
map-without f j [] = refl
map-without f zero (y ∷ ys) = refl
map-without f (suc j) (y ∷ ys) = ap (λ t. f y ∷ t) (map-without f j ys)

-- a front that agrees with a list in each entry is that list
same_front : {A : Type 0} (n : ℕ) (xs ys : List A) → length ys ≡ n → n ≤ length xs → ((k : ℕ) (d : A) → k < n → slice_index_or xs k d ≡ slice_index_or ys k d) → take n xs ≡ ys
same_front zero xs [] e p h = refl
same_front zero xs (y ∷ ys) e p h = absurd (omega (arith, e))
same_front (suc n) [] ys e p h = absurd (omega (arith, p))
same_front (suc n) (x ∷ xs) [] e p h = absurd (omega (arith, e))
same_front (suc n) (x ∷ xs) (y ∷ ys) e p h = ap₂ (λ z zs. z ∷ zs) (h 0 x (omega arith)) (same_front n xs ys (omega (arith, e)) (omega (arith, p)) (λ k d q. h (suc k) d (omega (arith, q))))

pub rest_is : {A : Type 0} (rows rest : List A) (j last : ℕ) → length rows ≡ last + 1 → j ≤ last → last ≤ length rest → IsRest rows rest j last → take last rest ≡ without j rows
rest_is rows rest j last e p q r = same_front last rest (without j rows) (let h = without_length rows j (omega (arith, e, p)) in omega (arith, e, h)) q (λ k d s. by_place k d s (nat_lt k j) refl)
  where
    by_place : (k : ℕ) (d : _) → k < last → (t : Bool) → nat_lt k j ≡ t → slice_index_or rest k d ≡ slice_index_or (without j rows) k d
    by_place k d s true u = let l : k < j = grind (arith, nat_tests) in r.low k d l s ∙ sym (without_low rows j k d l)
    by_place k d s false u = let l : j ≤ k = grind (arith, nat_tests) in r.high k d l s ∙ ap (λ m. slice_index_or rows m d) (next k) ∙ sym (without_high rows j k d l)
      where
        next : (m : ℕ) → m + 1 ≡ suc m
        next m = omega arith

-- the row that was left out takes its place again
pub rest_next : {A : Type 0} (rows rest : List A) (j last : ℕ) (x : A) → length rest ≡ 32 → j < 32 → x ≡ slice_index_or rows j x → j < length rows → IsRest rows rest j last → IsRest rows (slice_set rest j x) (j + 1) last
rest_next rows rest j last x n b e p r = record {
  low = λ k d q s. by_place k d q s (nat_lt k j) refl;
  high = λ k d q s. get_or-set_other rest j k x d (λ f. absurd (omega (arith, f, q))) ∙ r.high k d (omega (arith, q)) s;
}
  where
    read : (k : ℕ) (d : _) → k ≡ j → x ≡ slice_index_or rows k d
    read k d f = e ∙ get_or_default rows j x d p ∙ ap (λ m. slice_index_or rows m d) (sym f)

    by_place : (k : ℕ) (d : _) → k < j + 1 → k < last → (t : Bool) → nat_lt k j ≡ t → slice_index_or (slice_set rest j x) k d ≡ slice_index_or rows k d
    by_place k d q s true u = let l : k < j = grind (arith, nat_tests) in get_or-set_other rest j k x d (λ f. absurd (omega (arith, f, l))) ∙ r.low k d l s
    by_place k d q s false u = let m : k ≡ j = grind (arith, nat_tests) in get_or-set_at rest j k x d m (omega (arith, n, b)) ∙ read k d m
