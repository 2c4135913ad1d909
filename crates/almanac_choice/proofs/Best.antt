-- The best of one time more, and what it says of almanacs.
use Rattle.std.specs.Prelude.{◌≡◌, ℕ, zero, suc, ◌+◌, ◌≤◌, ◌<◌, ℤ, List, [], ◌∷◌, ◌++◌, map, take, drop, length, slice_index_or, Contains, refl}
use Rattle.std.proofs.Common.{arith, ap, sym, ◌∙◌, subst, inl, inr}
use Rattle.std.proofs.lemmas.Int.{ints}
use Rattle.std.proofs.lemmas.Bool.{cases_lt}
use Rattle.std.proofs.lemmas.List.{length-map}
use Rattle.raim_model.specs.declared.almanac.AlmRecord.{AlmRecord}
use Rattle.raim_model.specs.AlmanacInForce.{time_of, in_force}
use Rattle.almanac_laws.proofs.Nearest.{only_in_force}
use Rattle.almanac_choice.specs.Choices.{apart, IsBetter, IsNotBetter, time_in, IsFirstBest}

-- a time does not serve better than itself
pub itself : (t x : ℤ) → IsNotBetter t x x
itself t x = record { as_near = omega arith; not_later = λ e. omega (arith, ints) }

-- the kept one stays
pub kept_on : (t : ℤ) (times : List ℤ) (k best : ℕ) → IsFirstBest t times k best → IsNotBetter t (time_in times k) (time_in times best) → IsFirstBest t times (k + 1) best
kept_on t times k best h n = record { serves = λ j p. elim (cases_lt j k) [ inl q ↦ h.serves j q | inr q ↦ let e : k ≡ j = omega arith in subst (λ i. IsNotBetter t (time_in times i) (time_in times best)) e n ]; first = h.first }

-- another one is better
pub taken : (t : ℤ) (times : List ℤ) (k best : ℕ) → IsFirstBest t times k best → IsBetter t (time_in times k) (time_in times best) → IsFirstBest t times (k + 1) k
taken t times k best h b = record {
  serves = λ j p. elim (cases_lt j k) [
    | inl q ↦ let s = h.serves j q in let m = b.nearer in let n = s.as_near in record { as_near = omega arith; not_later = λ e. let x = b.earlier (omega arith) in let y = s.not_later (omega arith) in omega (arith, ints) }
    | inr q ↦ let e : k ≡ j = omega arith in subst (λ i. IsNotBetter t (time_in times i) (time_in times k)) e (itself t (time_in times k))
  ];
  first = λ j p e.
      let s = h.serves j p in let m = b.nearer in let n = s.as_near in
      let f : apart t (time_in times j) ≡ apart t (time_in times k) = ap (λ x. apart t x) e in
      let x = b.earlier (omega arith) in let y = s.not_later (omega arith) in omega (arith, ints);
}

-- ---- almanacs
-- a list cut at a place
part_at : (xs : List (List AlmRecord)) (k : ℕ) → k < length xs → xs ≡ take k xs ++ slice_index_or xs k [] ∷ drop (suc k) xs
part_at [] k p = absurd (omega arith)
part_at (x ∷ xs) zero p = refl
part_at (x ∷ xs) (suc k) p = ap (λ ys. x ∷ ys) (part_at xs k (omega arith))

-- the time of the almanac at a place
time_at_place : (xs : List (List AlmRecord)) (k : ℕ) → k < length xs → time_in (map time_of xs) k ≡ time_of (slice_index_or xs k [])
time_at_place [] k p = absurd (omega arith)
time_at_place (x ∷ xs) zero p = refl
time_at_place (x ∷ xs) (suc k) p = time_at_place xs k (omega arith)

-- what is read at a place of the list needs no default
any_default : (xs : List (List AlmRecord)) (k : ℕ) (d e : List AlmRecord) → k < length xs → slice_index_or xs k d ≡ slice_index_or xs k e
any_default [] k d e p = absurd (omega arith)
any_default (x ∷ xs) zero d e p = refl
any_default (x ∷ xs) (suc k) d e p = any_default xs k d e (omega arith)

-- what is in a front of the list has a place there
in_take : (xs : List (List AlmRecord)) (n : ℕ) (y : List AlmRecord) → Contains (take n xs) y → (k : ℕ) × (k < n) × (k < length xs) × (slice_index_or xs k [] ≡ y)
in_take [] zero y (k, p, e) = absurd (omega arith)
in_take [] (suc n) y (k, p, e) = absurd (omega arith)
in_take (x ∷ xs) zero y (k, p, e) = absurd (omega arith)
in_take (x ∷ xs) (suc n) y (zero, p, e) = (0, omega arith, omega arith, e)
in_take (x ∷ xs) (suc n) y (suc k, p, e) = let r = in_take xs n y (k, omega arith, e) in (suc r.0, (let a = r.1 in omega arith), (let b = r.2 in omega arith), r.3)

-- the first best of the times is that of the almanac in force
in_force_of : (t : ℤ) (almanacs : List (List AlmRecord)) (best : ℕ) → best < length almanacs → IsFirstBest t (map time_of almanacs) (length almanacs) best → slice_index_or almanacs best [] ≡ in_force t almanacs
in_force_of t almanacs best p h = only_in_force t almanacs x record {
  before = take best almanacs;
  after = drop (suc best) almanacs;
  one = part_at almanacs best p;
  nearest = λ o m. let s = served o m in s.as_near;
  earliest = λ o m. let s = served o m in s.not_later;
  first = λ o m e.
      let r = in_take almanacs best o m in
      h.first r.0 r.1 (time_at_place almanacs r.0 r.2 ∙ ap time_of r.3 ∙ e ∙ sym (time_at_place almanacs best p));
}
  where
    x : List AlmRecord
    x = slice_index_or almanacs best []

    served : (o : List AlmRecord) → Contains almanacs o → IsNotBetter t (time_of o) (time_of x)
    served o (k, q, e) =
        let a : time_in (map time_of almanacs) k ≡ time_of o = time_at_place almanacs k q ∙ ap time_of (any_default almanacs k [] o q ∙ e) in
        subst (λ u. IsNotBetter t u (time_of x)) a (subst (λ u. IsNotBetter t (time_in (map time_of almanacs) k) u) (time_at_place almanacs best p) (h.serves k q))

-- after the last of the times
pub best_in_force : (t : ℤ) (almanacs : List (List AlmRecord)) (times : List ℤ) (k best : ℕ) → map time_of almanacs ≡ times → length times ≤ k → best < length times → IsFirstBest t times k best → slice_index_or almanacs best [] ≡ in_force t almanacs
best_in_force t almanacs times k best e q p h =
    let n : length times ≡ length almanacs = ap length (sym e) ∙ length-map almanacs time_of in
    let b : IsFirstBest t times (length almanacs) best = record { serves = λ j l. h.serves j (omega arith); first = h.first } in
    in_force_of t almanacs best (omega arith) (subst (λ ts. IsFirstBest t ts (length almanacs) best) (sym e) b)

-- the same, where the program's numbers are the times
pub taken_at : (t : ℤ) (times : List ℤ) (k best : ℕ) (y z : ℤ) → y ≡ time_in times k → z ≡ time_in times best → IsFirstBest t times k best → IsBetter t y z → IsFirstBest t times (k + 1) k
taken_at t times k best y z p q h b = taken t times k best h (subst (λ u. IsBetter t u (time_in times best)) p (subst (λ u. IsBetter t y u) q b))

-- the same, for the one that stays
pub kept_at : (t : ℤ) (times : List ℤ) (k best : ℕ) (y z : ℤ) → y ≡ time_in times k → z ≡ time_in times best → IsFirstBest t times k best → IsNotBetter t y z → IsFirstBest t times (k + 1) best
kept_at t times k best y z p q h b = kept_on t times k best h (subst (λ u. IsNotBetter t u (time_in times best)) p (subst (λ u. IsNotBetter t y u) q b))
