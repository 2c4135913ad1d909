-- A case has one list of cuts: two strictly rising lists of the same times are one.
use Rattle.std.specs.Prelude.{◌≡◌, zero, suc, ℤ, ◌≤ℤ◌, ◌<ℤ◌, List, [], ◌∷◌, Contains, AllPairs, refl}
use Rattle.std.proofs.Common.{arith, ap₂, sym, ◌∙◌, subst, inl, inr}
use Rattle.std.proofs.lemmas.Int.{ints, by_lt_z}
use Rattle.raim_model.specs.Route.{flight_of}
use Rattle.raim_model.specs.Solution.{Case}
use Rattle.raim_model.specs.Cuts.{first_cut, last_cut, last_from}
use Rattle.raim_model.specs.CaseRanges.{IsCase}
use Rattle.raim_model.specs.CaseCuts.{CutsFlight}
use Rattle.flight_laws.proofs.Cuts.{FlightTimes, flight_times, head_or_rest, rest_above, tail_rising, up_to_last}

abbrev Rises : List ℤ → Type 0
Rises xs = AllPairs (λ before after. before <ℤ after) xs

behind : (x : ℤ) (xs : List ℤ) (t : ℤ) → Contains xs t → Contains (x ∷ xs) t
behind x xs t (k, p, e) = (suc k, omega arith, e)

-- an element of one of them that is behind the head of the other is behind its own head
tail_member : (x y : ℤ) (xs ys : List ℤ) → Rises (x ∷ xs) → x ≡ y → ((t : ℤ) → Contains (x ∷ xs) t → Contains (y ∷ ys) t) → (t : ℤ) → Contains xs t → Contains ys t
tail_member x y xs ys rises e into t m = elim (head_or_rest y ys t (into t (behind x xs t m))) [
  | inl f ↦ absurd (let lt : x <ℤ t = rest_above x xs t rises m in subst (λ u. u <ℤ t → ⊥) (sym (e ∙ f)) (λ h. omega (arith, ints)) lt)
  | inr k ↦ k
]

same_heads : (x y : ℤ) (xs ys : List ℤ) → Rises (x ∷ xs) → Rises (y ∷ ys) → Contains (y ∷ ys) x → Contains (x ∷ xs) y → x ≡ y
same_heads x y xs ys r s a b = elim (head_or_rest y ys x a) [
  | inl e ↦ sym e
  | inr k ↦ elim (head_or_rest x xs y b) [
    | inl e ↦ e
    | inr l ↦ absurd (let p : y <ℤ x = rest_above y ys x s k in let q : x <ℤ y = rest_above x xs y r l in omega (arith, ints))
  ]
]

pub one_rising : (xs ys : List ℤ) → Rises xs → Rises ys → ((t : ℤ) → Contains xs t → Contains ys t) → ((t : ℤ) → Contains ys t → Contains xs t) → xs ≡ ys
one_rising [] [] r s into back = refl
one_rising [] (y ∷ ys) r s into back = absurd (let m = back y (zero, omega arith, refl) in let p = m.1 in omega arith)
one_rising (x ∷ xs) [] r s into back = absurd (let m = into x (zero, omega arith, refl) in let p = m.1 in omega arith)
one_rising (x ∷ xs) (y ∷ ys) r s into back =
    let e : x ≡ y = same_heads x y xs ys r s (into x (zero, omega arith, refl)) (back y (zero, omega arith, refl)) in
    let rest : xs ≡ ys = one_rising xs ys (tail_rising x xs r) (tail_rising y ys s) (tail_member x y xs ys r e into) (tail_member y x ys xs s (sym e) back) in
    ap₂ (λ h t. h ∷ t) e rest

-- each element is from the first to the last
from_first : (x : ℤ) (xs : List ℤ) (t : ℤ) → Rises (x ∷ xs) → Contains (x ∷ xs) t → x ≤ℤ t
from_first x xs t r m = elim (head_or_rest x xs t m) [
  | inl e ↦ subst (λ u. x ≤ℤ u) e (omega (arith, ints))
  | inr k ↦ let lt : x <ℤ t = rest_above x xs t r k in omega (arith, ints)
]

to_last : (x : ℤ) (xs : List ℤ) (t : ℤ) → Rises (x ∷ xs) → Contains (x ∷ xs) t → t ≤ℤ last_from x xs
to_last x [] t r m = elim (head_or_rest x [] t m) [
  | inl e ↦ subst (λ u. u ≤ℤ x) e (omega (arith, ints))
  | inr k ↦ absurd (let p = k.1 in omega arith)
]
to_last x (y ∷ ys) t r m =
    let rest : Contains (y ∷ ys) t → t ≤ℤ last_from y ys = to_last y ys t (tail_rising x (y ∷ ys) r) in
    elim (head_or_rest x (y ∷ ys) t m) [
      | inl e ↦ subst (λ u. u ≤ℤ last_from y ys) e (up_to_last x (y ∷ ys) r)
      | inr k ↦ rest k
    ]

has_last : (x : ℤ) (xs : List ℤ) → Contains (x ∷ xs) (last_from x xs)
has_last x [] = (zero, omega arith, refl)
has_last x (y ∷ ys) = behind x (y ∷ ys) (last_from y ys) (has_last y ys)

-- what one list of cuts has, the other has
into_other : (c : Case) → FlightTimes c → (xs ys : List ℤ) → CutsFlight c xs → CutsFlight c ys → (t : ℤ) → Contains xs t → Contains ys t
into_other c f [] ys a b t m = absurd (let p = m.1 in omega arith)
into_other c f (x ∷ xs) [] a b t m = absurd (empty (flight_of c.route).first (flight_of c.route).end b.first b.last f.some)
  where
    empty : (p q : ℤ) → first_cut [] ≡ p → last_cut [] ≡ q → p <ℤ q → ⊥
    empty p q d e lt = subst (λ u. u <ℤ q → ⊥) d (λ l. subst (λ u. first_cut [] <ℤ u → ⊥) e (λ k. omega (arith, ints)) l) lt
into_other c f (x ∷ xs) (y ∷ ys) a b t m =
    let low : (flight_of c.route).first ≤ℤ t = subst (λ u. u ≤ℤ t) a.first (from_first x xs t a.rising m) in
    let high : t ≤ℤ (flight_of c.route).end = subst (λ u. t ≤ℤ u) a.last (to_last x xs t a.rising m) in
    by_lt_z (flight_of c.route).first t
    (λ after. by_lt_z t (flight_of c.route).end
    (λ before. (b.between t after before).1 ((a.between t after before).0 m))
    (λ late. let e : last_from y ys ≡ t = b.last ∙ let h : (flight_of c.route).end ≡ t = omega (arith, ints) in h in subst (λ u. Contains (y ∷ ys) u) e (has_last y ys)))
    (λ early. let e : y ≡ t = b.first ∙ let h : (flight_of c.route).first ≡ t = omega (arith, ints) in h in (zero, omega arith, e))

pub one_list : (c : Case) → IsCase c → (xs ys : List ℤ) → CutsFlight c xs → CutsFlight c ys → xs ≡ ys
one_list c i xs ys a b = one_rising xs ys a.rising b.rising (into_other c (flight_times c i) xs ys a b) (into_other c (flight_times c i) ys xs b a)
