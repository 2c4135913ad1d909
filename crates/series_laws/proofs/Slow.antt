-- The model's sine across quarters: it moves by at most ten per turn, and 2^-45.
use Rattle.std.specs.Prelude.{◌≡◌, ℕ, zero, suc, ℤ, pos, negsuc, ◌+◌, ◌-◌, ◌%◌, ◌^◌, ◌<◌, ◌≤◌, refl, ◌+ℤ◌, ◌-ℤ◌, ◌≤ℤ◌, unsigned_abs, [], ◌∷◌}
use Rattle.std.proofs.Common.{arith, ap, sym, ◌∙◌, subst}
use Rattle.std.proofs.lemmas.Int.{ints}
use Rattle.std.specs.Int.{int_rem_euclid}
use Rattle.fractions.specs.Fraction.{Fraction, ratio, whole, zeroᶠ, oneᶠ, ◌+ᶠ◌, ◌-ᶠ◌, ◌*ᶠ◌, neg, abs, ◌≤ᶠ◌, IsNear}
use Rattle.fractions.proofs.AbsoluteValues.{by_sign}
use Rattle.fractions.proofs.Certificates.{at_most, not_negative, constants}
use Rattle.fractions.proofs.Floors.{floor_low, at_most-floor}
use Rattle.fractions.proofs.Laws.{≤ᶠ_refl, ≤ᶠ_trans, by_order}
use Rattle.fractions.proofs.Near.{near_trans, near_weaken}
use Rattle.fractions.proofs.Quote.{quote, identity}
use Rattle.fractions.proofs.Ratios.{ratio-add}
use Rattle.raim_model.specs.Constants.{tau}
use Rattle.raim_model.specs.Level.{Level}
use Rattle.raim_model.specs.Sine.{quarter_of, turns_left, IsSineCosine, Turned}
use Rattle.series_laws.proofs.Nest.{nest}
use Rattle.series_laws.proofs.Turns.{IsEighth, turns_small, radians_small}
use Rattle.series_laws.proofs.Waves.{IsSmall, ten_sine, ten_cosine, tiny, sine_ten, cosine_ten, ten_sine_slow, ten_cosine_slow}

-- the sine at r turns from the middle of a quarter, by ten terms
abbrev pub wave_of : ℤ → Fraction → Fraction
wave_of (pos zero) r = ten_sine (tau *ᶠ r)
wave_of (pos (suc zero)) r = ten_cosine (tau *ᶠ r)
wave_of (pos (suc (suc zero))) r = neg (ten_sine (tau *ᶠ r))
wave_of k r = neg (ten_cosine (tau *ᶠ r))

abbrev pub wave : ℤ → Fraction → Fraction
wave q r = wave_of (int_rem_euclid q (pos 4)) r

pub near_neg : {x y e : Fraction} → IsNear x y e → IsNear (neg x) (neg y) e
near_neg {x} {y} {e} p = record {
  low = at_most (x ∷ y ∷ e ∷ []) ((x +ᶠ e) -ᶠ y) (search not_negative) (search quote depth 20) tt;
  high = at_most (x ∷ y ∷ e ∷ []) ((y +ᶠ e) -ᶠ x) (search not_negative) (search quote depth 20) tt;
}

pub near_self : (x e : Fraction) → zeroᶠ ≤ᶠ e → IsNear x x e
near_self x e p = record { low = at_most (x ∷ e ∷ []) e p (search quote depth 20) tt; high = at_most (x ∷ e ∷ []) e p (search quote depth 20) tt }

pub near_sym : {x y e : Fraction} → IsNear x y e → IsNear y x e
near_sym p = record { low = p.high; high = p.low }

near_wave : (k : ℤ) (r x y s c : Fraction) → IsNear x (ten_sine (tau *ᶠ r)) tiny → IsNear y (ten_cosine (tau *ᶠ r)) tiny → Turned k x y s c → IsNear s (wave_of k r) tiny
near_wave (pos zero) r x y s c p q t = rw t.0 p
near_wave (pos (suc zero)) r x y s c p q t = rw t.0 q
near_wave (pos (suc (suc zero))) r x y s c p q t = rw t.0 (near_neg p)
near_wave (pos (suc (suc (suc n)))) r x y s c p q t = rw t.0 (near_neg q)
near_wave (negsuc n) r x y s c p q t = rw t.0 (near_neg q)

pub sine_wave : (N : Level) (u s c : Fraction) → IsSineCosine N u s c → IsNear s (wave (quarter_of u) (turns_left u)) tiny
sine_wave N u s c p =
    let r = radians_small (turns_left u) (turns_small u) in
    let m : 10 ≤ N.terms = omega (arith, N.enough) in
    near_wave (int_rem_euclid (quarter_of u) (pos 4)) (turns_left u) p.sine p.cosine s c (sine_ten N.terms _ p.sine m r p.near_sine) (cosine_ten N.terms _ p.cosine m r p.near_cosine) p.turned

-- ---- on one quarter
pub turns_are_small : (r : Fraction) → IsEighth r → IsSmall (tau *ᶠ r)
turns_are_small r h =
    let small : tau *ᶠ ratio (pos 1) 8 ≤ᶠ ratio (pos 4) 5 = constants (search quote depth 20) tt in
    let up : r ≤ᶠ ratio (pos 1) 8 = h.high in
    let down : neg (ratio (pos 1) 8) ≤ᶠ r = h.low in
    record {
      low = at_most (r ∷ []) (tau *ᶠ (r -ᶠ neg (ratio (pos 1) 8)) +ᶠ (ratio (pos 4) 5 -ᶠ tau *ᶠ ratio (pos 1) 8)) (search not_negative depth 8) (search quote depth 20) tt;
      high = at_most (r ∷ []) (tau *ᶠ (ratio (pos 1) 8 -ᶠ r) +ᶠ (ratio (pos 4) 5 -ᶠ tau *ᶠ ratio (pos 1) 8)) (search not_negative depth 8) (search quote depth 20) tt;
    }

-- nine per turn
per_turn : (r t : Fraction) → r ≤ᶠ t → ratio (pos 107) 75 *ᶠ (tau *ᶠ t -ᶠ tau *ᶠ r) ≤ᶠ ratio (pos 9) 1 *ᶠ (t -ᶠ r)
per_turn r t h =
    let k : ratio (pos 107) 75 *ᶠ tau ≤ᶠ ratio (pos 9) 1 = constants (search quote depth 20) tt in
    at_most (r ∷ t ∷ []) ((ratio (pos 9) 1 -ᶠ ratio (pos 107) 75 *ᶠ tau) *ᶠ (t -ᶠ r)) (search not_negative) (search quote depth 20) tt

radians_order : (r t : Fraction) → r ≤ᶠ t → tau *ᶠ r ≤ᶠ tau *ᶠ t
radians_order r t h = at_most (r ∷ t ∷ []) (tau *ᶠ (t -ᶠ r)) (search not_negative) (search quote depth 20) tt

wave_slow : (k : ℤ) (r t : Fraction) → IsEighth r → IsEighth t → r ≤ᶠ t → IsNear (wave_of k r) (wave_of k t) (ratio (pos 9) 1 *ᶠ (t -ᶠ r))
wave_slow k r t p q h = by_kind k
    (near_weaken (per_turn r t h) (ten_sine_slow (tau *ᶠ r) (tau *ᶠ t) (turns_are_small r p) (turns_are_small t q) (radians_order r t h)))
    (near_weaken (per_turn r t h) (ten_cosine_slow (tau *ᶠ r) (tau *ᶠ t) (turns_are_small r p) (turns_are_small t q) (radians_order r t h)))
  where
    by_kind : (k : ℤ) → IsNear (ten_sine (tau *ᶠ r)) (ten_sine (tau *ᶠ t)) (ratio (pos 9) 1 *ᶠ (t -ᶠ r)) → IsNear (ten_cosine (tau *ᶠ r)) (ten_cosine (tau *ᶠ t)) (ratio (pos 9) 1 *ᶠ (t -ᶠ r)) → IsNear (wave_of k r) (wave_of k t) (ratio (pos 9) 1 *ᶠ (t -ᶠ r))
    by_kind (pos zero) a b = a
    by_kind (pos (suc zero)) a b = b
    by_kind (pos (suc (suc zero))) a b = near_neg a
    by_kind (pos (suc (suc (suc n)))) a b = near_neg b
    by_kind (negsuc n) a b = near_neg b

-- ---- where two quarters meet
abbrev pub jump : Fraction
jump = ratio (pos 1) (2 ^ 48)

abbrev pub eighth : Fraction
eighth = ratio (pos 1) 8

meet_low : ten_sine (tau *ᶠ eighth) ≤ᶠ ten_cosine (tau *ᶠ eighth) +ᶠ jump
meet_low = constants (search quote depth 120 fits 30000) tt

meet_high : ten_cosine (tau *ᶠ eighth) ≤ᶠ ten_sine (tau *ᶠ eighth) +ᶠ jump
meet_high = constants (search quote depth 120 fits 30000) tt

meet : IsNear (ten_sine (tau *ᶠ eighth)) (ten_cosine (tau *ᶠ eighth)) jump
meet = record { low = meet_low; high = meet_high }

mirrored : (x : Fraction) → (tau *ᶠ neg x) *ᶠ (tau *ᶠ neg x) ≡ (tau *ᶠ x) *ᶠ (tau *ᶠ x)
mirrored x = identity (x ∷ []) (search quote depth 20) tt

cosine_even : (x : Fraction) → ten_cosine (tau *ᶠ neg x) ≡ ten_cosine (tau *ᶠ x)
cosine_even x = ap (λ t. nest t 0 10) (mirrored x)

sine_odd : (x : Fraction) → ten_sine (tau *ᶠ neg x) ≡ neg (ten_sine (tau *ᶠ x))
sine_odd x = ap (λ t. (tau *ᶠ neg x) *ᶠ nest t 1 10) (mirrored x) ∙ flip x (nest ((tau *ᶠ x) *ᶠ (tau *ᶠ x)) 1 10)
  where
    flip : (x n : Fraction) → (tau *ᶠ neg x) *ᶠ n ≡ neg ((tau *ᶠ x) *ᶠ n)
    flip x n = identity (x ∷ n ∷ []) (search quote depth 20) tt

neg_twice : (x : Fraction) → neg (neg x) ≡ x
neg_twice x = identity (x ∷ []) (search quote depth 20) tt

-- the quarters of a turn in their order
pub data Follows : ℤ → ℤ → Type 0 where
  zero_one : Follows (pos 0) (pos 1)
  one_two : Follows (pos 1) (pos 2)
  two_three : Follows (pos 2) (pos 3)
  three_zero : Follows (pos 3) (pos 0)

by_rest : (x y : ℕ) → x < 4 → y ≡ (x + 1) % 4 → Follows (pos x) (pos y)
by_rest zero y h e = subst (λ t. Follows (pos 0) (pos t)) (sym e) zero_one
by_rest (suc zero) y h e = subst (λ t. Follows (pos 1) (pos t)) (sym e) one_two
by_rest (suc (suc zero)) y h e = subst (λ t. Follows (pos 2) (pos t)) (sym e) two_three
by_rest (suc (suc (suc zero))) y h e = subst (λ t. Follows (pos 3) (pos t)) (sym e) three_zero
by_rest (suc (suc (suc (suc n)))) y h e = absurd (omega arith)

pub follows : (q : ℤ) → Follows (int_rem_euclid q (pos 4)) (int_rem_euclid (q +ℤ pos 1) (pos 4))
follows (pos a) = by_rest (a % 4) ((a + 1) % 4) (omega arith) (omega arith)
follows (negsuc zero) = three_zero
follows (negsuc (suc a)) =
    let e : negsuc a ≡ negsuc (suc a) +ℤ pos 1 = omega (arith, ints) in
    subst (λ t. Follows (int_rem_euclid (negsuc (suc a)) (pos 4)) (int_rem_euclid t (pos 4))) e (by_rest (4 - 1 - suc a % 4) (4 - 1 - a % 4) (omega arith) (omega arith))

junction_of : (k l : ℤ) → Follows k l → IsNear (wave_of k eighth) (wave_of l (neg eighth)) jump
junction_of k l zero_one = rw (cosine_even eighth) meet
junction_of k l one_two = rw (sine_odd eighth, neg_twice (ten_sine (tau *ᶠ eighth))) (near_sym meet)
junction_of k l two_three = rw (cosine_even eighth) (near_neg meet)
junction_of k l three_zero = rw (sine_odd eighth) (near_neg (near_sym meet))

junction : (q : ℤ) → IsNear (wave q eighth) (wave (q +ℤ pos 1) (neg eighth)) jump
junction q = junction_of _ _ (follows q)

-- ---- over n quarters
one_more : (n : ℕ) → ratio (pos (suc n)) 1 ≡ ratio (pos n) 1 +ᶠ oneᶠ
one_more n = let e : pos n +ℤ pos 1 ≡ pos (suc n) = omega (arith, ints) in sym (ratio-add (pos n) (pos 1) 1 ∙ ap (λ t. ratio t 1) e)

at_eighth : IsEighth eighth
at_eighth = record { low = constants (search quote depth 20) tt; high = ≤ᶠ_refl eighth }

at_minus_eighth : IsEighth (neg eighth)
at_minus_eighth = record { low = ≤ᶠ_refl (neg eighth); high = constants (search quote depth 20) tt }

pub chain : (q : ℤ) (n : ℕ) (r t : Fraction) → IsEighth r → IsEighth t → (n ≡ 0 → r ≤ᶠ t) → IsNear (wave q r) (wave (q +ℤ pos n) t) (ratio (pos 9) 1 *ᶠ (ratio (pos n) 1 *ᶠ ratio (pos 1) 4 +ᶠ (t -ᶠ r)) +ᶠ ratio (pos n) 1 *ᶠ jump)
chain q zero r t p k h =
    let e : q ≡ q +ℤ pos 0 = omega (arith, ints) in
    let w : IsNear (wave q r) (wave q t) (ratio (pos 9) 1 *ᶠ (ratio (pos 0) 1 *ᶠ ratio (pos 1) 4 +ᶠ (t -ᶠ r)) +ᶠ ratio (pos 0) 1 *ᶠ jump) =
    near_weaken (at_most (r ∷ t ∷ []) zeroᶠ (≤ᶠ_refl zeroᶠ) (search quote depth 30) tt) (wave_slow (int_rem_euclid q (pos 4)) r t p k (h refl)) in
    subst (λ z. IsNear (wave q r) (wave z t) (ratio (pos 9) 1 *ᶠ (ratio (pos 0) 1 *ᶠ ratio (pos 1) 4 +ᶠ (t -ᶠ r)) +ᶠ ratio (pos 0) 1 *ᶠ jump)) e w
chain q (suc n) r t p k h =
    let e : (q +ℤ pos 1) +ℤ pos n ≡ q +ℤ pos (suc n) = omega (arith, ints) in
    let ph : r ≤ᶠ eighth = p.high in
    let kl : neg eighth ≤ᶠ t = k.low in
    let a = wave_slow (int_rem_euclid q (pos 4)) r eighth p at_eighth ph in
    let c = chain (q +ℤ pos 1) n (neg eighth) t at_minus_eighth k (λ _. kl) in
    let all = near_trans a (near_trans (junction q) c) in
    let m : Fraction = ratio (pos n) 1 in
    rw (sym e, one_more n) (near_weaken (at_most (r ∷ t ∷ m ∷ []) zeroᶠ (≤ᶠ_refl zeroᶠ) (search quote depth 30) tt) all)

-- ---- over all turns
pub quarter_order : (u v : Fraction) → u ≤ᶠ v → quarter_of u ≤ℤ quarter_of v
quarter_order u v h =
    let k : ratio (pos 4) 1 *ᶠ u +ᶠ ratio (pos 1) 2 ≤ᶠ ratio (pos 4) 1 *ᶠ v +ᶠ ratio (pos 1) 2 = at_most (u ∷ v ∷ []) (ratio (pos 4) 1 *ᶠ (v -ᶠ u)) (search not_negative) (search quote depth 20) tt in
    (at_most-floor (quarter_of u) _).1 (≤ᶠ_trans (floor_low _) k)

-- 2^-45
abbrev pub gap45 : Fraction
gap45 = ratio (pos 1) (2 ^ 45)

pub wave_moves : (u v : Fraction) → u ≤ᶠ v → IsNear (wave (quarter_of u) (turns_left u)) (wave (quarter_of v) (turns_left v)) (ratio (pos 10) 1 *ᶠ (v -ᶠ u) +ᶠ jump)
wave_moves u v h = goes (quarter_of u) (quarter_of v) (unsigned_abs (quarter_of v -ℤ quarter_of u)) (quarters (quarter_of u) (quarter_of v) (quarter_order u v h)) (turns_small u) (turns_small v)
  where
    quarters : (q l : ℤ) → q ≤ℤ l → q +ℤ pos (unsigned_abs (l -ℤ q)) ≡ l
    quarters q l h = omega (arith, ints)

    goes : (q l : ℤ) (n : ℕ) → q +ℤ pos n ≡ l → IsEighth (u -ᶠ whole q *ᶠ ratio (pos 1) 4) → IsEighth (v -ᶠ whole l *ᶠ ratio (pos 1) 4)
        → IsNear (wave q (u -ᶠ whole q *ᶠ ratio (pos 1) 4)) (wave l (v -ᶠ whole l *ᶠ ratio (pos 1) 4)) (ratio (pos 10) 1 *ᶠ (v -ᶠ u) +ᶠ jump)
    goes q l n e p k =
        let f : whole l ≡ whole q +ᶠ ratio (pos n) 1 = sym (ratio-add q (pos n) 1 ∙ ap (λ t. ratio t 1) e) in
        let x : Fraction = whole q in
        let m : Fraction = ratio (pos n) 1 in
        let pk : (v -ᶠ whole l *ᶠ ratio (pos 1) 4) ≡ v -ᶠ (x +ᶠ m) *ᶠ ratio (pos 1) 4 = ap (λ t. v -ᶠ t *ᶠ ratio (pos 1) 4) f in
        let kl : neg eighth ≤ᶠ v -ᶠ (x +ᶠ m) *ᶠ ratio (pos 1) 4 = subst (λ t. neg eighth ≤ᶠ t) pk k.low in
        let ph : u -ᶠ x *ᶠ ratio (pos 1) 4 ≤ᶠ eighth = p.high in
        let still : n ≡ 0 → u -ᶠ whole q *ᶠ ratio (pos 1) 4 ≤ᶠ v -ᶠ whole l *ᶠ ratio (pos 1) 4 = λ z. same q l u v (unmoved q l n e z) h in
        let c = chain q n _ _ p k still in
        let d = subst (λ t. IsNear (wave q (u -ᶠ whole q *ᶠ ratio (pos 1) 4)) (wave t (v -ᶠ whole l *ᶠ ratio (pos 1) 4)) (ratio (pos 9) 1 *ᶠ (m *ᶠ ratio (pos 1) 4 +ᶠ ((v -ᶠ whole l *ᶠ ratio (pos 1) 4) -ᶠ (u -ᶠ whole q *ᶠ ratio (pos 1) 4))) +ᶠ m *ᶠ jump)) e c in
        let small : zeroᶠ ≤ᶠ oneᶠ -ᶠ ratio (pos 4) 1 *ᶠ jump = constants (search quote depth 20) tt in
        near_weaken (rw pk (at_most (u ∷ v ∷ x ∷ m ∷ [])
        ((oneᶠ -ᶠ ratio (pos 4) 1 *ᶠ jump) *ᶠ (v -ᶠ u) +ᶠ ratio (pos 4) 1 *ᶠ jump *ᶠ ((eighth -ᶠ (u -ᶠ x *ᶠ ratio (pos 1) 4)) +ᶠ ((v -ᶠ (x +ᶠ m) *ᶠ ratio (pos 1) 4) -ᶠ neg eighth)))
        (search not_negative depth 10) (search quote depth 30) tt)) d
      where
        unmoved : (q l : ℤ) (n : ℕ) → q +ℤ pos n ≡ l → n ≡ 0 → q ≡ l
        unmoved q l n e z = let e' = rw z at e in omega (arith, ints)

        same : (q l : ℤ) (u v : Fraction) → q ≡ l → u ≤ᶠ v → u -ᶠ whole q *ᶠ ratio (pos 1) 4 ≤ᶠ v -ᶠ whole l *ᶠ ratio (pos 1) 4
        same q l u v g h = subst (λ t. u -ᶠ whole q *ᶠ ratio (pos 1) 4 ≤ᶠ v -ᶠ whole t *ᶠ ratio (pos 1) 4) g (let w : Fraction = whole q in at_most (u ∷ v ∷ w ∷ []) (v -ᶠ u) (search not_negative) (search quote depth 20) tt)

-- how far two sines differ, for turns in order
pub sine_moves : (N M : Level) (u v s c t d : Fraction) → u ≤ᶠ v → IsSineCosine N u s c → IsSineCosine M v t d → IsNear s t (ratio (pos 10) 1 *ᶠ (v -ᶠ u) +ᶠ gap45)
sine_moves N M u v s c t d h p q =
    let k : jump +ᶠ tiny +ᶠ tiny ≤ᶠ gap45 = constants (search quote depth 20) tt in
    near_weaken (at_most (u ∷ v ∷ []) (gap45 -ᶠ (jump +ᶠ tiny +ᶠ tiny)) (search not_negative) (search quote depth 30) tt)
    (near_trans (sine_wave N u s c p) (near_trans (wave_moves u v h) (near_sym (sine_wave M v t d q))))

-- and for any turns
pub sine_moves_any : (N M : Level) (u v s c t d : Fraction) → IsSineCosine N u s c → IsSineCosine M v t d → IsNear s t (ratio (pos 10) 1 *ᶠ abs (u -ᶠ v) +ᶠ gap45)
sine_moves_any N M u v s c t d p q = by_order u v
    (λ h. near_weaken (up u v h) (sine_moves N M u v s c t d h p q))
    (λ h. near_weaken (down u v h) (near_sym (sine_moves M N v u t d s c h q p)))
  where
    up : (u v : Fraction) → u ≤ᶠ v → ratio (pos 10) 1 *ᶠ (v -ᶠ u) +ᶠ gap45 ≤ᶠ ratio (pos 10) 1 *ᶠ abs (u -ᶠ v) +ᶠ gap45
    up u v h = by_sign (λ z. ratio (pos 10) 1 *ᶠ (v -ᶠ u) +ᶠ gap45 ≤ᶠ ratio (pos 10) 1 *ᶠ z +ᶠ gap45) (u -ᶠ v)
        (λ k. at_most (u ∷ v ∷ []) (ratio (pos 10) 1 *ᶠ ((u -ᶠ v) +ᶠ (u -ᶠ v))) (search not_negative) (search quote depth 20) tt)
        (λ k. at_most (u ∷ v ∷ []) zeroᶠ (≤ᶠ_refl zeroᶠ) (search quote depth 20) tt)

    down : (u v : Fraction) → v ≤ᶠ u → ratio (pos 10) 1 *ᶠ (u -ᶠ v) +ᶠ gap45 ≤ᶠ ratio (pos 10) 1 *ᶠ abs (u -ᶠ v) +ᶠ gap45
    down u v h = by_sign (λ z. ratio (pos 10) 1 *ᶠ (u -ᶠ v) +ᶠ gap45 ≤ᶠ ratio (pos 10) 1 *ᶠ z +ᶠ gap45) (u -ᶠ v)
        (λ k. at_most (u ∷ v ∷ []) zeroᶠ (≤ᶠ_refl zeroᶠ) (search quote depth 20) tt)
        (λ k. at_most (u ∷ v ∷ []) (ratio (pos 20) 1 *ᶠ (zeroᶠ -ᶠ (u -ᶠ v))) (search not_negative) (search quote depth 20) tt)
