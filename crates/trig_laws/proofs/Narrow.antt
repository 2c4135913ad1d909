-- How wide the sine and the cosine of turns are.
use Rattle.std.specs.Prelude.{◌≡◌, ℕ, zero, suc, ℤ, pos, ◌^◌, refl, ◌+ℤ◌, ◌-ℤ◌, ◌*ℤ◌, neg_ℤ, ◌≤ℤ◌, ◌<ℤ◌, Bool, true, false, cond, unsigned_abs, [], ◌∷◌}
use Rattle.std.proofs.Common.{arith, ap, sym, ◌∙◌, subst}
use Rattle.std.proofs.lemmas.Int.{ints, clamps}
use Rattle.std.proofs.lemmas.Nat.{pow_pos}
use lib.Dec.{lit≤}
use lib.Signed.{le_z}
use Rattle.whole_numbers.proofs.Divisions.{floor_parts_high}
use Rattle.fractions.specs.Fraction.{Fraction, ratio, whole, zeroᶠ, oneᶠ, ◌+ᶠ◌, ◌-ᶠ◌, ◌*ᶠ◌, neg, ◌≤ᶠ◌, IsNear}
use Rattle.fractions.proofs.Certificates.{at_most, not_negative, constants}
use Rattle.fractions.proofs.Floors.{floor_low, at_most-floor}
use Rattle.fractions.proofs.Laws.{≤ᶠ_refl, ≤ᶠ_trans, ≤ᶠ_antisym, by_order}
use Rattle.fractions.proofs.Near.{near_weaken}
use Rattle.fractions.proofs.Quote.{quote, identity}
use Rattle.fractions.proofs.Ratios.{ratio-mul, ratio-add, ratio_mono, ratio_at_most_out}
use Rattle.raim_model.specs.Sine.{quarter_of, turns_left}
use Rattle.fix_interval.specs.Bounds.{clamp_of, hull_of}
use Rattle.fix_interval.specs.Ends.{Ends}
use Rattle.fix_interval.specs.Sums.{sub_of}
use Rattle.fix_interval.specs.Pairs.{PairEnds, full_pair, pair_hull, hull_from}
use Rattle.fix_interval.proofs.EndProducts.{pick_min, pick_max}
use Rattle.fix_interval.proofs.EndPairs.{last_of_range}
use Rattle.series_laws.proofs.Slow.{wave, wave_of, chain, follows, Follows, quarter_order, jump, eighth, near_sym, zero_one, one_two, two_three, three_zero}
use Rattle.series_laws.proofs.Turns.{IsEighth, turns_small}
use Rattle.trig_laws.specs.Quarter.{left_of}
use Rattle.trig_laws.specs.SinCos.{pair_at, nearest_quarter_of, sin_cos_of}
use Rattle.trig_laws.proofs.Close.{unit, IsClose, close_weaken, close_near, minus}
use Rattle.trig_laws.proofs.Isotones.{left_eighth}
use Rattle.trig_laws.proofs.Left.{quarter_lies}
use Rattle.trig_laws.proofs.Points.{PairClose, cowave, cowave_of, pair_close, part_error}
use Rattle.trig_laws.proofs.Quarters.{quarter_mono}

-- ---- the cosine is the sine a quarter on
cowave_next_of : (k l : ℤ) (r : Fraction) → Follows k l → wave_of l r ≡ cowave_of k r
cowave_next_of k l r zero_one = refl
cowave_next_of k l r one_two = refl
cowave_next_of k l r two_three = refl
cowave_next_of k l r three_zero = refl

cowave_next : (q : ℤ) (r : Fraction) → wave (q +ℤ pos 1) r ≡ cowave q r
cowave_next q r = cowave_next_of _ _ r (follows q)

-- ---- the wave s quarters on
moves_by : (s : ℤ) (u v : Fraction) → u ≤ᶠ v → IsNear (wave (quarter_of u +ℤ s) (turns_left u)) (wave (quarter_of v +ℤ s) (turns_left v)) (ratio (pos 10) 1 *ᶠ (v -ᶠ u) +ᶠ jump)
moves_by s u v h = goes (quarter_of u) (quarter_of v) (unsigned_abs (quarter_of v -ℤ quarter_of u)) (quarters (quarter_of u) (quarter_of v) (quarter_order u v h)) (turns_small u) (turns_small v)
  where
    quarters : (q l : ℤ) → q ≤ℤ l → q +ℤ pos (unsigned_abs (l -ℤ q)) ≡ l
    quarters q l h = omega (arith, ints)

    later : (q l : ℤ) (n : ℕ) → q +ℤ pos n ≡ l → (q +ℤ s) +ℤ pos n ≡ l +ℤ s
    later q l n e = omega (arith, ints)

    goes : (q l : ℤ) (n : ℕ) → q +ℤ pos n ≡ l → IsEighth (u -ᶠ whole q *ᶠ ratio (pos 1) 4) → IsEighth (v -ᶠ whole l *ᶠ ratio (pos 1) 4)
        → IsNear (wave (q +ℤ s) (u -ᶠ whole q *ᶠ ratio (pos 1) 4)) (wave (l +ℤ s) (v -ᶠ whole l *ᶠ ratio (pos 1) 4)) (ratio (pos 10) 1 *ᶠ (v -ᶠ u) +ᶠ jump)
    goes q l n e p k =
        let f : whole l ≡ whole q +ᶠ ratio (pos n) 1 = sym (ratio-add q (pos n) 1 ∙ ap (λ t. ratio t 1) e) in
        let x : Fraction = whole q in
        let m : Fraction = ratio (pos n) 1 in
        let pk : (v -ᶠ whole l *ᶠ ratio (pos 1) 4) ≡ v -ᶠ (x +ᶠ m) *ᶠ ratio (pos 1) 4 = ap (λ t. v -ᶠ t *ᶠ ratio (pos 1) 4) f in
        let kl : neg eighth ≤ᶠ v -ᶠ (x +ᶠ m) *ᶠ ratio (pos 1) 4 = subst (λ t. neg eighth ≤ᶠ t) pk k.low in
        let ph : u -ᶠ x *ᶠ ratio (pos 1) 4 ≤ᶠ eighth = p.high in
        let still : n ≡ 0 → u -ᶠ whole q *ᶠ ratio (pos 1) 4 ≤ᶠ v -ᶠ whole l *ᶠ ratio (pos 1) 4 = λ z. same q l u v (unmoved q l n e z) h in
        let c = chain (q +ℤ s) n _ _ p k still in
        let d = subst (λ t. IsNear (wave (q +ℤ s) (u -ᶠ whole q *ᶠ ratio (pos 1) 4)) (wave t (v -ᶠ whole l *ᶠ ratio (pos 1) 4)) (ratio (pos 9) 1 *ᶠ (m *ᶠ ratio (pos 1) 4 +ᶠ ((v -ᶠ whole l *ᶠ ratio (pos 1) 4) -ᶠ (u -ᶠ whole q *ᶠ ratio (pos 1) 4))) +ᶠ m *ᶠ jump)) (later q l n e) c in
        let small : zeroᶠ ≤ᶠ oneᶠ -ᶠ ratio (pos 4) 1 *ᶠ jump = constants (search quote depth 20) tt in
        near_weaken (rw pk (at_most (u ∷ v ∷ x ∷ m ∷ [])
        ((oneᶠ -ᶠ ratio (pos 4) 1 *ᶠ jump) *ᶠ (v -ᶠ u) +ᶠ ratio (pos 4) 1 *ᶠ jump *ᶠ ((eighth -ᶠ (u -ᶠ x *ᶠ ratio (pos 1) 4)) +ᶠ ((v -ᶠ (x +ᶠ m) *ᶠ ratio (pos 1) 4) -ᶠ neg eighth)))
        (search not_negative depth 10) (search quote depth 30) tt)) d
      where
        unmoved : (q l : ℤ) (n : ℕ) → q +ℤ pos n ≡ l → n ≡ 0 → q ≡ l
        unmoved q l n e z = let e' = rw z at e in omega (arith, ints)

        same : (q l : ℤ) (u v : Fraction) → q ≡ l → u ≤ᶠ v → u -ᶠ whole q *ᶠ ratio (pos 1) 4 ≤ᶠ v -ᶠ whole l *ᶠ ratio (pos 1) 4
        same q l u v g h = subst (λ t. u -ᶠ whole q *ᶠ ratio (pos 1) 4 ≤ᶠ v -ᶠ whole t *ᶠ ratio (pos 1) 4) g (let w : Fraction = whole q in at_most (u ∷ v ∷ w ∷ []) (v -ᶠ u) (search not_negative) (search quote depth 20) tt)

-- at most d apart, either way
moves_both : (s : ℤ) (u v d : Fraction) → IsNear u v d → IsNear (wave (quarter_of u +ℤ s) (turns_left u)) (wave (quarter_of v +ℤ s) (turns_left v)) (ratio (pos 10) 1 *ᶠ d +ᶠ jump)
moves_both s u v d n =
    let nl : u ≤ᶠ v +ᶠ d = n.low in
    let nh : v ≤ᶠ u +ᶠ d = n.high in
    by_order u v
    (λ h. near_weaken (at_most (u ∷ v ∷ d ∷ []) (ratio (pos 10) 1 *ᶠ ((u +ᶠ d) -ᶠ v)) (search not_negative) (search quote depth 20) tt) (moves_by s u v h))
    (λ h. near_weaken (at_most (u ∷ v ∷ d ∷ []) (ratio (pos 10) 1 *ᶠ ((v +ᶠ d) -ᶠ u)) (search not_negative) (search quote depth 20) tt) (near_sym (moves_by s v u h)))

-- ---- the quarter of a number of turns that is given by its quarter
below_one : ratio (pos 4) 1 *ᶠ (eighth -ᶠ ratio (pos 1) (2 ^ 39)) +ᶠ ratio (pos 1) 2 ≤ᶠ ratio (pos 137438953471) (2 ^ 37)
below_one = constants (search quote depth 20) tt

quarter_is : (q : ℤ) (r : Fraction) → neg eighth ≤ᶠ r → r ≤ᶠ eighth -ᶠ ratio (pos 1) (2 ^ 39) → quarter_of (whole q *ᶠ ratio (pos 1) 4 +ᶠ r) ≡ q
quarter_is q r h k =
    let w : Fraction = whole q in
    let x : Fraction = w *ᶠ ratio (pos 1) 4 +ᶠ r in
    let low : w ≤ᶠ ratio (pos 4) 1 *ᶠ x +ᶠ ratio (pos 1) 2 = at_most (w ∷ r ∷ []) (ratio (pos 4) 1 *ᶠ (r -ᶠ neg eighth)) (search not_negative) (search quote depth 30) tt in
    let high : ratio (pos 4) 1 *ᶠ x +ᶠ ratio (pos 1) 2 ≤ᶠ w +ᶠ ratio (pos 137438953471) (2 ^ 37) = at_most (w ∷ r ∷ []) (ratio (pos 4) 1 *ᶠ ((eighth -ᶠ ratio (pos 1) (2 ^ 39)) -ᶠ r) +ᶠ (ratio (pos 137438953471) (2 ^ 37) -ᶠ (ratio (pos 4) 1 *ᶠ (eighth -ᶠ ratio (pos 1) (2 ^ 39)) +ᶠ ratio (pos 1) 2))) (let b = below_one in search not_negative) (search quote depth 40) tt in
    let f : whole (quarter_of x) ≤ᶠ whole q +ᶠ ratio (pos 137438953471) (2 ^ 37) = ≤ᶠ_trans (floor_low _) high in
    both ((at_most-floor q _).1 low) (least (quarter_of x) q f)
  where
    both : {y z : ℤ} → z ≤ℤ y → y ≤ℤ z → y ≡ z
    both h k = omega (arith, ints)

    least : (p q : ℤ) → whole p ≤ᶠ whole q +ᶠ ratio (pos 137438953471) (2 ^ 37) → p ≤ℤ q
    least p q f =
        let d : ℤ = p -ℤ q in
        let e : d +ℤ q ≡ p = omega (arith, ints) in
        let a : ratio d 1 +ᶠ ratio q 1 ≡ ratio p 1 = ratio-add d q 1 ∙ ap (λ t. ratio t 1) e in
        let x : Fraction = ratio d 1 in
        let y : Fraction = ratio q 1 in
        let g : x +ᶠ y ≤ᶠ y +ᶠ ratio (pos 137438953471) (2 ^ 37) = rw a f in
        let h : x ≤ᶠ ratio (pos 137438953471) (2 ^ 37) = at_most (x ∷ y ∷ []) ((y +ᶠ ratio (pos 137438953471) (2 ^ 37)) -ᶠ (x +ᶠ y)) (search not_negative) (search quote depth 20) tt in
        let k = ratio_at_most_out d (pos 137438953471) 1 (2 ^ 37) (lit≤ tt) (pow_pos 37) h in
        omega (arith, ints, k)

-- ---- one quarter, from the middle of a
strict : (z q : ℤ) → nearest_quarter_of z ≤ℤ q → (z -ℤ q *ℤ pos (2 ^ 36)) <ℤ pos (2 ^ 35)
strict z q h = omega (arith, ints, floor_parts_high (z +ℤ pos (2 ^ 35)) (2 ^ 36) (pow_pos 36))

abbrev pub middle_of : Ends → Fraction
middle_of a = ratio (pos 1) 2 *ᶠ (ratio a.lo (2 ^ 38) +ᶠ ratio a.hi (2 ^ 38))

abbrev pub half_of : Ends → Fraction
half_of a = ratio (pos 1) 2 *ᶠ (ratio a.hi (2 ^ 38) -ᶠ ratio a.lo (2 ^ 38))

quarter_units : (q : ℤ) → whole q *ᶠ ratio (pos 1) 4 ≡ ratio (q *ℤ pos (2 ^ 36)) (2 ^ 38)
quarter_units q = ≤ᶠ_antisym (quarter_lies q).high (quarter_lies q).low

-- what is left at q, put back, is inside a; and it ends before the next quarter
left_back : (a : Ends) (q : ℤ) → nearest_quarter_of a.lo ≤ℤ q → (a.lo ≤ℤ ((left_of a q).lo +ℤ q *ℤ pos (2 ^ 36))) × (((left_of a q).hi +ℤ q *ℤ pos (2 ^ 36)) ≤ℤ a.hi) × (((left_of a q).lo +ℤ (left_of a q).hi) ≤ℤ pos 68719476735)
unfolding left_of clamp_of sub_of
left_back a q h = let s = strict a.lo q h in (omega (arith, ints, clamps), omega (arith, ints, clamps), omega (arith, ints, clamps))

half_units : ratio (pos 68719476735) (2 ^ 38) ≤ᶠ ratio (pos 2) 1 *ᶠ (eighth -ᶠ ratio (pos 1) (2 ^ 39))
half_units = constants (search quote depth 20) tt

eighth_units : neg eighth ≤ᶠ ratio (neg_ℤ (pos (2 ^ 35))) (2 ^ 38)
eighth_units = constants (search quote depth 20) tt

-- the errors of all quarters, from the sine and the cosine at the middle of a
abbrev pub whole_error : Ends → Fraction
whole_error a = ratio (pos 10) 1 *ᶠ half_of a +ᶠ ratio (pos 6) 1 *ᶠ unit

quarter_close : (a : Ends) (q : ℤ) → a.lo ≤ℤ a.hi → nearest_quarter_of a.lo ≤ℤ q → q ≤ℤ nearest_quarter_of a.hi
    → PairClose (pair_at a q) (wave (quarter_of (middle_of a) +ℤ pos 0) (turns_left (middle_of a))) (wave (quarter_of (middle_of a) +ℤ pos 1) (turns_left (middle_of a))) (whole_error a)
quarter_close a q o h k =
    let b : Ends = left_of a q in
    let i = left_eighth a q o h k in
    let bk = left_back a q h in
    let x : Fraction = ratio a.lo (2 ^ 38) in
    let y : Fraction = ratio a.hi (2 ^ 38) in
    let l : Fraction = ratio b.lo (2 ^ 38) in
    let m : Fraction = ratio b.hi (2 ^ 38) in
    let w : Fraction = whole q *ᶠ ratio (pos 1) 4 in
    let r : Fraction = middle_of b in
    let lm : l ≤ᶠ m = ratio_mono (2 ^ 38) i.ordered in
    let ll : neg eighth ≤ᶠ l = ≤ᶠ_trans eighth_units (ratio_mono (2 ^ 38) i.low) in
    let e : w ≡ ratio (q *ℤ pos (2 ^ 36)) (2 ^ 38) = quarter_units q in
    let xl : x ≤ᶠ l +ᶠ w = rw (e, ratio-add b.lo (q *ℤ pos (2 ^ 36)) (2 ^ 38)) (ratio_mono (2 ^ 38) bk.0) in
    let my : m +ᶠ w ≤ᶠ y = rw (e, ratio-add b.hi (q *ℤ pos (2 ^ 36)) (2 ^ 38)) (ratio_mono (2 ^ 38) bk.1) in
    let hu : ratio (pos 68719476735) (2 ^ 38) ≤ᶠ ratio (pos 2) 1 *ᶠ (eighth -ᶠ ratio (pos 1) (2 ^ 39)) = half_units in
    let sum : l +ᶠ m ≤ᶠ ratio (pos 68719476735) (2 ^ 38) = rw (ratio-add b.lo b.hi (2 ^ 38)) (ratio_mono (2 ^ 38) bk.2) in
    let rl : neg eighth ≤ᶠ r = at_most (l ∷ m ∷ []) (ratio (pos 1) 2 *ᶠ ((m -ᶠ l) +ᶠ ratio (pos 2) 1 *ᶠ (l -ᶠ neg eighth))) (search not_negative depth 10) (search quote depth 30) tt in
    let rh : r ≤ᶠ eighth -ᶠ ratio (pos 1) (2 ^ 39) = at_most (l ∷ m ∷ []) (ratio (pos 1) 2 *ᶠ ((ratio (pos 68719476735) (2 ^ 38) -ᶠ (l +ᶠ m)) +ᶠ (ratio (pos 2) 1 *ᶠ (eighth -ᶠ ratio (pos 1) (2 ^ 39)) -ᶠ ratio (pos 68719476735) (2 ^ 38)))) (search not_negative depth 10) (search quote depth 40) tt in
    let small : eighth -ᶠ ratio (pos 1) (2 ^ 39) ≤ᶠ eighth = constants (search quote depth 20) tt in
    let d : Fraction = half_of b in
    let dn : zeroᶠ ≤ᶠ d = search not_negative in
    let c : IsClose b r d = record {
      low = at_most (l ∷ m ∷ []) zeroᶠ (≤ᶠ_refl zeroᶠ) (search quote depth 30) tt;
      high = at_most (l ∷ m ∷ []) zeroᶠ (≤ᶠ_refl zeroᶠ) (search quote depth 30) tt;
    } in
    let p = pair_close a q r d dn i record { low = rl; high = ≤ᶠ_trans rh small } c in
    let t : Fraction = w +ᶠ r in
    let z : Fraction = middle_of a in
    let apart : IsNear t z (half_of a -ᶠ d) = record {
      low = at_most (x ∷ y ∷ l ∷ m ∷ w ∷ []) (y -ᶠ (m +ᶠ w)) (search not_negative) (search quote depth 40) tt;
      high = at_most (x ∷ y ∷ l ∷ m ∷ w ∷ []) ((l +ᶠ w) -ᶠ x) (search not_negative) (search quote depth 40) tt;
    } in
    let g : quarter_of t ≡ q = quarter_is q r rl rh in
    let js : jump ≤ᶠ unit = constants (search quote depth 20) tt in
    let small_enough : part_error d +ᶠ (ratio (pos 10) 1 *ᶠ (half_of a -ᶠ d) +ᶠ jump) ≤ᶠ whole_error a = at_most (x ∷ y ∷ l ∷ m ∷ []) (ratio (pos 2) 1 *ᶠ (ratio (pos 1) 2 *ᶠ (m -ᶠ l)) +ᶠ (unit -ᶠ jump)) (search not_negative depth 10) (search quote depth 40 fits 30000) tt in
    let s0 : IsNear (wave (q +ℤ pos 0) r) (wave (quarter_of z +ℤ pos 0) (turns_left z)) (ratio (pos 10) 1 *ᶠ (half_of a -ᶠ d) +ᶠ jump) = rw (g, back w r) at (moves_both (pos 0) t z (half_of a -ᶠ d) apart) in
    let s1 : IsNear (wave (q +ℤ pos 1) r) (wave (quarter_of z +ℤ pos 1) (turns_left z)) (ratio (pos 10) 1 *ᶠ (half_of a -ᶠ d) +ᶠ jump) = rw (g, back w r) at (moves_both (pos 1) t z (half_of a -ᶠ d) apart) in
    let zero_more : q +ℤ pos 0 ≡ q = omega (arith, ints) in
    record {
      sine = close_weaken small_enough (close_near (subst (λ j. IsNear (wave j r) (wave (quarter_of z +ℤ pos 0) (turns_left z)) (ratio (pos 10) 1 *ᶠ (half_of a -ᶠ d) +ᶠ jump)) zero_more s0) p.sine);
      cosine = close_weaken small_enough (close_near (subst (λ j. IsNear j (wave (quarter_of z +ℤ pos 1) (turns_left z)) (ratio (pos 10) 1 *ᶠ (half_of a -ᶠ d) +ᶠ jump)) (cowave_next q r) s1) p.cosine);
    }
  where
    back : (w r : Fraction) → (w +ᶠ r) -ᶠ w ≡ r
    back w r = identity (w ∷ r ∷ []) (search quote depth 20) tt

-- ---- the hull
hull_close : (a b : Ends) (x e : Fraction) → IsClose a x e → IsClose b x e → IsClose (hull_of a b) x e
unfolding hull_of
hull_close a b x e p q = record { low = pick_min (λ m. x -ᶠ e ≤ᶠ ratio m (2 ^ 38)) a.lo b.lo p.low q.low; high = pick_max (λ m. ratio m (2 ^ 38) ≤ᶠ x +ᶠ e) a.hi b.hi p.high q.high }

pair_hull_close : (p q : PairEnds) (s c e : Fraction) → PairClose p s c e → PairClose q s c e → PairClose (pair_hull p q) s c e
unfolding pair_hull
pair_hull_close p q s c e h k = record { sine = hull_close _ _ s e h.sine k.sine; cosine = hull_close _ _ c e h.cosine k.cosine }

hulls_close : (g : ℤ → PairEnds) (s c e : Fraction) (f : ℤ) (n : ℕ) → ((q : ℤ) → f ≤ℤ q → q ≤ℤ (f +ℤ pos n) → PairClose (g q) s c e) → PairClose (hull_from g f n) s c e
unfolding hull_from
hulls_close g s c e f zero h = h f (omega (arith, ints)) (omega (arith, ints))
hulls_close g s c e f (suc n) h = pair_hull_close _ _ s c e (hulls_close g s c e f n (λ q i j. h q i (omega (arith, ints)))) (h (f +ℤ pos (suc n)) (omega (arith, ints)) (omega (arith, ints)))

-- ---- the width
close_width : (a r : Ends) (x : Fraction) → IsClose r x (whole_error a) → (r.hi -ℤ r.lo) ≤ℤ (pos 10 *ℤ (a.hi -ℤ a.lo) +ℤ pos 12)
close_width a r x c =
    let cl : x -ᶠ whole_error a ≤ᶠ ratio r.lo (2 ^ 38) = c.low in
    let ch : ratio r.hi (2 ^ 38) ≤ᶠ x +ᶠ whole_error a = c.high in
    let l : Fraction = ratio a.lo (2 ^ 38) in
    let h : Fraction = ratio a.hi (2 ^ 38) in
    let m : Fraction = ratio r.lo (2 ^ 38) in
    let n : Fraction = ratio r.hi (2 ^ 38) in
    let d : n -ᶠ m ≤ᶠ (h -ᶠ l) *ᶠ ratio (pos 10) 1 +ᶠ ratio (pos 12) (2 ^ 38) = at_most (x ∷ l ∷ h ∷ m ∷ n ∷ []) (((x +ᶠ whole_error a) -ᶠ n) +ᶠ (m -ᶠ (x -ᶠ whole_error a))) (search not_negative) (search quote depth 40 fits 30000) tt in
    let en : n -ᶠ m ≡ ratio (r.hi -ℤ r.lo) (2 ^ 38) = sym (minus r.hi r.lo) in
    let eh : (h -ᶠ l) *ᶠ ratio (pos 10) 1 ≡ ratio ((a.hi -ℤ a.lo) *ℤ pos 10) (2 ^ 38) = ap (λ t. t *ᶠ ratio (pos 10) 1) (sym (minus a.hi a.lo)) ∙ ratio-mul (a.hi -ℤ a.lo) (pos 10) (2 ^ 38) 1 (pow_pos 38) (lit≤ tt) in
    let f : ratio (r.hi -ℤ r.lo) (2 ^ 38) ≤ᶠ ratio ((a.hi -ℤ a.lo) *ℤ pos 10) (2 ^ 38) +ᶠ ratio (pos 12) (2 ^ 38) = rw (en, eh) at d in
    let g = ratio_at_most_out _ _ (2 ^ 38) (2 ^ 38) (pow_pos 38) (pow_pos 38) (rw (ratio-add ((a.hi -ℤ a.lo) *ℤ pos 10) (pos 12) (2 ^ 38)) at f) in
    omega (arith, ints, g)

-- each part is at most 16 w + 256 wide
pub sin_cos_narrow : {a : Ends} {r : PairEnds} → r ≡ sin_cos_of a → a.lo ≤ℤ a.hi → ((r.sine.hi -ℤ r.sine.lo) ≤ℤ (pos 16 *ℤ (a.hi -ℤ a.lo) +ℤ pos 256)) × ((r.cosine.hi -ℤ r.cosine.lo) ≤ℤ (pos 16 *ℤ (a.hi -ℤ a.lo) +ℤ pos 256))
unfolding sin_cos_of
sin_cos_narrow {a} {r} e o = rw e (by_width (le_z (pos (2 ^ 38)) (a.hi -ℤ a.lo)) refl)
  where
    few : PairClose (hull_from (pair_at a) (nearest_quarter_of a.lo) (unsigned_abs (nearest_quarter_of a.hi -ℤ nearest_quarter_of a.lo))) (wave (quarter_of (middle_of a) +ℤ pos 0) (turns_left (middle_of a))) (wave (quarter_of (middle_of a) +ℤ pos 1) (turns_left (middle_of a))) (whole_error a)
    few =
        let la : nearest_quarter_of a.lo +ℤ pos (unsigned_abs (nearest_quarter_of a.hi -ℤ nearest_quarter_of a.lo)) ≡ nearest_quarter_of a.hi = last_of_range _ _ (quarter_mono a.lo a.hi o) in
        hulls_close (pair_at a) _ _ _ (nearest_quarter_of a.lo) _ (λ q i j. quarter_close a q o i (rw la at j))

    more : {w : ℤ} → w ≤ℤ (pos 10 *ℤ (a.hi -ℤ a.lo) +ℤ pos 12) → w ≤ℤ (pos 16 *ℤ (a.hi -ℤ a.lo) +ℤ pos 256)
    more h = omega (arith, ints)

    by_width : (t : Bool) → le_z (pos (2 ^ 38)) (a.hi -ℤ a.lo) ≡ t → let p : PairEnds = cond t full_pair (hull_from (pair_at a) (nearest_quarter_of a.lo) (unsigned_abs (nearest_quarter_of a.hi -ℤ nearest_quarter_of a.lo))) in ((p.sine.hi -ℤ p.sine.lo) ≤ℤ (pos 16 *ℤ (a.hi -ℤ a.lo) +ℤ pos 256)) × ((p.cosine.hi -ℤ p.cosine.lo) ≤ℤ (pos 16 *ℤ (a.hi -ℤ a.lo) +ℤ pos 256))
    by_width true e = (omega (arith, ints), omega (arith, ints))
    by_width false e = (more (close_width a _ _ few.sine), more (close_width a _ _ few.cosine))
