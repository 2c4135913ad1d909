-- On narrow intervals a look is undecided only near equality.
use Rattle.std.specs.Prelude.{◌≡◌, ℕ, ℤ, pos, neg_ℤ, ◌+◌, ◌-◌, ◌^◌, ◌+ℤ◌, ◌-ℤ◌, ◌*ℤ◌, ◌≤ℤ◌, ◌<ℤ◌, ◌⊎◌, refl, Bool, true, false, cond, ◌&&◌, ◌||◌, [], ◌∷◌}
use Rattle.std.proofs.Common.{arith, ap₂, sym, ◌∙◌, subst, inl, inr, ⊎_elim}
use Rattle.std.proofs.lemmas.Int.{ints, clamps}
use Rattle.std.specs.Int.{int_min, int_max}
use lib.Dec.{lit≤}
use lib.Signed.{le_z, lt_z}
use Rattle.whole_numbers.specs.Root.{root_of}
use Rattle.whole_numbers.proofs.Certificates.{at_most, below, not_negative}
use Rattle.whole_numbers.proofs.Integers.{<ℤ_trichotomy, not_negative_natural, positive_sub, positive_product}
use Rattle.whole_numbers.proofs.Quote.{quote, identity}
use Rattle.whole_numbers.proofs.Roots.{root_of_low, root_of_high}
use Rattle.fix_interval.specs.Ends.{Ends, IsNarrow}
use Rattle.fix_interval.specs.Products.{sqr_wide_of}
use Rattle.fix_interval.specs.Roots.{sqrt_of}
use Rattle.fix_interval.specs.Sums.{add_of}
use Rattle.fix_interval.specs.Lies.{Lies}
use Rattle.fix_interval.specs.Products.{mul_of}
use Rattle.fix_interval.specs.Sums.{sub_of}
use Rattle.fix_interval.specs.Ranges.{one_ends}
use Rattle.fix_interval.proofs.EndInsides.{inside_trans}
use Rattle.fix_interval.proofs.EndScales.{one_lies}
use Rattle.fix_interval.specs.Vectors.{VectorEnds, VectorInside, VectorNarrow}
use Rattle.fractions.specs.Fraction.{Fraction, ratio, oneᶠ, ◌+ᶠ◌, ◌*ᶠ◌, ◌≤ᶠ◌, IsNear}
use Rattle.fractions.proofs.Laws.{≤ᶠ_refl, ≤ᶠ_trans, +ᶠ_mono}
use Rattle.fractions.proofs.Ratios.{ratio_mono, ratio-add, ratio-same}
use Rattle.raim_model.specs.Level.{Level}
use Rattle.raim_model.specs.Look.{line_of_sight}
use Rattle.raim_model.specs.Receiver.{site}
use Rattle.raim_model.specs.Vector.{dot}
use Rattle.site_laws.specs.Places.{PlaceEnds, IsNearEarth, PlaceNarrow}
use Rattle.site_laws.specs.Frames.{frame_of}
use Rattle.site_laws.specs.Sights.{widest_line, full_vector, IsInReach, IsSineEnds, line_of, dot_of, range_of, is_hidden, is_seen, sight_of, line_sight_of, look_of, LookChoice, straddle}
use Rattle.site_laws.proofs.FrameBounds.{frame_bounds}
use Rattle.site_laws.proofs.FrameNarrow.{frame_narrow}
use Rattle.site_laws.proofs.Insides.{inside_self}
use Rattle.site_laws.proofs.LookBounds.{line_bounds, range_bounds, squares_isotone}
use Rattle.site_laws.proofs.LookEncloses.{squares_not_negative, choice_lies, when_straddle, lies_ordered}
use Rattle.site_laws.proofs.Widths.{IsSpan, add_narrow, mul_wide_narrow, mul_narrow, narrow76_narrow}

-- ---- squares
-- the squares from lo to hi of an interval at most w wide: the square of the least magnitude m, and how far they reach from there
record IsSquare (w lo hi m : ℤ) : Type 0 where
  not_negative : pos 0 ≤ℤ m
  least : lo ≡ m *ℤ m
  greatest : hi ≤ℤ ((m +ℤ w) *ℤ (m +ℤ w))

-- the square of what is at most b either way
square_below : (x b : ℤ) → x ≤ℤ b → neg_ℤ b ≤ℤ x → (x *ℤ x) ≤ℤ (b *ℤ b)
square_below x b h l = at_most (x ∷ b ∷ []) ((b -ℤ x) *ℤ (x -ℤ neg_ℤ b)) (search not_negative) (search quote depth 20) tt

both_below : (y z m : ℤ) → y ≤ℤ m → z ≤ℤ m → int_max y z ≤ℤ m
both_below y z m h k = omega (arith, ints, clamps)

smaller_left : (y z : ℤ) → y ≤ℤ z → int_min y z ≡ y
smaller_left y z h = omega (arith, ints, clamps)

smaller_right : (y z : ℤ) → z ≤ℤ y → int_min y z ≡ z
smaller_right y z h = omega (arith, ints, clamps)

squares_of_interval : (w : ℤ) (a : Ends) → a.lo ≤ℤ a.hi → (a.hi -ℤ a.lo) ≤ℤ w → (m : ℤ) × IsSquare w (sqr_wide_of a).lo (sqr_wide_of a).hi m
unfolding sqr_wide_of
squares_of_interval w a o n = by_sign (le_z a.lo (pos 0)) (le_z (pos 0) a.hi) refl refl
  where
    zero_square : pos 0 ≡ pos 0 *ℤ pos 0
    zero_square = refl

    neg_square : (x : ℤ) → x *ℤ x ≡ neg_ℤ x *ℤ neg_ℤ x
    neg_square x = identity (x ∷ []) (search quote depth 20) tt

    by_sign : (t u : Bool) → le_z a.lo (pos 0) ≡ t → le_z (pos 0) a.hi ≡ u → (m : ℤ) × IsSquare w (cond (t && u) (pos 0) (int_min (a.lo *ℤ a.lo) (a.hi *ℤ a.hi))) (int_max (a.lo *ℤ a.lo) (a.hi *ℤ a.hi)) m
    by_sign true true d e = (
      pos 0,
      record {
        not_negative = record { le = tt };
        least = zero_square;
        greatest = both_below _ _ _ (square_below a.lo (pos 0 +ℤ w) (omega (arith, ints)) (omega (arith, ints))) (square_below a.hi (pos 0 +ℤ w) (omega (arith, ints)) (omega (arith, ints)));
      },
    )
    by_sign true false d e = (
      neg_ℤ a.hi,
      record {
        not_negative = omega (arith, ints);
        least = smaller_right (a.lo *ℤ a.lo) (a.hi *ℤ a.hi) (subst (λ t. t ≤ℤ (a.lo *ℤ a.lo)) (sym (neg_square a.hi)) (subst (λ t. (neg_ℤ a.hi *ℤ neg_ℤ a.hi) ≤ℤ t) (sym (neg_square a.lo)) (square_below (neg_ℤ a.hi) (neg_ℤ a.lo) (omega (arith, ints)) (omega (arith, ints))))) ∙ neg_square a.hi;
        greatest = both_below _ _ _ (square_below a.lo (neg_ℤ a.hi +ℤ w) (omega (arith, ints)) (omega (arith, ints))) (square_below a.hi (neg_ℤ a.hi +ℤ w) (omega (arith, ints)) (omega (arith, ints)));
      },
    )
    by_sign false u d e = (
      a.lo,
      record {
        not_negative = omega (arith, ints);
        least = smaller_left (a.lo *ℤ a.lo) (a.hi *ℤ a.hi) (square_below a.lo a.hi o (omega (arith, ints)));
        greatest = both_below _ _ _ (square_below a.lo (a.lo +ℤ w) (omega (arith, ints)) (omega (arith, ints))) (square_below a.hi (a.lo +ℤ w) (omega (arith, ints)) (omega (arith, ints)));
      },
    )

-- ---- the range
-- of two numbers, the second not negative, the one with the smaller square is the smaller
root_mono_whole : (x y : ℤ) → pos 0 ≤ℤ y → (x *ℤ x) ≤ℤ (y *ℤ y) → x ≤ℤ y
root_mono_whole x y n h = elim (<ℤ_trichotomy x y) [ inl i ↦ omega (arith, ints) | inr i ↦ ⊎_elim (λ e. omega (arith, ints)) (λ l. absurd (clash (square_above l))) i ]
  where
    square_above : y <ℤ x → (y *ℤ y) <ℤ (x *ℤ x)
    square_above l = let s : pos 0 <ℤ (x +ℤ y) = omega (arith, ints) in below (x ∷ y ∷ []) ((x -ℤ y) *ℤ (x +ℤ y)) (positive_product _ _ (positive_sub _ _ l) s) (search quote depth 20) tt

    clash : (y *ℤ y) <ℤ (x *ℤ x) → ⊥
    clash l = omega (arith, ints)

-- the roots s of squares H and r + 1 above squares L, where these are of lines whose parts are at most w apart
roots_near : (w a b c L H R s : ℤ) → pos 0 ≤ℤ w → pos 0 ≤ℤ a → pos 0 ≤ℤ b → pos 0 ≤ℤ c → pos 0 ≤ℤ R → L ≡ (a *ℤ a +ℤ b *ℤ b) +ℤ c *ℤ c → L ≤ℤ (R *ℤ R)
    → H ≤ℤ (((a +ℤ w) *ℤ (a +ℤ w) +ℤ (b +ℤ w) *ℤ (b +ℤ w)) +ℤ (c +ℤ w) *ℤ (c +ℤ w)) → (s *ℤ s) ≤ℤ H → (pos 4 *ℤ s) ≤ℤ (pos 4 *ℤ R +ℤ pos 7 *ℤ w)
roots_near w a b c L H R s nw na nb nc nr e hl hh hs =
    let l : ((a *ℤ a +ℤ b *ℤ b) +ℤ c *ℤ c) ≤ℤ (R *ℤ R) = subst (λ t. t ≤ℤ (R *ℤ R)) e hl in
    let sum : (pos 4 *ℤ ((a +ℤ b) +ℤ c)) ≤ℤ (pos 7 *ℤ R) = root_mono_whole (pos 4 *ℤ ((a +ℤ b) +ℤ c)) (pos 7 *ℤ R) (omega (arith, ints)) (spread l) in
    root_mono_whole (pos 4 *ℤ s) (pos 4 *ℤ R +ℤ pos 7 *ℤ w) (omega (arith, ints)) (reach l sum)
  where
    spread : ((a *ℤ a +ℤ b *ℤ b) +ℤ c *ℤ c) ≤ℤ (R *ℤ R) → ((pos 4 *ℤ ((a +ℤ b) +ℤ c)) *ℤ (pos 4 *ℤ ((a +ℤ b) +ℤ c))) ≤ℤ ((pos 7 *ℤ R) *ℤ (pos 7 *ℤ R))
    spread l = at_most (a ∷ b ∷ c ∷ R ∷ [])
        (pos 48 *ℤ ((R *ℤ R) -ℤ ((a *ℤ a +ℤ b *ℤ b) +ℤ c *ℤ c)) +ℤ ((R *ℤ R) +ℤ pos 16 *ℤ ((((a -ℤ b) *ℤ (a -ℤ b)) +ℤ ((a -ℤ c) *ℤ (a -ℤ c))) +ℤ ((b -ℤ c) *ℤ (b -ℤ c)))))
        (search not_negative depth 10) (search quote depth 30) tt

    reach : ((a *ℤ a +ℤ b *ℤ b) +ℤ c *ℤ c) ≤ℤ (R *ℤ R) → (pos 4 *ℤ ((a +ℤ b) +ℤ c)) ≤ℤ (pos 7 *ℤ R) → ((pos 4 *ℤ s) *ℤ (pos 4 *ℤ s)) ≤ℤ ((pos 4 *ℤ R +ℤ pos 7 *ℤ w) *ℤ (pos 4 *ℤ R +ℤ pos 7 *ℤ w))
    reach l sum = at_most (a ∷ b ∷ c ∷ R ∷ w ∷ s ∷ H ∷ [])
        (((pos 16 *ℤ (H -ℤ (s *ℤ s))) +ℤ (pos 16 *ℤ ((((a +ℤ w) *ℤ (a +ℤ w) +ℤ (b +ℤ w) *ℤ (b +ℤ w)) +ℤ (c +ℤ w) *ℤ (c +ℤ w)) -ℤ H))) +ℤ ((pos 16 *ℤ ((R *ℤ R) -ℤ ((a *ℤ a +ℤ b *ℤ b) +ℤ c *ℤ c))) +ℤ ((pos 8 *ℤ (w *ℤ ((pos 7 *ℤ R) -ℤ (pos 4 *ℤ ((a +ℤ b) +ℤ c))))) +ℤ (w *ℤ w))))
        (search not_negative depth 10) (search quote depth 40) tt

-- the range of a line whose parts are at most 2^20 and 2^13 wide
range_narrow : (d : VectorEnds) → VectorInside d d → VectorNarrow d 1056768 → IsSpan (pos 1849348) (range_of d)
unfolding range_of sqrt_of add_of
range_narrow d o n =
    let x = squares_of_interval (pos 1056768) d.x o.x.ordered n.x.width in
    let y = squares_of_interval (pos 1056768) d.y o.y.ordered n.y.width in
    let z = squares_of_interval (pos 1056768) d.z o.z.ordered n.z.width in
    let p = squares_isotone o in
    let q = squares_not_negative d in
    record { width = goes x.0 y.0 z.0 _ _ _ _ _ _ x.1 y.1 z.1 q p.ordered }
  where
    numbers : (r s : ℕ) → (pos 4 *ℤ pos s) ≤ℤ (pos 4 *ℤ pos (r + 1) +ℤ pos 7 *ℤ pos 1056768) → (pos (s + 2) -ℤ pos (r - 1)) ≤ℤ pos 1849348
    numbers r s h = omega (arith, ints)

    up : {x y : ℤ} → x <ℤ y → x ≤ℤ y
    up h = omega (arith, ints)

    three : {x y z u v w : ℤ} → x ≤ℤ u → y ≤ℤ v → z ≤ℤ w → ((x +ℤ y) +ℤ z) ≤ℤ ((u +ℤ v) +ℤ w)
    three h k l = omega (arith, ints)

    from : {x y : ℤ} → pos 0 ≤ℤ x → x ≤ℤ y → pos 0 ≤ℤ y
    from h k = omega (arith, ints)

    goes : (a b c xl xh yl yh zl zh : ℤ) → IsSquare (pos 1056768) xl xh a → IsSquare (pos 1056768) yl yh b → IsSquare (pos 1056768) zl zh c → pos 0 ≤ℤ ((xl +ℤ yl) +ℤ zl) → ((xl +ℤ yl) +ℤ zl) ≤ℤ ((xh +ℤ yh) +ℤ zh)
        → (pos (root_of ((xh +ℤ yh) +ℤ zh) + 2) -ℤ pos (root_of ((xl +ℤ yl) +ℤ zl) - 1)) ≤ℤ pos 1849348
    goes a b c xl xh yl yh zl zh x y z q o =
        let L : ℤ = (xl +ℤ yl) +ℤ zl in
        let H : ℤ = (xh +ℤ yh) +ℤ zh in
        numbers (root_of L) (root_of H) (roots_near (pos 1056768) a b c L H (pos (root_of L + 1)) (pos (root_of H)) (record { le = tt }) x.not_negative y.not_negative z.not_negative (not_negative_natural _)
        (ap₂ ◌+ℤ◌ (ap₂ ◌+ℤ◌ x.least y.least) z.least) (up (root_of_high L)) (three x.greatest y.greatest z.greatest) (root_of_low H (from q o)))

-- ---- the parts
part_narrow : (v d : VectorEnds) → VectorInside v full_vector → VectorInside d widest_line → VectorNarrow v (2 ^ 10) → VectorNarrow d 1056768 → IsSpan (pos 3976570) (dot_of v d)
unfolding dot_of
part_narrow v d h k n m =
    narrow76_narrow (pos 3976569) (record { le = tt }) (add_narrow (add_narrow
    (mul_wide_narrow (pos (2 ^ 38)) (pos 72136097416023) (pos (2 ^ 10)) (pos 1056768) v.x d.x h.x k.x (record { width = n.x.width }) (record { width = m.x.width }))
    (mul_wide_narrow (pos (2 ^ 38)) (pos 72136097416023) (pos (2 ^ 10)) (pos 1056768) v.y d.y h.y k.y (record { width = n.y.width }) (record { width = m.y.width })))
    (mul_wide_narrow (pos (2 ^ 38)) (pos 72136097416023) (pos (2 ^ 10)) (pos 1056768) v.z d.z h.z k.z (record { width = n.z.width }) (record { width = m.z.width })))

least_narrow : (mask : Ends) (d : VectorEnds) → IsSineEnds mask → VectorInside d widest_line → (mask.hi -ℤ mask.lo) ≤ℤ pos (2 ^ 9) → VectorNarrow d 1056768 → IsSpan (pos 2082076) (mul_of mask (range_of d))
least_narrow mask d s k w m =
    let o : VectorInside d d = record { x = inside_self k.x.ordered; y = inside_self k.y.ordered; z = inside_self k.z.ordered } in
    mul_narrow (pos (2 ^ 38)) (pos 124943385784291) (pos (2 ^ 9)) (pos 1849348) (pos 2082075) mask (range_of d) (record { le = tt }) s (inside_trans (range_bounds k) (record { low = record { le = tt }; ordered = record { le = tt }; high = record { le = tt } })) (record { width = w }) (range_narrow d o m)

line_narrow : (p s : VectorEnds) → VectorNarrow p (2 ^ 13) → VectorNarrow s (2 ^ 20) → VectorNarrow (line_of p s) 1056768
unfolding line_of sub_of
line_narrow p s n m = record { x = record { width = omega (arith, ints, n.x.width, m.x.width) }; y = record { width = omega (arith, ints, n.y.width, m.y.width) }; z = record { width = omega (arith, ints, n.z.width, m.z.width) } }

-- ---- near equality
-- choices of two intervals that overlap and together are at most 2^23 units wide
overlap_near : (a b : Ends) (x y : Fraction) → a.hi ≤ℤ (b.lo +ℤ pos (2 ^ 23)) → b.hi ≤ℤ (a.lo +ℤ pos (2 ^ 23)) → Lies a 38 x → Lies b 38 y → IsNear x y (ratio (pos 1) (2 ^ 15))
overlap_near a b x y h k l m = record { low = reach a.hi b.lo x y h l.high m.low; high = reach b.hi a.lo y x k m.high l.low }
  where
    step : ratio (pos (2 ^ 23)) (2 ^ 38) ≡ ratio (pos 1) (2 ^ 15)
    step = ratio-same (pos (2 ^ 23)) (pos 1) (2 ^ 38) (2 ^ 15) (lit≤ tt) (lit≤ tt) refl

    reach : (s t : ℤ) (u v : Fraction) → s ≤ℤ (t +ℤ pos (2 ^ 23)) → u ≤ᶠ ratio s (2 ^ 38) → ratio t (2 ^ 38) ≤ᶠ v → u ≤ᶠ v +ᶠ ratio (pos 1) (2 ^ 15)
    reach s t u v h p q = ≤ᶠ_trans p (≤ᶠ_trans (ratio_mono (2 ^ 38) h) (rw (sym (ratio-add t (pos (2 ^ 23)) (2 ^ 38))) (rw step (+ᶠ_mono q (≤ᶠ_refl (ratio (pos 1) (2 ^ 15)))))))

-- the decision that a straddle leaves open
undecided : (R U m : Ends) → IsSpan (pos 1849348) R → IsSpan (pos 3976570) U → IsSpan (pos 2082076) m → R.lo ≤ℤ R.hi → is_hidden R U m ≡ false → is_seen R U m ≡ false
    → ((R.hi ≤ℤ (pos (2 ^ 38) +ℤ pos (2 ^ 23))) × (pos (2 ^ 38) ≤ℤ (R.lo +ℤ pos (2 ^ 23)))) ⊎ ((U.hi ≤ℤ (m.lo +ℤ pos (2 ^ 23))) × (m.hi ≤ℤ (U.lo +ℤ pos (2 ^ 23))))
undecided R U m r u n o h s = by_case (lt_z R.hi (pos (2 ^ 38))) (lt_z U.hi m.lo) (le_z (pos (2 ^ 38)) R.lo) (le_z m.hi U.lo) refl refl refl refl h s
  where
    by_case : (a b c d : Bool) → lt_z R.hi (pos (2 ^ 38)) ≡ a → lt_z U.hi m.lo ≡ b → le_z (pos (2 ^ 38)) R.lo ≡ c → le_z m.hi U.lo ≡ d → a || b ≡ false → c && d ≡ false
        → ((R.hi ≤ℤ (pos (2 ^ 38) +ℤ pos (2 ^ 23))) × (pos (2 ^ 38) ≤ℤ (R.lo +ℤ pos (2 ^ 23)))) ⊎ ((U.hi ≤ℤ (m.lo +ℤ pos (2 ^ 23))) × (m.hi ≤ℤ (U.lo +ℤ pos (2 ^ 23))))
    by_case true b c d i j k l e f = absurd (cc)
    by_case false true c d i j k l e f = absurd (cc)
    by_case false false false d i j k l e f = inl (omega (arith, ints, r.width), omega (arith, ints, r.width))
    by_case false false true false i j k l e f = inr (omega (arith, ints, u.width, n.width), omega (arith, ints, u.width, n.width))
    by_case false false true true i j k l e f = absurd (cc)

pub look_narrow : {box : PlaceEnds} {sat : VectorEnds} {mask : Ends} → IsNearEarth box → IsInReach sat → IsSineEnds mask → PlaceNarrow box 4 → VectorNarrow sat (2 ^ 20) → IsNarrow mask (2 ^ 9)
    → look_of (frame_of box) sat mask ≡ straddle → (N : Level) (c : LookChoice N box sat mask)
    → (IsNear c.range oneᶠ (ratio (pos 1) (2 ^ 15))) ⊎ (IsNear (dot (site c.receiver).up (line_of_sight (site c.receiver) c.satellite)) (c.sine *ᶠ c.range) (ratio (pos 1) (2 ^ 15)))
unfolding look_of line_sight_of sight_of
look_narrow {box} {sat} {mask} n s m b w v e N c =
    let d = line_of (frame_of box).position sat in
    let f = frame_narrow refl n b in
    let g = line_narrow _ _ f.0 w in
    let k = line_bounds n s in
    let o : VectorInside d d = record { x = inside_self k.x.ordered; y = inside_self k.y.ordered; z = inside_self k.z.ordered } in
    let h = when_straddle _ _ _ e in
    let l = choice_lies n c in
    let R = range_narrow d o g in
    let U = part_narrow (frame_of box).up d (frame_bounds box n).up k f.1 g in
    let M = least_narrow mask d m k v.width g in
    ⊎_elim
    (λ p. inl (overlap_near (range_of d) one_ends c.range oneᶠ p.0 p.1 l.range_in one_lies))
    (λ p. inr (overlap_near (dot_of (frame_of box).up d) (mul_of mask (range_of d)) _ _ p.0 p.1 l.up_in l.least_in))
    (undecided (range_of d) (dot_of (frame_of box).up d) (mul_of mask (range_of d)) R U M (lies_ordered l.range_in) h.0 h.1)
