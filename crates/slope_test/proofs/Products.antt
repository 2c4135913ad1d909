-- Products of small intervals.
use Rattle.std.specs.Prelude.{◌≡◌, ℕ, ℤ, pos, neg_ℤ, ◌*◌, ◌^◌, ◌≤ℤ◌, ◌*ℤ◌, Bool, true, false, cond, Some, FitsSigned, refl}
use Rattle.std.proofs.Common.{arith, ap, subst, sym, ◌∙◌}
use mir.Syntax.{w128}
use Rattle.std.proofs.lemmas.Int.{ints, clamps}
use Rattle.std.specs.Int.{int_min, int_max}
use lib.Signed.{le_z}
use Rattle.fix_interval.specs.declared.Iv.{Iv}
use Rattle.fix_interval.specs.declared.Iv64.{Iv64}
use Rattle.fix_interval.specs.Ends.{Ends, IsInside}
use Rattle.fix_interval.specs.Intervals.{ends, ends_64, IsWithin, IsWithin64}
use Rattle.fix_interval.specs.Products.{mul_wide_of, sqr_wide_of, checked_mul_of}
use Rattle.fix_interval.specs.Ranges.{around}
use Rattle.fix_interval.proofs.CheckedProducts.{fits-is_i128, checked-some}
use Rattle.slope_laws.specs.declared.Outcome.TheVariants.{Passes}
use Rattle.slope_laws.specs.ShiftSlopes.{compared}
use Rattle.geom_inverse.proofs.Corners.{product_up}
use Rattle.geom_laws.specs.Adjugate.{horizontal_of, vertical_of}
use Rattle.geom_laws.proofs.Bounds.{horizontal_within, vertical_within}
use Rattle.geom_inverse.proofs.Spans.{short_inside, iv_inside, product_within, square_within}

-- each of four numbers whose least and greatest are small fits 128 bits
all_fit : (p q r s : ℤ) → neg_ℤ (pos (2 ^ 124)) ≤ℤ int_min (int_min p q) (int_min r s) → int_max (int_max p q) (int_max r s) ≤ℤ pos (2 ^ 124)
    → FitsSigned w128 p × FitsSigned w128 q × FitsSigned w128 r × FitsSigned w128 s
all_fit p q r s l h = (omega (arith, ints, clamps), omega (arith, ints, clamps), omega (arith, ints, clamps), omega (arith, ints, clamps))

-- the product of two intervals within 2^62 has no end beyond 128 bits
quick_ends : (a b : Ends) → IsInside a (around (2 ^ 62)) → IsInside b (around (2 ^ 62)) → checked_mul_of a b ≡ Some (mul_wide_of a b)
unfolding mul_wide_of
quick_ends a b v w =
    let i : IsInside (mul_wide_of a b) (around (2 ^ 62 * 2 ^ 62)) = product_within (2 ^ 62) (2 ^ 62) v w in
    let f = all_fit (a.lo *ℤ b.lo) (a.lo *ℤ b.hi) (a.hi *ℤ b.lo) (a.hi *ℤ b.hi) i.low i.high in
    checked-some a b (fits-is_i128 _ f.0) (fits-is_i128 _ f.1) (fits-is_i128 _ f.2) (fits-is_i128 _ f.3)

pub quick_product : (a b : Iv) → IsWithin a (2 ^ 62) → IsWithin b (2 ^ 62) → checked_mul_of (ends a) (ends b) ≡ Some (mul_wide_of (ends a) (ends b))
quick_product a b v w = quick_ends (ends a) (ends b) (iv_inside v) (iv_inside w)

-- ---- a slope that passes by two ends
is_at_least_0 : (z : ℤ) → pos 0 ≤ℤ z → le_z (pos 0) z ≡ true
is_at_least_0 z h = by_test (le_z (pos 0) z) refl
  where
    by_test : (t : Bool) → le_z (pos 0) z ≡ t → t ≡ true
    by_test true e = refl
    by_test false e = absurd (omega (arith, ints))

in_order : (x y : ℤ) → x ≤ℤ y → le_z x y ≡ true
in_order x y h = by_test (le_z x y) refl
  where
    by_test : (t : Bool) → le_z x y ≡ t → t ≡ true
    by_test true e = refl
    by_test false e = absurd (omega (arith, ints))

-- the upper end, and the lower end, of a product of what is not negative
upper_end : (a b : Ends) → a.lo ≤ℤ a.hi → b.lo ≤ℤ b.hi → pos 0 ≤ℤ a.lo → pos 0 ≤ℤ b.lo → (mul_wide_of a b).hi ≡ a.hi *ℤ b.hi
upper_end a b o k m n = ap (λ (t : Ends). t.hi) (product_up a b o k n) ∙ ap (λ t. a.hi *ℤ cond t b.hi b.lo) (is_at_least_0 a.hi (omega (arith, ints)))

lower_end : (a b : Ends) → a.lo ≤ℤ a.hi → b.lo ≤ℤ b.hi → pos 0 ≤ℤ a.lo → pos 0 ≤ℤ b.lo → (mul_wide_of a b).lo ≡ a.lo *ℤ b.lo
lower_end a b o k m n = ap (λ (t : Ends). t.lo) (product_up a b o k n) ∙ ap (λ t. a.lo *ℤ cond t b.lo b.hi) (is_at_least_0 a.lo m)

decided : (left right : Ends) → left.hi ≤ℤ right.lo → compared (Some left) right ≡ Passes
decided left right h = rw (in_order left.hi right.lo h) refl

pub passes_by_two : (kappa squared all less : Ends) → kappa.lo ≤ℤ kappa.hi → squared.lo ≤ℤ squared.hi → all.lo ≤ℤ all.hi → less.lo ≤ℤ less.hi
    → pos 0 ≤ℤ kappa.lo → kappa.hi ≤ℤ pos (2 ^ 62) → pos 0 ≤ℤ squared.lo → squared.hi ≤ℤ pos (2 ^ 62) → pos 0 ≤ℤ all.lo → pos 0 ≤ℤ less.lo
    → (kappa.hi *ℤ squared.hi) ≤ℤ (all.lo *ℤ less.lo) → compared (checked_mul_of kappa squared) (mul_wide_of all less) ≡ Passes
passes_by_two kappa squared all less ko so ao lo kn kq sn sq an ln h =
    let c = quick_ends kappa squared record { low = omega (arith, ints); ordered = ko; high = kq } record { low = omega (arith, ints); ordered = so; high = sq } in
    ap (λ t. compared t (mul_wide_of all less)) c
    ∙ decided (mul_wide_of kappa squared) (mul_wide_of all less) (rw (upper_end kappa squared ko so kn sn, lower_end all less ao lo an ln) h)

-- the square of an alpha is within 49 2^110
pub square_small : (a : Iv64) (s : Iv) → IsWithin64 a (7 * 2 ^ 55) → ends s ≡ sqr_wide_of (ends_64 a) → IsWithin s (2 ^ 116)
square_small a s w e =
    let i : IsInside (ends s) (around ((7 * 2 ^ 55) * (7 * 2 ^ 55))) = subst (λ (t : Ends). IsInside t (around ((7 * 2 ^ 55) * (7 * 2 ^ 55)))) (sym e) (square_within (7 * 2 ^ 55) (short_inside w)) in
    let l = i.low in
    let h = i.high in
    record { low = omega (arith, ints); high = omega (arith, ints) }

-- an interval of the same ends is as small
pub as_small : (a : Iv) (s : Iv64) (m : ℕ) → ends_64 s ≡ ends a → IsWithin a m → IsWithin64 s m
as_small a s m e w =
    let i : IsInside (ends_64 s) (around m) = subst (λ (t : Ends). IsInside t (around m)) (sym e) (iv_inside w) in
    record { low = i.low; high = i.high }

-- the sum of two squares, and a square, are not negative
pub horizontal_not_negative : (a b : Iv64) (s : Iv) → IsWithin64 a (7 * 2 ^ 55) → IsWithin64 b (7 * 2 ^ 55) → ends s ≡ horizontal_of (ends_64 a) (ends_64 b) → pos 0 ≤ℤ s.lo
horizontal_not_negative a b s v w e = let i = horizontal_within (ends_64 a) (ends_64 b) (short_inside v) (short_inside w) in subst (λ (t : Ends). pos 0 ≤ℤ t.lo) (sym e) i.low

pub vertical_not_negative : (a : Iv64) (s : Iv) → IsWithin64 a (7 * 2 ^ 55) → ends s ≡ vertical_of (ends_64 a) → pos 0 ≤ℤ s.lo
vertical_not_negative a s v e = let i = vertical_within (ends_64 a) (short_inside v) in subst (λ (t : Ends). pos 0 ≤ℤ t.lo) (sym e) i.low
