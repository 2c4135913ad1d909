-- From the inequality that intervals certify, which has no division, to the verdict.
use Rattle.std.specs.Prelude.{◌≡◌, ℕ, zero, suc, ◌<◌, List, [], ◌∷◌, length, slice_index_or, Some, None, refl}
use Rattle.std.proofs.Common.{arith, ap, sym, ◌∙◌}
use Rattle.fractions.specs.Fraction.{Fraction, zeroᶠ, ◌*ᶠ◌, ◌≤ᶠ◌, ◌<ᶠ◌}
use Rattle.fractions.proofs.Laws.{*ᶠ_mono_left, not_negative_square}
use Rattle.fractions.proofs.StrictOrder.{<ᶠ_from_not, <ᶠ_not, <ᶠ_≤ᶠ_trans, positive_product, *ᶠ_cancel}
use Rattle.fractions.proofs.Quote.{quote, identity}
use Rattle.raim_model.specs.declared.verdict.Why.TheVariants.{Slope}
use Rattle.raim_model.specs.Constants.{least_determinant}
use Rattle.raim_model.specs.Geometry.{Axis, East, North, Up, Clock, Row, Matrix, normal_matrix, determinant, apply, over_axes, IsInverse, inverse_of, SquaredShift, residual_share}
use Rattle.raim_model.specs.PointVerdict.{fault_of}
use Rattle.geometry_laws.specs.Minors.{adjugate}
use Rattle.geometry_laws.specs.Without.{without}
use Rattle.geometry_laws.specs.Shifts.{IsSquare}
use Rattle.geometry_laws.proofs.Cramer.{over_same, inverse_of_is, cramer}
use Rattle.geometry_laws.proofs.Removal.{removal}
use Rattle.geometry_laws.proofs.Verdicts.{least_positive, regular, steep, level}

-- D X is the adjugate
pub times_inverse : (h X : Matrix) → IsInverse h X → (j k : Axis) → determinant h *ᶠ X j k ≡ adjugate h j k
unfolding adjugate
times_inverse h X v j k = cramer h X v j k

-- a factor goes into a sum of products
into_sum : (d : Fraction) (x g : Row) → d *ᶠ over_axes (λ k. x k *ᶠ g k) ≡ over_axes (λ k. (d *ᶠ x k) *ᶠ g k)
into_sum d x g = identity (d ∷ x East ∷ x North ∷ x Up ∷ x Clock ∷ g East ∷ g North ∷ g Up ∷ g Clock ∷ []) (search quote depth 30) tt

-- D A_i is what the row has of the adjugate
pub times_apply : (h X : Matrix) → IsInverse h X → (g : Row) (j : Axis) → determinant h *ᶠ apply X g j ≡ apply (adjugate h) g j
times_apply h X v g j = into_sum (determinant h) (X j) g ∙ over_same (λ k. (determinant h *ᶠ X j k) *ᶠ g k) (λ k. adjugate h j k *ᶠ g k) (λ k. ap (λ t. t *ᶠ g k) (times_inverse h X v j k))

-- and so D^2 times the squared shift
pub times_shift : (shift : SquaredShift) → IsSquare shift → (h X : Matrix) → IsInverse h X → (g : Row) → shift (adjugate h) g ≡ (determinant h *ᶠ determinant h) *ᶠ shift X g
times_shift shift s h X v g = s.scales (determinant h) X (adjugate h) g (times_apply h X v g)

left_side : (D A k : Fraction) → (k *ᶠ A) *ᶠ (D *ᶠ D) ≡ k *ᶠ ((D *ᶠ D) *ᶠ A)
left_side D A k = identity (D ∷ A ∷ k ∷ []) (search quote depth 20) tt

right_side : (D S : Fraction) → S *ᶠ (D *ᶠ D) ≡ D *ᶠ (D *ᶠ S)
right_side D S = identity (D ∷ S ∷ []) (search quote depth 20) tt

-- D^2 drops out
divided : (D S A k : Fraction) → D *ᶠ (D *ᶠ S) <ᶠ k *ᶠ ((D *ᶠ D) *ᶠ A) → S <ᶠ k *ᶠ A
divided D S A k h = <ᶠ_from_not S (k *ᶠ A) (λ p.
    let q : (k *ᶠ A) *ᶠ (D *ᶠ D) ≤ᶠ S *ᶠ (D *ᶠ D) = *ᶠ_mono_left (not_negative_square D) p in
    <ᶠ_not h (rw (left_side D A k, right_side D S) at q))

-- also from a comparison that is not strict
divided_too : (D S A k : Fraction) → zeroᶠ <ᶠ D → k *ᶠ ((D *ᶠ D) *ᶠ A) ≤ᶠ D *ᶠ (D *ᶠ S) → k *ᶠ A ≤ᶠ S
divided_too D S A k n h =
    let q : (k *ᶠ A) *ᶠ (D *ᶠ D) ≤ᶠ S *ᶠ (D *ᶠ D) = rw (left_side D A k, right_side D S) h in
    *ᶠ_cancel (positive_product D D n n) q

-- the products that are compared, in terms of the inverse
right_is : (rows : List Row) (X : Matrix) (i : ℕ) (d : Row) → IsInverse (normal_matrix rows) X → i < length rows
    → determinant (normal_matrix rows) *ᶠ determinant (normal_matrix (without i rows)) ≡ determinant (normal_matrix rows) *ᶠ (determinant (normal_matrix rows) *ᶠ residual_share X (slice_index_or rows i d))
right_is rows X i d v p = ap (λ t. determinant (normal_matrix rows) *ᶠ t) (sym (removal rows X i d v p))

-- an entry does not depend on what stands for one past the end
any_default : (rows : List Row) (i : ℕ) (d e : Row) → i < length rows → slice_index_or rows i d ≡ slice_index_or rows i e
any_default [] i d e p = absurd (omega (arith, p))
any_default (g ∷ gs) zero d e p = refl
any_default (g ∷ gs) (suc i) d e p = any_default gs i d e (omega (arith, p))

-- a row whose comparison is strict is too steep
pub certainly_steep : (shift : SquaredShift) → IsSquare shift → (kappa : Fraction) (rows : List Row) (i : ℕ) (d : Row) → least_determinant ≤ᶠ determinant (normal_matrix rows) → i < length rows
    → determinant (normal_matrix rows) *ᶠ determinant (normal_matrix (without i rows)) <ᶠ kappa *ᶠ shift (adjugate (normal_matrix rows)) (slice_index_or rows i d) → fault_of shift kappa rows ≡ Some Slope
certainly_steep shift s kappa rows i d r p h =
    let g : Row = slice_index_or rows i d in
    let X : Matrix = inverse_of (normal_matrix rows) in
    let v : IsInverse (normal_matrix rows) X = inverse_of_is (normal_matrix rows) (regular r) in
    let k = rw (right_is rows X i d v p, times_shift shift s (normal_matrix rows) X v g) at h in
    steep shift s kappa rows X g r v (i, p, any_default rows i g d p) (divided (determinant (normal_matrix rows)) (residual_share X g) (shift X g) kappa k)

-- where no row is, the list passes
pub certainly_passes : (shift : SquaredShift) → IsSquare shift → (kappa : Fraction) (rows : List Row) → least_determinant ≤ᶠ determinant (normal_matrix rows)
    → ((i : ℕ) (d : Row) → i < length rows → kappa *ᶠ shift (adjugate (normal_matrix rows)) (slice_index_or rows i d) ≤ᶠ determinant (normal_matrix rows) *ᶠ determinant (normal_matrix (without i rows))) → fault_of shift kappa rows ≡ None
certainly_passes shift s kappa rows r h =
    let X : Matrix = inverse_of (normal_matrix rows) in
    let v : IsInverse (normal_matrix rows) X = inverse_of_is (normal_matrix rows) (regular r) in
    level shift s kappa rows X r v (λ i d p.
    let g : Row = slice_index_or rows i d in
    let k = rw (right_is rows X i d v p, times_shift shift s (normal_matrix rows) X v g) at (h i d p) in
    divided_too (determinant (normal_matrix rows)) (residual_share X g) (shift X g) kappa (<ᶠ_≤ᶠ_trans least_positive r) k)
