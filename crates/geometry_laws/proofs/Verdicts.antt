-- The test of one list of rows in words: what makes it singular, too steep or passing, for any inverse.
use Rattle.std.specs.Prelude.{◌≡◌, ◌≢◌, ℕ, zero, suc, ◌<◌, true, false, ◌||◌, List, [], ◌∷◌, length, slice_index_or, Contains, All, Some, None, refl}
use Rattle.std.proofs.Common.{arith, sym, ◌∙◌, subst}
use Rattle.fractions.specs.Fraction.{Fraction, zeroᶠ, ◌*ᶠ◌, ◌≤ᶠ◌, ◌<ᶠ◌, is_at_most}
use Rattle.fractions.proofs.StrictOrder.{<ᶠ_not}
use Rattle.fractions.proofs.Quote.{quote}
use Rattle.fractions.proofs.Certificates.{constants_below}
use Rattle.raim_model.specs.declared.verdict.Why.TheVariants.{Singular, Slope}
use Rattle.raim_model.specs.Constants.{least_determinant}
use Rattle.raim_model.specs.Geometry.{Axis, East, North, Up, Clock, Row, Matrix, normal_matrix, determinant, apply, IsInverse, inverse_of, SquaredShift, residual_share}
use Rattle.raim_model.specs.PointVerdict.{is_below, is_steep, is_some_steep, fault_of}
use Rattle.geometry_laws.proofs.Bools.{true_of, not-true, or_right, or_false}
use Rattle.geometry_laws.specs.Shifts.{IsSquare}
use Rattle.geometry_laws.proofs.Cramer.{inverse_of-only}
use Rattle.geometry_laws.proofs.Shifts.{shift_same}

below_is : {x y : Fraction} → x <ᶠ y → is_below x y ≡ true
below_is {x} {y} h = true_of (is_below x y) h.lt

below_is_not : {x y : Fraction} → y ≤ᶠ x → is_below x y ≡ false
below_is_not {x} {y} h = not-true (true_of (is_at_most y x) h.le)

-- the least determinant that counts as regular is above 0
pub least_positive : zeroᶠ <ᶠ least_determinant
least_positive = constants_below (search quote depth 20) tt

-- a determinant that counts as regular is not 0
pub regular : {d : Fraction} → least_determinant ≤ᶠ d → d ≢ zeroᶠ
regular {d} h e = <ᶠ_not least_positive (subst (λ t. least_determinant ≤ᶠ t) e h)

-- A_i of any inverse
apply_same : (h X : Matrix) → determinant h ≢ zeroᶠ → IsInverse h X → (g : Row) (j : Axis) → apply X g j ≡ apply (inverse_of h) g j
apply_same h X n v g j = rw (inverse_of-only h X n v j East, inverse_of-only h X n v j North, inverse_of-only h X n v j Up, inverse_of-only h X n v j Clock) refl

inverse_shift : (shift : SquaredShift) → IsSquare shift → (h X : Matrix) → determinant h ≢ zeroᶠ → IsInverse h X → (g : Row) → shift X g ≡ shift (inverse_of h) g
inverse_shift shift s h X n v g = shift_same shift s (inverse_of h) X g (λ j. sym (apply_same h X n v g j))

pub residual_same : (h X : Matrix) → determinant h ≢ zeroᶠ → IsInverse h X → (g : Row) → residual_share X g ≡ residual_share (inverse_of h) g
residual_same h X n v g = rw (apply_same h X n v g East, apply_same h X n v g North, apply_same h X n v g Up, apply_same h X n v g Clock) refl

steep_same : (shift : SquaredShift) → IsSquare shift → (kappa : Fraction) (h X : Matrix) → determinant h ≢ zeroᶠ → IsInverse h X → (g : Row) → is_steep shift kappa X g ≡ is_steep shift kappa (inverse_of h) g
unfolding is_steep
steep_same shift s kappa h X n v g = rw (inverse_shift shift s h X n v g, residual_same h X n v g) refl

some_steep : (shift : SquaredShift) (kappa : Fraction) (X : Matrix) (rows : List Row) (g : Row) (k : ℕ) → k < length rows → slice_index_or rows k g ≡ g → is_steep shift kappa X g ≡ true → is_some_steep shift kappa X rows ≡ true
some_steep shift kappa X [] g k p e s = absurd (omega (arith, p))
some_steep shift kappa X (f ∷ fs) g zero p e s = subst (λ t. (is_steep shift kappa X t || is_some_steep shift kappa X fs) ≡ true) (sym e) (rw s refl)
some_steep shift kappa X (f ∷ fs) g (suc k) p e s = or_right (is_steep shift kappa X f) (is_some_steep shift kappa X fs) (some_steep shift kappa X fs g k (omega (arith, p)) e s)

none_steep : (shift : SquaredShift) (kappa : Fraction) (X : Matrix) (rows : List Row) → All (λ g. is_steep shift kappa X g ≡ false) rows → is_some_steep shift kappa X rows ≡ false
none_steep shift kappa X [] h = refl
none_steep shift kappa X (f ∷ fs) h = or_false (is_steep shift kappa X f) (is_some_steep shift kappa X fs) (h 0 f (omega arith)) (none_steep shift kappa X fs (λ k d p. h (suc k) d (omega (arith, p))))

pub singular : (shift : SquaredShift) (kappa : Fraction) (rows : List Row) → determinant (normal_matrix rows) <ᶠ least_determinant → fault_of shift kappa rows ≡ Some Singular
unfolding fault_of
singular shift kappa rows h = rw (below_is h) refl

pub steep : (shift : SquaredShift) → IsSquare shift → (kappa : Fraction) (rows : List Row) (X : Matrix) (g : Row) → least_determinant ≤ᶠ determinant (normal_matrix rows) → IsInverse (normal_matrix rows) X → Contains rows g → residual_share X g <ᶠ kappa *ᶠ shift X g → fault_of shift kappa rows ≡ Some Slope
unfolding fault_of is_steep
steep shift s kappa rows X g r v m h =
    let q : is_steep shift kappa (inverse_of (normal_matrix rows)) g ≡ true = sym (steep_same shift s kappa (normal_matrix rows) X (regular r) v g) ∙ below_is h in
    let t : is_some_steep shift kappa (inverse_of (normal_matrix rows)) rows ≡ true = some_steep shift kappa (inverse_of (normal_matrix rows)) rows g m.0 m.1 m.2 q in
    rw (below_is_not r, t) refl

pub level : (shift : SquaredShift) → IsSquare shift → (kappa : Fraction) (rows : List Row) (X : Matrix) → least_determinant ≤ᶠ determinant (normal_matrix rows) → IsInverse (normal_matrix rows) X → All (λ g. kappa *ᶠ shift X g ≤ᶠ residual_share X g) rows → fault_of shift kappa rows ≡ None
unfolding fault_of is_steep
level shift s kappa rows X r v h =
    let t : is_some_steep shift kappa (inverse_of (normal_matrix rows)) rows ≡ false =
    none_steep shift kappa (inverse_of (normal_matrix rows)) rows (λ k d p. sym (steep_same shift s kappa (normal_matrix rows) X (regular r) v (slice_index_or rows k d)) ∙ below_is_not (h k d p)) in
    rw (below_is_not r, t) refl
