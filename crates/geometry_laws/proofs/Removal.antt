-- S_ii is D_i / D: the residual of a row, times the determinant, is the determinant without that row.
use Rattle.std.specs.Prelude.{◌≡◌, ℕ, zero, suc, ◌<◌, List, [], ◌∷◌, map, length, slice_index_or, refl}
use Rattle.std.proofs.Common.{arith, ap, sym, ◌∙◌}
use Rattle.fractions.specs.Fraction.{Fraction, ◌+ᶠ◌, ◌-ᶠ◌, ◌*ᶠ◌}
use Rattle.fractions.proofs.Quote.{quote, identity}
use Rattle.raim_model.specs.Geometry.{Axis, East, North, Up, Clock, Row, Matrix, normal_matrix, determinant, unit, over_axes, with_column, IsInverse, residual_share}
use Rattle.raim_model.specs.PointVerdict.{without_one}
use Rattle.geometry_laws.specs.Without.{without}
use Rattle.geometry_laws.proofs.Cramer.{over_same, cramer}

det_without : (h : Matrix) (g : Row) → determinant (λ j k. h j k -ᶠ g j *ᶠ g k) ≡ determinant h -ᶠ over_axes (λ j. g j *ᶠ over_axes (λ k. determinant (with_column h j (unit k)) *ᶠ g k))
unfolding determinant
det_without h g = identity (h East East ∷ h East North ∷ h East Up ∷ h East Clock ∷ h North East ∷ h North North ∷ h North Up ∷ h North Clock ∷ h Up East ∷ h Up North ∷ h Up Up ∷ h Up Clock ∷ h Clock East ∷ h Clock North ∷ h Clock Up ∷ h Clock Clock ∷ g East ∷ g North ∷ g Up ∷ g Clock ∷ []) (search quote depth 90 fits 100000) tt

spread : (d : Fraction) (X : Matrix) (g : Row) → d *ᶠ residual_share X g ≡ d -ᶠ over_axes (λ j. g j *ᶠ over_axes (λ k. (d *ᶠ X j k) *ᶠ g k))
spread d X g = identity (X East East ∷ X East North ∷ X East Up ∷ X East Clock ∷ X North East ∷ X North North ∷ X North Up ∷ X North Clock ∷ X Up East ∷ X Up North ∷ X Up Up ∷ X Up Clock ∷ X Clock East ∷ X Clock North ∷ X Clock Up ∷ X Clock Clock ∷ g East ∷ g North ∷ g Up ∷ g Clock ∷ d ∷ []) (search quote depth 60 fits 30000) tt

residual_is : (h X : Matrix) (g : Row) → IsInverse h X → determinant h *ᶠ residual_share X g ≡ determinant (λ j k. h j k -ᶠ g j *ᶠ g k)
residual_is h X g v =
    let a : Axis → Row = λ j k. (determinant h *ᶠ X j k) *ᶠ g k in
    let b : Axis → Row = λ j k. determinant (with_column h j (unit k)) *ᶠ g k in
    let e : over_axes (λ j. g j *ᶠ over_axes (a j)) ≡ over_axes (λ j. g j *ᶠ over_axes (b j)) =
    over_same (λ j. g j *ᶠ over_axes (a j)) (λ j. g j *ᶠ over_axes (b j))
    (λ j. ap (λ t. g j *ᶠ t) (over_same (a j) (b j) (λ k. ap (λ t. t *ᶠ g k) (cramer h X v j k)))) in
    spread (determinant h) X g ∙ ap (λ t. determinant h -ᶠ t) e ∙ sym (det_without h g)

det_same : (h f : Matrix) → ((j k : Axis) → h j k ≡ f j k) → determinant h ≡ determinant f
unfolding determinant
det_same h f e = rw (e East East, e East North, e East Up, e East Clock, e North East, e North North, e North Up, e North Clock, e Up East, e Up North, e Up Up, e Up Clock, e Clock East, e Clock North, e Clock Up, e Clock Clock) refl

indexed : (g : Row) (xs : List (List Row)) (k : ℕ) → k < length xs → slice_index_or (map (λ hs. g ∷ hs) xs) k [] ≡ g ∷ slice_index_or xs k []
indexed g [] k p = absurd (omega (arith, p))
indexed g (x ∷ xs) zero p = refl
indexed g (x ∷ xs) (suc k) p = indexed g xs k (omega (arith, p))

length-map : (g : Row) (xs : List (List Row)) → length (map (λ hs. g ∷ hs) xs) ≡ length xs
length-map g [] = refl
length-map g (x ∷ xs) = let e = length-map g xs in omega arith

length-without_one : (rows : List Row) → length (without_one rows) ≡ length rows
length-without_one [] = refl
length-without_one (g ∷ gs) =
    let e = length-without_one gs in
    let f = length-map g (without_one gs) in
    omega arith

normal_without : (rows : List Row) (i : ℕ) (d : Row) → i < length rows → (j k : Axis)
    → normal_matrix (slice_index_or (without_one rows) i []) j k ≡ normal_matrix rows j k -ᶠ slice_index_or rows i d j *ᶠ slice_index_or rows i d k
unfolding normal_matrix
normal_without [] i d p j k = absurd (omega (arith, p))
normal_without (g ∷ gs) zero d p j k = identity (g j ∷ g k ∷ normal_matrix gs j k ∷ []) (search quote depth 20) tt
normal_without (g ∷ gs) (suc i) d p j k =
    let q : i < length gs = omega (arith, p) in
    let l : i < length (without_one gs) = rw (length-without_one gs) q in
    let y : Fraction = slice_index_or gs i d j *ᶠ slice_index_or gs i d k in
    let f : normal_matrix (g ∷ slice_index_or (without_one gs) i []) j k ≡ g j *ᶠ g k +ᶠ (normal_matrix gs j k -ᶠ y) = ap (λ t. g j *ᶠ g k +ᶠ t) (normal_without gs i d q j k) in
    let z : g j *ᶠ g k +ᶠ (normal_matrix gs j k -ᶠ y) ≡ (g j *ᶠ g k +ᶠ normal_matrix gs j k) -ᶠ y = identity (g j ∷ g k ∷ normal_matrix gs j k ∷ y ∷ []) (search quote depth 20) tt in
    ap (λ (t : List Row). normal_matrix t j k) (indexed g (without_one gs) i l) ∙ f ∙ z

-- the list without one row, of the lists without one row
pub without-is : (rows : List Row) (i : ℕ) → i < length rows → slice_index_or (without_one rows) i [] ≡ without i rows
unfolding without
without-is [] i p = absurd (omega (arith, p))
without-is (g ∷ gs) zero p = refl
without-is (g ∷ gs) (suc i) p =
    let q : i < length gs = omega (arith, p) in
    indexed g (without_one gs) i (rw (length-without_one gs) q) ∙ ap (λ (t : List Row). g ∷ t) (without-is gs i q)

-- D S_ii is the determinant without the row
pub removal : (rows : List Row) (X : Matrix) (i : ℕ) (d : Row) → IsInverse (normal_matrix rows) X → i < length rows
    → determinant (normal_matrix rows) *ᶠ residual_share X (slice_index_or rows i d) ≡ determinant (normal_matrix (without i rows))
removal rows X i d v p =
    let g : Row = slice_index_or rows i d in
    residual_is (normal_matrix rows) X g v ∙ sym (det_same (normal_matrix (slice_index_or (without_one rows) i [])) (λ j k. normal_matrix rows j k -ᶠ g j *ᶠ g k) (normal_without rows i d p))
    ∙ ap (λ (t : List Row). determinant (normal_matrix t)) (without-is rows i p)
