-- S_ii is D_i / D: the residual of a row, times the determinant, is the determinant without that row.
use Rattle.std.specs.Prelude.{◌≡◌, [], ◌∷◌, refl}
use Rattle.std.proofs.Common.{ap, sym, ◌∙◌}
use Rattle.fractions.specs.Fraction.{Fraction, ◌-ᶠ◌, ◌*ᶠ◌}
use Rattle.fractions.proofs.Quote.{quote, identity}
use Rattle.raim_model.specs.Geometry.{Axis, East, North, Up, Clock, Row, Matrix, determinant, unit, over_axes, with_column, IsInverse, residual_share}
use Rattle.geometry_laws.proofs.Cramer.{over_same, cramer}

det_without : (h : Matrix) (g : Row) → determinant (λ j k. h j k -ᶠ g j *ᶠ g k) ≡ determinant h -ᶠ over_axes (λ j. g j *ᶠ over_axes (λ k. determinant (with_column h j (unit k)) *ᶠ g k))
unfolding determinant
det_without h g = identity (h East East ∷ h East North ∷ h East Up ∷ h East Clock ∷ h North East ∷ h North North ∷ h North Up ∷ h North Clock ∷ h Up East ∷ h Up North ∷ h Up Up ∷ h Up Clock ∷ h Clock East ∷ h Clock North ∷ h Clock Up ∷ h Clock Clock ∷ g East ∷ g North ∷ g Up ∷ g Clock ∷ []) (search quote depth 90 fits 100000) tt

spread : (d : Fraction) (X : Matrix) (g : Row) → d *ᶠ residual_share X g ≡ d -ᶠ over_axes (λ j. g j *ᶠ over_axes (λ k. (d *ᶠ X j k) *ᶠ g k))
spread d X g = identity (X East East ∷ X East North ∷ X East Up ∷ X East Clock ∷ X North East ∷ X North North ∷ X North Up ∷ X North Clock ∷ X Up East ∷ X Up North ∷ X Up Up ∷ X Up Clock ∷ X Clock East ∷ X Clock North ∷ X Clock Up ∷ X Clock Clock ∷ g East ∷ g North ∷ g Up ∷ g Clock ∷ d ∷ []) (search quote depth 60 fits 30000) tt

pub residual_is : (h X : Matrix) (g : Row) → IsInverse h X → determinant h *ᶠ residual_share X g ≡ determinant (λ j k. h j k -ᶠ g j *ᶠ g k)
residual_is h X g v =
    let a : Axis → Row = λ j k. (determinant h *ᶠ X j k) *ᶠ g k in
    let b : Axis → Row = λ j k. determinant (with_column h j (unit k)) *ᶠ g k in
    let e : over_axes (λ j. g j *ᶠ over_axes (a j)) ≡ over_axes (λ j. g j *ᶠ over_axes (b j)) =
    over_same (λ j. g j *ᶠ over_axes (a j)) (λ j. g j *ᶠ over_axes (b j))
    (λ j. ap (λ t. g j *ᶠ t) (over_same (a j) (b j) (λ k. ap (λ t. t *ᶠ g k) (cramer h X v j k)))) in
    spread (determinant h) X g ∙ ap (λ t. determinant h -ᶠ t) e ∙ sym (det_without h g)

pub det_same : (h f : Matrix) → ((j k : Axis) → h j k ≡ f j k) → determinant h ≡ determinant f
unfolding determinant
det_same h f e = rw (e East East, e East North, e East Up, e East Clock, e North East, e North North, e North Up, e North Clock, e Up East, e Up North, e Up Up, e Up Clock, e Clock East, e Clock North, e Clock Up, e Clock Clock) refl
