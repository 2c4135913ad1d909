-- Cramer's rule: inverse_of gives the inverse, and the only one, where the determinant is not 0.
use Rattle.std.specs.Prelude.{◌≡◌, ◌≢◌, List, [], ◌∷◌, refl}
use Rattle.std.proofs.Common.{ap, sym, ◌∙◌}
use Rattle.fractions.specs.Fraction.{Fraction, zeroᶠ, ◌*ᶠ◌}
use Rattle.fractions.specs.Inverse.{inverse}
use Rattle.fractions.proofs.Laws.{one-*ᶠ}
use Rattle.fractions.proofs.Inverses.{*ᶠ_inverse}
use Rattle.fractions.proofs.Quote.{quote, identity}
use Rattle.raim_model.specs.Geometry.{Axis, East, North, Up, Clock, Row, Matrix, determinant, unit, over_axes, with_column, IsInverse, inverse_of}

abbrev pub entries : Matrix → List Fraction
entries h = h East East ∷ h East North ∷ h East Up ∷ h East Clock ∷ h North East ∷ h North North ∷ h North Up ∷ h North Clock ∷ h Up East ∷ h Up North ∷ h Up Up ∷ h Up Clock ∷ h Clock East ∷ h Clock North ∷ h Clock Up ∷ h Clock Clock ∷ []

-- the cofactors of the column k, summed with the entries of the row j
expand : (h : Matrix) (j k : Axis) → over_axes (λ i. h j i *ᶠ determinant (with_column h i (unit k))) ≡ determinant h *ᶠ unit j k
unfolding determinant
expand h East East = identity (entries h) (search quote depth 60 fits 30000) tt
expand h East North = identity (entries h) (search quote depth 60 fits 30000) tt
expand h East Up = identity (entries h) (search quote depth 60 fits 30000) tt
expand h East Clock = identity (entries h) (search quote depth 60 fits 30000) tt
expand h North East = identity (entries h) (search quote depth 60 fits 30000) tt
expand h North North = identity (entries h) (search quote depth 60 fits 30000) tt
expand h North Up = identity (entries h) (search quote depth 60 fits 30000) tt
expand h North Clock = identity (entries h) (search quote depth 60 fits 30000) tt
expand h Up East = identity (entries h) (search quote depth 60 fits 30000) tt
expand h Up North = identity (entries h) (search quote depth 60 fits 30000) tt
expand h Up Up = identity (entries h) (search quote depth 60 fits 30000) tt
expand h Up Clock = identity (entries h) (search quote depth 60 fits 30000) tt
expand h Clock East = identity (entries h) (search quote depth 60 fits 30000) tt
expand h Clock North = identity (entries h) (search quote depth 60 fits 30000) tt
expand h Clock Up = identity (entries h) (search quote depth 60 fits 30000) tt
expand h Clock Clock = identity (entries h) (search quote depth 60 fits 30000) tt

-- and the other way round
expand_left : (h : Matrix) (j k : Axis) → over_axes (λ i. determinant (with_column h j (unit i)) *ᶠ h i k) ≡ determinant h *ᶠ unit j k
unfolding determinant
expand_left h East East = identity (entries h) (search quote depth 60 fits 30000) tt
expand_left h East North = identity (entries h) (search quote depth 60 fits 30000) tt
expand_left h East Up = identity (entries h) (search quote depth 60 fits 30000) tt
expand_left h East Clock = identity (entries h) (search quote depth 60 fits 30000) tt
expand_left h North East = identity (entries h) (search quote depth 60 fits 30000) tt
expand_left h North North = identity (entries h) (search quote depth 60 fits 30000) tt
expand_left h North Up = identity (entries h) (search quote depth 60 fits 30000) tt
expand_left h North Clock = identity (entries h) (search quote depth 60 fits 30000) tt
expand_left h Up East = identity (entries h) (search quote depth 60 fits 30000) tt
expand_left h Up North = identity (entries h) (search quote depth 60 fits 30000) tt
expand_left h Up Up = identity (entries h) (search quote depth 60 fits 30000) tt
expand_left h Up Clock = identity (entries h) (search quote depth 60 fits 30000) tt
expand_left h Clock East = identity (entries h) (search quote depth 60 fits 30000) tt
expand_left h Clock North = identity (entries h) (search quote depth 60 fits 30000) tt
expand_left h Clock Up = identity (entries h) (search quote depth 60 fits 30000) tt
expand_left h Clock Clock = identity (entries h) (search quote depth 60 fits 30000) tt

exchange : (p : Row) (h : Matrix) (x : Row) → over_axes (λ b. over_axes (λ a. p a *ᶠ h a b) *ᶠ x b) ≡ over_axes (λ a. p a *ᶠ over_axes (λ b. h a b *ᶠ x b))
exchange p h x = identity (h East East ∷ h East North ∷ h East Up ∷ h East Clock ∷ h North East ∷ h North North ∷ h North Up ∷ h North Clock ∷ h Up East ∷ h Up North ∷ h Up Up ∷ h Up Clock ∷ h Clock East ∷ h Clock North ∷ h Clock Up ∷ h Clock Clock ∷ p East ∷ p North ∷ p Up ∷ p Clock ∷ x East ∷ x North ∷ x Up ∷ x Clock ∷ []) (search quote depth 60 fits 30000) tt

factor : (p q : Row) (r : Fraction) → over_axes (λ i. p i *ᶠ (q i *ᶠ r)) ≡ over_axes (λ i. p i *ᶠ q i) *ᶠ r
factor p q r = identity (p East ∷ p North ∷ p Up ∷ p Clock ∷ q East ∷ q North ∷ q Up ∷ q Clock ∷ r ∷ []) (search quote depth 30) tt

row-unit : (p : Row) (k : Axis) → over_axes (λ a. p a *ᶠ unit a k) ≡ p k
row-unit p East = identity (p East ∷ p North ∷ p Up ∷ p Clock ∷ []) (search quote depth 30) tt
row-unit p North = identity (p East ∷ p North ∷ p Up ∷ p Clock ∷ []) (search quote depth 30) tt
row-unit p Up = identity (p East ∷ p North ∷ p Up ∷ p Clock ∷ []) (search quote depth 30) tt
row-unit p Clock = identity (p East ∷ p North ∷ p Up ∷ p Clock ∷ []) (search quote depth 30) tt

unit-row : (d : Fraction) (x : Row) (j : Axis) → over_axes (λ b. (d *ᶠ unit j b) *ᶠ x b) ≡ d *ᶠ x j
unit-row d x East = identity (d ∷ x East ∷ x North ∷ x Up ∷ x Clock ∷ []) (search quote depth 30) tt
unit-row d x North = identity (d ∷ x East ∷ x North ∷ x Up ∷ x Clock ∷ []) (search quote depth 30) tt
unit-row d x Up = identity (d ∷ x East ∷ x North ∷ x Up ∷ x Clock ∷ []) (search quote depth 30) tt
unit-row d x Clock = identity (d ∷ x East ∷ x North ∷ x Up ∷ x Clock ∷ []) (search quote depth 30) tt

pub over_same : (f g : Row) → ((a : Axis) → f a ≡ g a) → over_axes f ≡ over_axes g
over_same f g e = rw (e East, e North, e Up, e Clock) refl

cancels : (d u : Fraction) → d ≢ zeroᶠ → (d *ᶠ u) *ᶠ inverse d ≡ u
cancels d u n =
    let e : (d *ᶠ u) *ᶠ inverse d ≡ (d *ᶠ inverse d) *ᶠ u = identity (d ∷ u ∷ inverse d ∷ []) (search quote depth 20) tt in
    e ∙ ap (λ t. t *ᶠ u) (*ᶠ_inverse d n) ∙ one-*ᶠ u

pub inverse_of_is : (h : Matrix) → determinant h ≢ zeroᶠ → IsInverse h (inverse_of h)
unfolding inverse_of
inverse_of_is h n = record { is = λ j k. factor (h j) (λ i. determinant (with_column h i (unit k))) (inverse (determinant h)) ∙ ap (λ t. t *ᶠ inverse (determinant h)) (expand h j k) ∙ cancels (determinant h) (unit j k) n }

-- det H X_jk is the determinant with the unit column k in the place of the column j
pub cramer : (h X : Matrix) → IsInverse h X → (j k : Axis) → determinant h *ᶠ X j k ≡ determinant (with_column h j (unit k))
cramer h X v j k =
    let c : Row = λ a. determinant (with_column h j (unit a)) in
    let x : Row = λ b. X b k in
    let e : over_axes (λ b. (determinant h *ᶠ unit j b) *ᶠ x b) ≡ over_axes (λ b. over_axes (λ a. c a *ᶠ h a b) *ᶠ x b) =
    over_same (λ b. (determinant h *ᶠ unit j b) *ᶠ x b) (λ b. over_axes (λ a. c a *ᶠ h a b) *ᶠ x b) (λ b. ap (λ t. t *ᶠ x b) (sym (expand_left h j b))) in
    let f : over_axes (λ a. c a *ᶠ over_axes (λ b. h a b *ᶠ x b)) ≡ over_axes (λ a. c a *ᶠ unit a k) =
    over_same (λ a. c a *ᶠ over_axes (λ b. h a b *ᶠ x b)) (λ a. c a *ᶠ unit a k) (λ a. ap (λ t. c a *ᶠ t) (v.is a k)) in
    sym (unit-row (determinant h) x j) ∙ e ∙ exchange c h x ∙ f ∙ row-unit c k

pub inverse_of-only : (h X : Matrix) → determinant h ≢ zeroᶠ → IsInverse h X → (j k : Axis) → X j k ≡ inverse_of h j k
unfolding inverse_of
inverse_of-only h X n v j k = sym (cancels (determinant h) (X j k) n) ∙ ap (λ t. t *ᶠ inverse (determinant h)) (cramer h X v j k)
