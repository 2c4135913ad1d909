-- The geometry of slope-based RAIM after R. G. Brown; its exact form is this project's own. With G of one row a satellite,
-- H = G^T G, X with H X = I, A = X G^T and S = I - G A, a fault of the satellite i moves the position by column i of A and leaves
-- S_ii of itself in the residuals.
use Rattle.std.specs.Prelude.{◌≡◌, Bool, true, false, if◌then◌else◌, List, [], ◌∷◌}
use Rattle.fractions.specs.Fraction.{Fraction, zeroᶠ, oneᶠ, ◌+ᶠ◌, ◌-ᶠ◌, ◌*ᶠ◌}
use Rattle.fractions.specs.Inverse.{◌/ᶠ◌}

-- the four unknowns of a position, east, north, up and the receiver's clock, and so the columns of a row
pub data Axis : Type 0 where
  East : Axis
  North : Axis
  Up : Axis
  Clock : Axis

-- a row of G: one satellite's direction and 1, all times its weight
abbrev pub Row : Type 0
Row = Axis → Fraction

-- a matrix of four by four, by its entries, row first
abbrev pub Matrix : Type 0
Matrix = Axis → Axis → Fraction

-- the row of a direction
abbrev pub row_of : (e n u : Fraction) → Row
row_of e n u East = e
row_of e n u North = n
row_of e n u Up = u
row_of e n u Clock = oneᶠ

-- the row times a weight
abbrev pub weighed : Fraction → Row → Row
weighed w g k = w *ᶠ g k

-- the sum over the four axes
abbrev pub over_axes : (Axis → Fraction) → Fraction
over_axes f = f East +ᶠ f North +ᶠ f Up +ᶠ f Clock

-- the scalar product of two rows
abbrev pub inner : Row → Row → Fraction
inner g h = over_axes (λ k. g k *ᶠ h k)

-- X g
abbrev pub apply : Matrix → Row → Row
apply X g j = inner (X j) g

-- H = G^T G, the normal matrix: the sums of the products g_j g_k over the rows
unfoldable pub normal_matrix : List Row → Matrix
normal_matrix [] j k = zeroᶠ
normal_matrix (g ∷ gs) j k = g j *ᶠ g k +ᶠ normal_matrix gs j k

-- the product of the entries at the columns a, b, c, d of the four rows
abbrev pub term : Matrix → (a b c d : Axis) → Fraction
term h a b c d = h East a *ᶠ h North b *ᶠ h Up c *ᶠ h Clock d

-- the determinant: the sum over the twelve even permutations of the columns less that over the twelve odd ones
unfoldable pub determinant : Matrix → Fraction
determinant h =
    (term h East North Up Clock +ᶠ term h East Up Clock North +ᶠ term h East Clock North Up
    +ᶠ term h North East Clock Up +ᶠ term h North Up East Clock +ᶠ term h North Clock Up East
    +ᶠ term h Up East North Clock +ᶠ term h Up North Clock East +ᶠ term h Up Clock East North
    +ᶠ term h Clock East Up North +ᶠ term h Clock North East Up +ᶠ term h Clock Up North East)
    -ᶠ (term h East North Clock Up +ᶠ term h East Up North Clock +ᶠ term h East Clock Up North
    +ᶠ term h North East Up Clock +ᶠ term h North Up Clock East +ᶠ term h North Clock East Up
    +ᶠ term h Up East Clock North +ᶠ term h Up North East Clock +ᶠ term h Up Clock North East
    +ᶠ term h Clock East North Up +ᶠ term h Clock North Up East +ᶠ term h Clock Up East North)

abbrev pub is_same : Axis → Axis → Bool
is_same East East = true
is_same North North = true
is_same Up Up = true
is_same Clock Clock = true
is_same j k = false

-- the identity matrix
abbrev pub unit : Matrix
unit j k = if is_same j k then oneᶠ else zeroᶠ

-- H X = I
pub record IsInverse (h X : Matrix) : Type 0 where
  pub is : (j k : Axis) → over_axes (λ i. h j i *ᶠ X i k) ≡ unit j k

-- h with the column j replaced by c
abbrev pub with_column : Matrix → Axis → Row → Matrix
with_column h j c a b = if is_same b j then c a else h a b

-- the X with H X = I, by Cramer's rule: a law of `geometry_laws` says that it is one, and the only one, where det H is not 0
unfoldable pub inverse_of : Matrix → Matrix
inverse_of h j k = determinant (with_column h j (unit k)) /ᶠ determinant h

-- how far, squared, a fault of one unit in the satellite of a row moves the position, by the inverse X: what a test of slopes
-- holds against the residual share
abbrev pub SquaredShift : Type 0
SquaredShift = Matrix → Row → Fraction

-- across: A_i1^2 + A_i2^2 for the satellite's row g, with A_i = X g
abbrev pub horizontal : SquaredShift
horizontal X g = apply X g East *ᶠ apply X g East +ᶠ apply X g North *ᶠ apply X g North

-- up: A_i3^2
abbrev pub vertical : SquaredShift
vertical X g = apply X g Up *ᶠ apply X g Up

-- S_ii = 1 - g . A_i: the share of a fault of the satellite i that its own residual keeps
abbrev pub residual_share : Matrix → Row → Fraction
residual_share X g = oneᶠ -ᶠ inner g (apply X g)
