-- The determinant by complementary minors, and cofactors.
use Rattle.std.specs.Prelude.{◌≡◌, List, [], ◌∷◌, refl}
use Rattle.std.proofs.Common.{ap₂, sym}
use Rattle.fractions.specs.Fraction.{◌+ᶠ◌}
use Rattle.fractions.proofs.Laws.{*ᶠ_comm}
use Rattle.fractions.proofs.Quote.{quote, identity}
use Rattle.raim_model.specs.Geometry.{Axis, East, North, Up, Clock, Row, Matrix, normal_matrix, determinant, unit, with_column}
use Rattle.geometry_laws.specs.Minors.{minor, det_by_minors, minor3, minor_without, cofactor, adjugate, transposed}
use Rattle.geometry_laws.proofs.Cramer.{entries}

-- the complementary minors give the sum over the permutations
pub complementary : (h : Matrix) → det_by_minors h ≡ determinant h
unfolding determinant det_by_minors minor
complementary h = identity (entries h) (search quote depth 60 fits 30000) tt

-- a cofactor is the determinant with a unit column
pub cofactor-det : (h : Matrix) (j k : Axis) → cofactor h j k ≡ determinant (with_column h k (unit j))
unfolding determinant cofactor minor_without minor3 minor
cofactor-det h East East = identity (entries h) (search quote depth 60 fits 30000) tt
cofactor-det h East North = identity (entries h) (search quote depth 60 fits 30000) tt
cofactor-det h East Up = identity (entries h) (search quote depth 60 fits 30000) tt
cofactor-det h East Clock = identity (entries h) (search quote depth 60 fits 30000) tt
cofactor-det h North East = identity (entries h) (search quote depth 60 fits 30000) tt
cofactor-det h North North = identity (entries h) (search quote depth 60 fits 30000) tt
cofactor-det h North Up = identity (entries h) (search quote depth 60 fits 30000) tt
cofactor-det h North Clock = identity (entries h) (search quote depth 60 fits 30000) tt
cofactor-det h Up East = identity (entries h) (search quote depth 60 fits 30000) tt
cofactor-det h Up North = identity (entries h) (search quote depth 60 fits 30000) tt
cofactor-det h Up Up = identity (entries h) (search quote depth 60 fits 30000) tt
cofactor-det h Up Clock = identity (entries h) (search quote depth 60 fits 30000) tt
cofactor-det h Clock East = identity (entries h) (search quote depth 60 fits 30000) tt
cofactor-det h Clock North = identity (entries h) (search quote depth 60 fits 30000) tt
cofactor-det h Clock Up = identity (entries h) (search quote depth 60 fits 30000) tt
cofactor-det h Clock Clock = identity (entries h) (search quote depth 60 fits 30000) tt

-- the adjugate has the cofactors, rows and columns turned
pub adjugate-cofactor : (h : Matrix) (j k : Axis) → adjugate h j k ≡ cofactor h k j
unfolding adjugate
adjugate-cofactor h j k = sym (cofactor-det h k j)

-- which are the cofactors of the matrix turned
pub cofactor-transposed : (h : Matrix) (j k : Axis) → cofactor h k j ≡ cofactor (transposed h) j k
unfolding cofactor minor_without minor3 minor
cofactor-transposed h East East = identity (entries h) (search quote depth 60 fits 30000) tt
cofactor-transposed h East North = identity (entries h) (search quote depth 60 fits 30000) tt
cofactor-transposed h East Up = identity (entries h) (search quote depth 60 fits 30000) tt
cofactor-transposed h East Clock = identity (entries h) (search quote depth 60 fits 30000) tt
cofactor-transposed h North East = identity (entries h) (search quote depth 60 fits 30000) tt
cofactor-transposed h North North = identity (entries h) (search quote depth 60 fits 30000) tt
cofactor-transposed h North Up = identity (entries h) (search quote depth 60 fits 30000) tt
cofactor-transposed h North Clock = identity (entries h) (search quote depth 60 fits 30000) tt
cofactor-transposed h Up East = identity (entries h) (search quote depth 60 fits 30000) tt
cofactor-transposed h Up North = identity (entries h) (search quote depth 60 fits 30000) tt
cofactor-transposed h Up Up = identity (entries h) (search quote depth 60 fits 30000) tt
cofactor-transposed h Up Clock = identity (entries h) (search quote depth 60 fits 30000) tt
cofactor-transposed h Clock East = identity (entries h) (search quote depth 60 fits 30000) tt
cofactor-transposed h Clock North = identity (entries h) (search quote depth 60 fits 30000) tt
cofactor-transposed h Clock Up = identity (entries h) (search quote depth 60 fits 30000) tt
cofactor-transposed h Clock Clock = identity (entries h) (search quote depth 60 fits 30000) tt

-- the normal matrix is symmetric
pub normal-symmetric : (rows : List Row) (j k : Axis) → normal_matrix rows j k ≡ normal_matrix rows k j
unfolding normal_matrix
normal-symmetric [] j k = refl
normal-symmetric (g ∷ gs) j k = ap₂ ◌+ᶠ◌ (*ᶠ_comm (g j) (g k)) (normal-symmetric gs j k)
