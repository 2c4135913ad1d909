-- The determinant and the inverse of a geometry by minors, without a division.
use Rattle.std.specs.Prelude.{Bool, true, false, if◌then◌else◌}
use Rattle.fractions.specs.Fraction.{Fraction, ◌+ᶠ◌, ◌-ᶠ◌, ◌*ᶠ◌, neg}
use Rattle.raim_model.specs.Geometry.{Axis, East, North, Up, Clock, Matrix, determinant, unit, with_column}

-- the two by two minor of the rows p and q and the columns j and k
unfoldable pub minor : Matrix → (p q j k : Axis) → Fraction
minor h p q j k = h p j *ᶠ h q k -ᶠ h p k *ᶠ h q j

-- the determinant by complementary minors: those of the first two rows times those of the last two, of the other columns
unfoldable pub det_by_minors : Matrix → Fraction
det_by_minors h =
    minor h East North East North *ᶠ minor h Up Clock Up Clock
    -ᶠ minor h East North East Up *ᶠ minor h Up Clock North Clock
    +ᶠ minor h East North East Clock *ᶠ minor h Up Clock North Up
    +ᶠ minor h East North North Up *ᶠ minor h Up Clock East Clock
    -ᶠ minor h East North North Clock *ᶠ minor h Up Clock East Up
    +ᶠ minor h East North Up Clock *ᶠ minor h Up Clock East North

-- the three by three minor of the rows p, q, r and the columns i, j, k, along its first row
unfoldable pub minor3 : Matrix → (p q r i j k : Axis) → Fraction
minor3 h p q r i j k = h p i *ᶠ minor h q r j k -ᶠ h p j *ᶠ minor h q r i k +ᶠ h p k *ᶠ minor h q r i j

-- the axes but one, in their order
abbrev pub first_but : Axis → Axis
first_but East = North
first_but j = East

abbrev pub second_but : Axis → Axis
second_but East = Up
second_but North = Up
second_but j = North

abbrev pub third_but : Axis → Axis
third_but Clock = Up
third_but j = Clock

-- the minor without the row and the column of two axes
unfoldable pub minor_without : Matrix → (row column : Axis) → Fraction
minor_without h row column = minor3 h (first_but row) (second_but row) (third_but row) (first_but column) (second_but column) (third_but column)

-- whether the places of two axes, from 1 to 4, have an odd sum
abbrev pub is_odd_sum : Axis → Axis → Bool
is_odd_sum East North = true
is_odd_sum East Clock = true
is_odd_sum North East = true
is_odd_sum North Up = true
is_odd_sum Up North = true
is_odd_sum Up Clock = true
is_odd_sum Clock East = true
is_odd_sum Clock Up = true
is_odd_sum j k = false

-- the cofactor of a row and a column: their minor with its sign
unfoldable pub cofactor : Matrix → (row column : Axis) → Fraction
cofactor h j k = if is_odd_sum j k then neg (minor_without h j k) else minor_without h j k

-- the determinant times the inverse: its entry j, k is the determinant with the unit column k in the place of the column j
unfoldable pub adjugate : Matrix → Matrix
adjugate h j k = determinant (with_column h j (unit k))

-- the rows and the columns turned
abbrev pub transposed : Matrix → Matrix
transposed h j k = h k j
