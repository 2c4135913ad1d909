-- Small lists of rows whose determinants are whole numbers: satellites on the axes.
use Rattle.std.specs.Prelude.{pos, negsuc, List, [], ◌∷◌}
use Rattle.fractions.specs.Fraction.{Fraction, ratio, zeroᶠ, oneᶠ, whole}
use Rattle.raim_model.specs.Geometry.{Row, row_of, weighed}

abbrev pub minus_one : Fraction
minus_one = whole (negsuc 0)

-- one to the east, to the west, to the north and to the south, and one up
abbrev pub five_rows : List Row
five_rows = row_of oneᶠ zeroᶠ zeroᶠ ∷ row_of minus_one zeroᶠ zeroᶠ ∷ row_of zeroᶠ oneᶠ zeroᶠ ∷ row_of zeroᶠ minus_one zeroᶠ ∷ row_of zeroᶠ zeroᶠ oneᶠ ∷ []

-- and one down
abbrev pub six_rows : List Row
six_rows = row_of oneᶠ zeroᶠ zeroᶠ ∷ row_of minus_one zeroᶠ zeroᶠ ∷ row_of zeroᶠ oneᶠ zeroᶠ ∷ row_of zeroᶠ minus_one zeroᶠ ∷ row_of zeroᶠ zeroᶠ oneᶠ ∷ row_of zeroᶠ zeroᶠ minus_one ∷ []

-- five in one place
abbrev pub rows_up : List Row
rows_up = row_of zeroᶠ zeroᶠ oneᶠ ∷ row_of zeroᶠ zeroᶠ oneᶠ ∷ row_of zeroᶠ zeroᶠ oneᶠ ∷ row_of zeroᶠ zeroᶠ oneᶠ ∷ row_of zeroᶠ zeroᶠ oneᶠ ∷ []

-- a row of the weight one half
abbrev pub halved : Row → Row
halved g = weighed (ratio (pos 1) 2) g
