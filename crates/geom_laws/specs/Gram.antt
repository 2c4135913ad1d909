-- The normal matrix of rows of intervals: the sums of the products of their parts.
use Rattle.std.specs.Prelude.{ℕ, pos, if◌then◌else◌, List, [], ◌∷◌}
use Rattle.raim_model.specs.Geometry.{Axis, East, North, Up, Clock, is_same}
use Rattle.fix_interval.specs.Ends.{Ends}
use Rattle.fix_interval.specs.Sums.{add_of}
use Rattle.fix_interval.specs.Products.{mul_wide_of, sqr_wide_of, narrow76_of}
use Rattle.geometry_laws.specs.Without.{without}
use Rattle.fix_interval.specs.Ranges.{point}
use Rattle.geom_laws.specs.Rows.{RowEnds, part}
use Rattle.geom_laws.specs.Symmetric.{SymEnds}

-- the product of two parts of a row at scale 76, a square where they are one
unfoldable pub product_of : RowEnds → (j k : Axis) → Ends
product_of r j k = if is_same j k then sqr_wide_of (part r j) else mul_wide_of (part r j) (part r k)

-- the sum of the products over the rows
unfoldable pub sum_of : List RowEnds → (j k : Axis) → Ends
sum_of [] j k = point (pos 0)
sum_of (r ∷ rs) j k = add_of (product_of r j k) (sum_of rs j k)

-- the entries of a symmetric matrix
abbrev pub tabulated : (Axis → Axis → Ends) → SymEnds
tabulated f = record {
  a11 = f East East;
  a12 = f East North;
  a13 = f East Up;
  a14 = f East Clock;
  a22 = f North North;
  a23 = f North Up;
  a24 = f North Clock;
  a33 = f Up Up;
  a34 = f Up Clock;
  a44 = f Clock Clock;
}

-- the sums at scale 76
unfoldable pub sums_of : List RowEnds → SymEnds
sums_of rows = tabulated (sum_of rows)

-- each entry from scale 76 to scale 38
abbrev pub rounded_of : SymEnds → SymEnds
rounded_of s = record {
  a11 = narrow76_of s.a11;
  a12 = narrow76_of s.a12;
  a13 = narrow76_of s.a13;
  a14 = narrow76_of s.a14;
  a22 = narrow76_of s.a22;
  a23 = narrow76_of s.a23;
  a24 = narrow76_of s.a24;
  a33 = narrow76_of s.a33;
  a34 = narrow76_of s.a34;
  a44 = narrow76_of s.a44;
}

-- the normal matrix
unfoldable pub gram_of : List RowEnds → SymEnds
gram_of rows = rounded_of (sums_of rows)

-- without the row at place i
unfoldable pub gram_without_of : List RowEnds → ℕ → SymEnds
gram_without_of rows i = gram_of (without i rows)
