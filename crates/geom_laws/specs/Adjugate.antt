-- The adjugate of a symmetric matrix of intervals, by cofactors, and what a row has of it: the determinant times the change
-- of the position by a fault of its satellite.
use Rattle.raim_model.specs.Geometry.{Axis, East, North, Up, Clock}
use Rattle.fix_interval.specs.Ends.{Ends}
use Rattle.fix_interval.specs.Sums.{add_of, sub_of, neg_of}
use Rattle.fix_interval.specs.Products.{mul_wide_of, sqr_wide_of, narrow76_of}
use Rattle.geom_laws.specs.Rows.{RowEnds}
use Rattle.geom_laws.specs.Symmetric.{SymEnds, entry}
use Rattle.geom_laws.specs.Determinant.{minor_of}

-- b1 m1 - b2 m2 + b3 m3, from the first product on, at scale 38
unfoldable pub along_of : (b1 b2 b3 m1 m2 m3 : Ends) → Ends
along_of b1 b2 b3 m1 m2 m3 = narrow76_of (add_of (sub_of (mul_wide_of b1 m1) (mul_wide_of b2 m2)) (mul_wide_of b3 m3))

-- the three by three minor of the rows p, q, r and the columns i, j, k, along its first row
unfoldable pub minor3_of : SymEnds → (p q r i j k : Axis) → Ends
minor3_of h p q r i j k = along_of (entry h p i) (entry h p j) (entry h p k) (minor_of h q r j k) (minor_of h q r i k) (minor_of h q r i j)

-- the minors without the row and the column of each entry, negated where the sum of their places is odd
unfoldable pub adjugate_of : SymEnds → SymEnds
adjugate_of h = record {
  a11 = minor3_of h North Up Clock North Up Clock;
  a12 = neg_of (minor3_of h North Up Clock East Up Clock);
  a13 = minor3_of h North Up Clock East North Clock;
  a14 = neg_of (minor3_of h North Up Clock East North Up);
  a22 = minor3_of h East Up Clock East Up Clock;
  a23 = neg_of (minor3_of h East Up Clock East North Clock);
  a24 = minor3_of h East Up Clock East North Up;
  a33 = minor3_of h East North Clock East North Clock;
  a34 = neg_of (minor3_of h East North Clock East North Up);
  a44 = minor3_of h East North Up East North Up;
}

-- a e + b n + c u + d k, from the first product on, at scale 38
unfoldable pub inner_of : (a b c d : Ends) → RowEnds → Ends
inner_of a b c d r = narrow76_of (add_of (add_of (add_of (mul_wide_of a r.e) (mul_wide_of b r.n)) (mul_wide_of c r.u)) (mul_wide_of d r.k))

-- the sum of the products of a row of the adjugate with the row r
unfoldable pub alpha_of : SymEnds → RowEnds → Axis → Ends
alpha_of adj r j = inner_of (entry adj j East) (entry adj j North) (entry adj j Up) (entry adj j Clock) r

-- the sum of two squares, at scale 38
unfoldable pub horizontal_of : Ends → Ends → Ends
horizontal_of a b = narrow76_of (add_of (sqr_wide_of a) (sqr_wide_of b))

-- a square, at scale 38
unfoldable pub vertical_of : Ends → Ends
vertical_of a = narrow76_of (sqr_wide_of a)
