-- Minors and determinants of ends hold those of fractions, and are isotone.
use Rattle.std.specs.Prelude.{refl}
use Rattle.std.proofs.Common.{subst}
use Rattle.fractions.specs.Fraction.{Fraction, ◌+ᶠ◌, ◌-ᶠ◌, ◌*ᶠ◌}
use Rattle.raim_model.specs.Geometry.{Axis, East, North, Up, Clock, Matrix, determinant}
use Rattle.fix_interval.specs.Ends.{Ends, IsInside}
use Rattle.fix_interval.specs.Lies.{Lies}
use Rattle.fix_interval.specs.Sums.{add_of, sub_of}
use Rattle.fix_interval.specs.Products.{mul_wide_of}
use Rattle.fix_interval.proofs.EndSums.{add_encloses, sub_encloses, add_isotone, sub_isotone}
use Rattle.fix_interval.proofs.EndProducts.{mul_wide_encloses, mul_wide_isotone, narrow76_encloses, narrow76_isotone}
use Rattle.geometry_laws.specs.Minors.{minor, det_by_minors}
use Rattle.geometry_laws.proofs.Minors.{complementary}
use Rattle.geom_laws.specs.Symmetric.{SymEnds, SymLies, SymInside}
use Rattle.geom_laws.specs.Determinant.{crossed_of, minor_of, laplace_of, det_of}

-- the product of two choices at scale 38 lies in the wide product
pub product_lies : {a b : Ends} {x y : Fraction} → Lies a 38 x → Lies b 38 y → Lies (mul_wide_of a b) 76 (x *ᶠ y)
product_lies {a} {b} {x} {y} p q = mul_wide_encloses refl 38 38 x y p q

-- the sum of two choices at scale 76
pub sum_lies : {a b : Ends} {x y : Fraction} → Lies a 76 x → Lies b 76 y → Lies (add_of a b) 76 (x +ᶠ y)
sum_lies {a} {b} {x} {y} p q = add_encloses refl 76 x y p q

-- and their difference
pub difference_lies : {a b : Ends} {x y : Fraction} → Lies a 76 x → Lies b 76 y → Lies (sub_of a b) 76 (x -ᶠ y)
difference_lies {a} {b} {x} {y} p q = sub_encloses refl 76 x y p q

-- wider factors have a wider product, and wider parts a wider sum and a wider difference
pub product_inside : {a b c d : Ends} → IsInside a c → IsInside b d → IsInside (mul_wide_of a b) (mul_wide_of c d)
product_inside {a} {b} {c} {d} p q = mul_wide_isotone refl c d p q

pub sum_inside : {a b c d : Ends} → IsInside a c → IsInside b d → IsInside (add_of a b) (add_of c d)
sum_inside {a} {b} {c} {d} p q = add_isotone refl c d p q

pub difference_inside : {a b c d : Ends} → IsInside a c → IsInside b d → IsInside (sub_of a b) (sub_of c d)
difference_inside {a} {b} {c} {d} p q = sub_isotone refl c d p q

-- a two by two minor
pub minor_lies : (h : SymEnds) (X : Matrix) → SymLies h X → (p q j k : Axis) → Lies (minor_of h p q j k) 38 (minor X p q j k)
unfolding minor_of crossed_of minor
minor_lies h X v p q j k =
    narrow76_encloses refl 38 (X p j *ᶠ X q k -ᶠ X p k *ᶠ X q j)
    (difference_lies (product_lies (v.entries p j) (v.entries q k)) (product_lies (v.entries p k) (v.entries q j)))

pub crossed_inside : {a b c d e f g h : Ends} → IsInside a e → IsInside b f → IsInside c g → IsInside d h → IsInside (crossed_of a b c d) (crossed_of e f g h)
unfolding crossed_of
crossed_inside p q r s = narrow76_isotone refl _ (difference_inside (product_inside p q) (product_inside r s))

pub minor_inside : (h wider : SymEnds) → SymInside h wider → (p q j k : Axis) → IsInside (minor_of h p q j k) (minor_of wider p q j k)
unfolding minor_of
minor_inside h wider v p q j k = crossed_inside (v.entries p j) (v.entries q k) (v.entries p k) (v.entries q j)

-- the determinant
pub det_lies : (h : SymEnds) (X : Matrix) → SymLies h X → Lies (det_of h) 38 (determinant X)
unfolding det_of laplace_of det_by_minors
det_lies h X v =
    let s : (j k : Axis) → Lies (minor_of h East North j k) 38 (minor X East North j k) = λ j k. minor_lies h X v East North j k in
    let c : (j k : Axis) → Lies (minor_of h Up Clock j k) 38 (minor X Up Clock j k) = λ j k. minor_lies h X v Up Clock j k in
    subst (λ t. Lies (det_of h) 38 t) (complementary X) (narrow76_encloses refl 38 (det_by_minors X)
    (sum_lies (difference_lies (sum_lies (sum_lies (difference_lies
    (product_lies (s East North) (c Up Clock)) (product_lies (s East Up) (c North Clock))) (product_lies (s East Clock) (c North Up)))
    (product_lies (s North Up) (c East Clock))) (product_lies (s North Clock) (c East Up))) (product_lies (s Up Clock) (c East North))))

pub det_inside : (h wider : SymEnds) → SymInside h wider → IsInside (det_of h) (det_of wider)
unfolding det_of laplace_of
det_inside h wider v =
    let s : (j k : Axis) → IsInside (minor_of h East North j k) (minor_of wider East North j k) = λ j k. minor_inside h wider v East North j k in
    let c : (j k : Axis) → IsInside (minor_of h Up Clock j k) (minor_of wider Up Clock j k) = λ j k. minor_inside h wider v Up Clock j k in
    narrow76_isotone refl _
    (sum_inside (difference_inside (sum_inside (sum_inside (difference_inside
    (product_inside (s East North) (c Up Clock)) (product_inside (s East Up) (c North Clock))) (product_inside (s East Clock) (c North Up)))
    (product_inside (s North Up) (c East Clock))) (product_inside (s North Clock) (c East Up))) (product_inside (s Up Clock) (c East North)))
