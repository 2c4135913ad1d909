-- The adjugate of ends, and what a row has of it, hold those of fractions, and are isotone.
use Rattle.std.specs.Prelude.{ℕ, pos, ◌^◌, refl, Bool, true, false, if◌then◌else◌}
use Rattle.std.proofs.Common.{subst, sym, ◌∙◌}
use Rattle.fractions.specs.Fraction.{Fraction, zeroᶠ, ◌+ᶠ◌, ◌-ᶠ◌, ◌*ᶠ◌, neg}
use Rattle.fractions.proofs.Laws.{zero-+ᶠ, ≤ᶠ_refl}
use Rattle.fractions.proofs.Ratios.{ratio-zero}
use Rattle.whole_numbers.proofs.Integers.{≤ℤ_refl}
use Rattle.raim_model.specs.Geometry.{Axis, East, North, Up, Clock, Row, Matrix, apply}
use Rattle.fix_interval.specs.Ends.{Ends, IsInside}
use Rattle.fix_interval.specs.Lies.{Lies}
use Rattle.fix_interval.proofs.EndSums.{sub_encloses, sub_isotone}
use Rattle.fix_interval.proofs.EndProducts.{narrow76_encloses, narrow76_isotone}
use Rattle.geometry_laws.specs.Minors.{minor, minor3, minor_without, cofactor, adjugate, transposed}
use Rattle.geometry_laws.proofs.Minors.{adjugate-cofactor, cofactor-transposed}
use Rattle.fix_interval.specs.Ranges.{point}
use Rattle.geom_laws.specs.Rows.{RowEnds, RowLies, RowInside}
use Rattle.geom_laws.specs.Symmetric.{SymEnds, entry, SymLies, SymInside}
use Rattle.fix_interval.specs.Sums.{neg_of}
use Rattle.geom_laws.specs.Adjugate.{along_of, minor3_of, adjugate_of, inner_of, alpha_of}
use Rattle.fix_interval.proofs.EndInsides.{inside_self}
use Rattle.geom_laws.proofs.Minors.{product_lies, sum_lies, difference_lies, product_inside, sum_inside, difference_inside, minor_lies, minor_inside}

-- ---- encloses
-- 0 lies in the ends 0
pub zero_lies : (s : ℕ) → Lies (point (pos 0)) s zeroᶠ
zero_lies s = record { low = rw (ratio-zero (2 ^ s)) (≤ᶠ_refl zeroᶠ); high = rw (ratio-zero (2 ^ s)) (≤ᶠ_refl zeroᶠ) }

pub neg_lies : {a : Ends} {x : Fraction} → Lies a 38 x → Lies (neg_of a) 38 (neg x)
unfolding neg_of
neg_lies {a} {x} p = subst (λ t. Lies (neg_of a) 38 t) (zero-+ᶠ (neg x)) (sub_encloses refl 38 zeroᶠ x (zero_lies 38) p)

-- a three by three minor
pub minor3_lies : (h : SymEnds) (X : Matrix) → SymLies h X → (p q r i j k : Axis) → Lies (minor3_of h p q r i j k) 38 (minor3 X p q r i j k)
unfolding minor3_of along_of minor3
minor3_lies h X v p q r i j k =
    narrow76_encloses refl 38 (X p i *ᶠ minor X q r j k -ᶠ X p j *ᶠ minor X q r i k +ᶠ X p k *ᶠ minor X q r i j)
    (sum_lies (difference_lies (product_lies (v.entries p i) (minor_lies h X v q r j k)) (product_lies (v.entries p j) (minor_lies h X v q r i k))) (product_lies (v.entries p k) (minor_lies h X v q r i j)))

-- the matrix turned lies in what the matrix lies in
turned : (h : SymEnds) (X : Matrix) → SymLies h X → SymLies h (transposed X)
turned h X v = record { entries = at }
  where
    at : (j k : Axis) → Lies (entry h j k) 38 (X k j)
    at East East = v.entries East East
    at East North = v.entries North East
    at East Up = v.entries Up East
    at East Clock = v.entries Clock East
    at North East = v.entries East North
    at North North = v.entries North North
    at North Up = v.entries Up North
    at North Clock = v.entries Clock North
    at Up East = v.entries East Up
    at Up North = v.entries North Up
    at Up Up = v.entries Up Up
    at Up Clock = v.entries Clock Up
    at Clock East = v.entries East Clock
    at Clock North = v.entries North Clock
    at Clock Up = v.entries Up Clock
    at Clock Clock = v.entries Clock Clock

-- of two axes the one that comes first, and the one that comes second
abbrev comes_before : Axis → Axis → Bool
comes_before East k = true
comes_before North East = false
comes_before North k = true
comes_before Up East = false
comes_before Up North = false
comes_before Up k = true
comes_before Clock Clock = true
comes_before Clock k = false

abbrev first : Axis → Axis → Axis
first j k = if comes_before j k then j else k

abbrev second : Axis → Axis → Axis
second j k = if comes_before j k then k else j

-- an entry of the adjugate is a cofactor of any matrix inside, of the axis that comes first and of the other
cofactor_lies : (h : SymEnds) (X : Matrix) → SymLies h X → (j k : Axis) → Lies (entry (adjugate_of h) j k) 38 (cofactor X (first j k) (second j k))
unfolding adjugate_of cofactor minor_without
cofactor_lies h X v East East = minor3_lies h X v North Up Clock North Up Clock
cofactor_lies h X v East North = neg_lies (minor3_lies h X v North Up Clock East Up Clock)
cofactor_lies h X v East Up = minor3_lies h X v North Up Clock East North Clock
cofactor_lies h X v East Clock = neg_lies (minor3_lies h X v North Up Clock East North Up)
cofactor_lies h X v North East = neg_lies (minor3_lies h X v North Up Clock East Up Clock)
cofactor_lies h X v North North = minor3_lies h X v East Up Clock East Up Clock
cofactor_lies h X v North Up = neg_lies (minor3_lies h X v East Up Clock East North Clock)
cofactor_lies h X v North Clock = minor3_lies h X v East Up Clock East North Up
cofactor_lies h X v Up East = minor3_lies h X v North Up Clock East North Clock
cofactor_lies h X v Up North = neg_lies (minor3_lies h X v East Up Clock East North Clock)
cofactor_lies h X v Up Up = minor3_lies h X v East North Clock East North Clock
cofactor_lies h X v Up Clock = neg_lies (minor3_lies h X v East North Clock East North Up)
cofactor_lies h X v Clock East = neg_lies (minor3_lies h X v North Up Clock East North Up)
cofactor_lies h X v Clock North = minor3_lies h X v East Up Clock East North Up
cofactor_lies h X v Clock Up = neg_lies (minor3_lies h X v East North Clock East North Up)
cofactor_lies h X v Clock Clock = minor3_lies h X v East North Up East North Up

-- the adjugate: an entry below the diagonal is a cofactor of the matrix, and another one of the matrix turned
pub adjugate_lies : (h : SymEnds) (X : Matrix) → SymLies h X → SymLies (adjugate_of h) (adjugate X)
adjugate_lies h X v = record { entries = at }
  where
    above : (j k : Axis) → Lies (entry (adjugate_of h) j k) 38 (cofactor (transposed X) j k) → Lies (entry (adjugate_of h) j k) 38 (adjugate X j k)
    above j k p = subst (λ t. Lies (entry (adjugate_of h) j k) 38 t) (sym (adjugate-cofactor X j k ∙ cofactor-transposed X j k)) p

    below : (j k : Axis) → Lies (entry (adjugate_of h) j k) 38 (cofactor X k j) → Lies (entry (adjugate_of h) j k) 38 (adjugate X j k)
    below j k p = subst (λ t. Lies (entry (adjugate_of h) j k) 38 t) (sym (adjugate-cofactor X j k)) p

    at : (j k : Axis) → Lies (entry (adjugate_of h) j k) 38 (adjugate X j k)
    at East East = above East East (cofactor_lies h (transposed X) (turned h X v) East East)
    at East North = above East North (cofactor_lies h (transposed X) (turned h X v) East North)
    at East Up = above East Up (cofactor_lies h (transposed X) (turned h X v) East Up)
    at East Clock = above East Clock (cofactor_lies h (transposed X) (turned h X v) East Clock)
    at North East = below North East (cofactor_lies h X v North East)
    at North North = above North North (cofactor_lies h (transposed X) (turned h X v) North North)
    at North Up = above North Up (cofactor_lies h (transposed X) (turned h X v) North Up)
    at North Clock = above North Clock (cofactor_lies h (transposed X) (turned h X v) North Clock)
    at Up East = below Up East (cofactor_lies h X v Up East)
    at Up North = below Up North (cofactor_lies h X v Up North)
    at Up Up = above Up Up (cofactor_lies h (transposed X) (turned h X v) Up Up)
    at Up Clock = above Up Clock (cofactor_lies h (transposed X) (turned h X v) Up Clock)
    at Clock East = below Clock East (cofactor_lies h X v Clock East)
    at Clock North = below Clock North (cofactor_lies h X v Clock North)
    at Clock Up = below Clock Up (cofactor_lies h X v Clock Up)
    at Clock Clock = above Clock Clock (cofactor_lies h (transposed X) (turned h X v) Clock Clock)

-- what a row has of a matrix
pub alpha_lies : (adj : SymEnds) (r : RowEnds) (X : Matrix) (g : Row) (j : Axis) → SymLies adj X → RowLies r g → Lies (alpha_of adj r j) 38 (apply X g j)
unfolding alpha_of inner_of
alpha_lies adj r X g j v w =
    narrow76_encloses refl 38 (apply X g j)
    (sum_lies (sum_lies (sum_lies (product_lies (v.entries j East) (w.parts East)) (product_lies (v.entries j North) (w.parts North))) (product_lies (v.entries j Up) (w.parts Up))) (product_lies (v.entries j Clock) (w.parts Clock)))

-- ---- isotone
pub neg_inside : {a b : Ends} → IsInside a b → IsInside (neg_of a) (neg_of b)
unfolding neg_of
neg_inside {a} {b} p = sub_isotone refl (point (pos 0)) b (inside_self (point (pos 0)) (≤ℤ_refl (pos 0))) p

pub along_inside : {b1 b2 b3 m1 m2 m3 c1 c2 c3 n1 n2 n3 : Ends} → IsInside b1 c1 → IsInside b2 c2 → IsInside b3 c3 → IsInside m1 n1 → IsInside m2 n2 → IsInside m3 n3
    → IsInside (along_of b1 b2 b3 m1 m2 m3) (along_of c1 c2 c3 n1 n2 n3)
unfolding along_of
along_inside p1 p2 p3 q1 q2 q3 = narrow76_isotone refl _ (sum_inside (difference_inside (product_inside p1 q1) (product_inside p2 q2)) (product_inside p3 q3))

pub minor3_inside : (h wider : SymEnds) → SymInside h wider → (p q r i j k : Axis) → IsInside (minor3_of h p q r i j k) (minor3_of wider p q r i j k)
unfolding minor3_of
minor3_inside h wider v p q r i j k = along_inside (v.entries p i) (v.entries p j) (v.entries p k) (minor_inside h wider v q r j k) (minor_inside h wider v q r i k) (minor_inside h wider v q r i j)

-- each entry of the adjugate
adjugate_entry : (h wider : SymEnds) → SymInside h wider → (j k : Axis) → IsInside (entry (adjugate_of h) j k) (entry (adjugate_of wider) j k)
unfolding adjugate_of
adjugate_entry h wider v East East = minor3_inside h wider v North Up Clock North Up Clock
adjugate_entry h wider v East North = neg_inside (minor3_inside h wider v North Up Clock East Up Clock)
adjugate_entry h wider v East Up = minor3_inside h wider v North Up Clock East North Clock
adjugate_entry h wider v East Clock = neg_inside (minor3_inside h wider v North Up Clock East North Up)
adjugate_entry h wider v North East = neg_inside (minor3_inside h wider v North Up Clock East Up Clock)
adjugate_entry h wider v North North = minor3_inside h wider v East Up Clock East Up Clock
adjugate_entry h wider v North Up = neg_inside (minor3_inside h wider v East Up Clock East North Clock)
adjugate_entry h wider v North Clock = minor3_inside h wider v East Up Clock East North Up
adjugate_entry h wider v Up East = minor3_inside h wider v North Up Clock East North Clock
adjugate_entry h wider v Up North = neg_inside (minor3_inside h wider v East Up Clock East North Clock)
adjugate_entry h wider v Up Up = minor3_inside h wider v East North Clock East North Clock
adjugate_entry h wider v Up Clock = neg_inside (minor3_inside h wider v East North Clock East North Up)
adjugate_entry h wider v Clock East = neg_inside (minor3_inside h wider v North Up Clock East North Up)
adjugate_entry h wider v Clock North = minor3_inside h wider v East Up Clock East North Up
adjugate_entry h wider v Clock Up = neg_inside (minor3_inside h wider v East North Clock East North Up)
adjugate_entry h wider v Clock Clock = minor3_inside h wider v East North Up East North Up

pub adjugate_inside : (h wider : SymEnds) → SymInside h wider → SymInside (adjugate_of h) (adjugate_of wider)
adjugate_inside h wider v = record { entries = adjugate_entry h wider v }

pub alpha_inside : (adj a : SymEnds) (r s : RowEnds) (j : Axis) → SymInside adj a → RowInside r s → IsInside (alpha_of adj r j) (alpha_of a s j)
unfolding alpha_of inner_of
alpha_inside adj a r s j v w =
    narrow76_isotone refl _
    (sum_inside (sum_inside (sum_inside (product_inside (v.entries j East) (w.parts East)) (product_inside (v.entries j North) (w.parts North))) (product_inside (v.entries j Up) (w.parts Up))) (product_inside (v.entries j Clock) (w.parts Clock)))
