-- Normal matrices of ends hold those of fractions, and are isotone.
use Rattle.std.specs.Prelude.{◌≡◌, ℕ, zero, suc, pos, ◌<◌, List, [], ◌∷◌, ◌++◌, length, slice_index_or, refl}
use Rattle.std.proofs.Common.{arith, ap, sym, subst, ◌∙◌}
use Rattle.std.proofs.lemmas.Int.{ints}
use Rattle.whole_numbers.proofs.Integers.{≤ℤ_refl}
use Rattle.fractions.specs.Fraction.{◌*ᶠ◌}
use Rattle.raim_model.specs.Geometry.{Axis, East, North, Up, Clock, Row, Matrix, normal_matrix}
use Rattle.fix_interval.specs.Ends.{Ends, IsInside}
use Rattle.fix_interval.specs.Lies.{Lies}
use Rattle.fix_interval.specs.Sums.{add_of}
use Rattle.fix_interval.specs.Products.{narrow76_of}
use Rattle.fix_interval.proofs.EndSums.{same_ends}
use Rattle.fix_interval.proofs.EndSquares.{sqr_wide_encloses, sqr_wide_isotone}
use Rattle.fix_interval.proofs.EndProducts.{narrow76_encloses, narrow76_isotone}
use Rattle.geometry_laws.specs.Without.{without}
use Rattle.geometry_laws.proofs.Minors.{normal-symmetric}
use Rattle.fix_interval.specs.Ranges.{point}
use Rattle.geom_laws.specs.Rows.{RowEnds, part, RowLies, RowInside, RowsLie, RowsInside}
use Rattle.geom_laws.specs.Symmetric.{entry, SymLies, SymInside}
use Rattle.geom_laws.specs.Gram.{product_of, sum_of, tabulated, sums_of, gram_of, gram_without_of}
use Rattle.fix_interval.proofs.EndInsides.{inside_self}
use Rattle.geom_laws.proofs.Minors.{product_lies, sum_lies as sum_of_two_lies, product_inside, sum_inside as sum_of_two_inside}
use Rattle.geom_laws.proofs.Adjugates.{zero_lies}

-- ---- sums of ends
pub add-swap : (a b : Ends) → add_of a b ≡ add_of b a
unfolding add_of
add-swap a b = same_ends (omega (arith, ints)) (omega (arith, ints))

pub add-assoc : (a b c : Ends) → add_of (add_of a b) c ≡ add_of a (add_of b c)
unfolding add_of
add-assoc a b c = same_ends (omega (arith, ints)) (omega (arith, ints))

pub add-exchange : (a b c : Ends) → add_of a (add_of b c) ≡ add_of b (add_of a c)
unfolding add_of
add-exchange a b c = same_ends (omega (arith, ints)) (omega (arith, ints))

-- ---- a product of two parts
pub part_product_lies : (r : RowEnds) (g : Row) → RowLies r g → (j k : Axis) → Lies (product_of r j k) 76 (g j *ᶠ g k)
unfolding product_of
part_product_lies r g v East East = sqr_wide_encloses refl 38 (g East) (v.parts East)
part_product_lies r g v East North = product_lies (v.parts East) (v.parts North)
part_product_lies r g v East Up = product_lies (v.parts East) (v.parts Up)
part_product_lies r g v East Clock = product_lies (v.parts East) (v.parts Clock)
part_product_lies r g v North East = product_lies (v.parts North) (v.parts East)
part_product_lies r g v North North = sqr_wide_encloses refl 38 (g North) (v.parts North)
part_product_lies r g v North Up = product_lies (v.parts North) (v.parts Up)
part_product_lies r g v North Clock = product_lies (v.parts North) (v.parts Clock)
part_product_lies r g v Up East = product_lies (v.parts Up) (v.parts East)
part_product_lies r g v Up North = product_lies (v.parts Up) (v.parts North)
part_product_lies r g v Up Up = sqr_wide_encloses refl 38 (g Up) (v.parts Up)
part_product_lies r g v Up Clock = product_lies (v.parts Up) (v.parts Clock)
part_product_lies r g v Clock East = product_lies (v.parts Clock) (v.parts East)
part_product_lies r g v Clock North = product_lies (v.parts Clock) (v.parts North)
part_product_lies r g v Clock Up = product_lies (v.parts Clock) (v.parts Up)
part_product_lies r g v Clock Clock = sqr_wide_encloses refl 38 (g Clock) (v.parts Clock)

pub part_product_inside : (r s : RowEnds) → RowInside r s → (j k : Axis) → IsInside (product_of r j k) (product_of s j k)
unfolding product_of
part_product_inside r s v East East = sqr_wide_isotone refl (part s East) (v.parts East)
part_product_inside r s v East North = product_inside (v.parts East) (v.parts North)
part_product_inside r s v East Up = product_inside (v.parts East) (v.parts Up)
part_product_inside r s v East Clock = product_inside (v.parts East) (v.parts Clock)
part_product_inside r s v North East = product_inside (v.parts North) (v.parts East)
part_product_inside r s v North North = sqr_wide_isotone refl (part s North) (v.parts North)
part_product_inside r s v North Up = product_inside (v.parts North) (v.parts Up)
part_product_inside r s v North Clock = product_inside (v.parts North) (v.parts Clock)
part_product_inside r s v Up East = product_inside (v.parts Up) (v.parts East)
part_product_inside r s v Up North = product_inside (v.parts Up) (v.parts North)
part_product_inside r s v Up Up = sqr_wide_isotone refl (part s Up) (v.parts Up)
part_product_inside r s v Up Clock = product_inside (v.parts Up) (v.parts Clock)
part_product_inside r s v Clock East = product_inside (v.parts Clock) (v.parts East)
part_product_inside r s v Clock North = product_inside (v.parts Clock) (v.parts North)
part_product_inside r s v Clock Up = product_inside (v.parts Clock) (v.parts Up)
part_product_inside r s v Clock Clock = sqr_wide_isotone refl (part s Clock) (v.parts Clock)

-- ---- the sums over the rows
pub sum_lies : (rows : List RowEnds) (gs : List Row) → RowsLie rows gs → (j k : Axis) → Lies (sum_of rows j k) 76 (normal_matrix gs j k)
unfolding sum_of normal_matrix
sum_lies [] [] v j k = zero_lies 76
sum_lies [] (g ∷ gs) v j k = absurd v
sum_lies (r ∷ rs) [] v j k = absurd v
sum_lies (r ∷ rs) (g ∷ gs) (v, w) j k = sum_of_two_lies (part_product_lies r g v j k) (sum_lies rs gs w j k)

pub sum_inside : (rows wider : List RowEnds) → RowsInside rows wider → (j k : Axis) → IsInside (sum_of rows j k) (sum_of wider j k)
unfolding sum_of
sum_inside [] [] v j k = inside_self (point (pos 0)) (≤ℤ_refl (pos 0))
sum_inside [] (s ∷ ss) v j k = absurd v
sum_inside (r ∷ rs) [] v j k = absurd v
sum_inside (r ∷ rs) (s ∷ ss) (v, w) j k = sum_of_two_inside (part_product_inside r s v j k) (sum_inside rs ss w j k)

-- the sum with one row more, added last
pub sum-snoc : (rows : List RowEnds) (r : RowEnds) (j k : Axis) → sum_of (rows ++ r ∷ []) j k ≡ add_of (sum_of rows j k) (product_of r j k)
unfolding sum_of
sum-snoc [] r j k = add-swap (product_of r j k) (point (pos 0))
sum-snoc (s ∷ ss) r j k = ap (λ t. add_of (product_of s j k) t) (sum-snoc ss r j k) ∙ sym (add-assoc (product_of s j k) (sum_of ss j k) (product_of r j k))

-- the sum is that without a row, and the row's product
pub sum-without : (rows : List RowEnds) (i : ℕ) (d : RowEnds) (j k : Axis) → i < length rows → sum_of rows j k ≡ add_of (product_of (slice_index_or rows i d) j k) (sum_of (without i rows) j k)
unfolding sum_of without
sum-without [] i d j k p = absurd (omega (arith, p))
sum-without (s ∷ ss) zero d j k p = refl
sum-without (s ∷ ss) (suc i) d j k p =
    ap (λ t. add_of (product_of s j k) t) (sum-without ss i d j k (omega (arith, p)))
    ∙ add-exchange (product_of s j k) (product_of (slice_index_or ss i d) j k) (sum_of (without i ss) j k)

-- ---- the matrix
-- a symmetric matrix lies in ends whose entries on and above the diagonal hold its own
pub tabulated_lies : (f : Axis → Axis → Ends) (X : Matrix) → ((j k : Axis) → X j k ≡ X k j) → ((j k : Axis) → Lies (f j k) 38 (X j k)) → SymLies (tabulated f) X
tabulated_lies f X e v = record { entries = at }
  where
    at : (j k : Axis) → Lies (entry (tabulated f) j k) 38 (X j k)
    at East East = v East East
    at East North = v East North
    at East Up = v East Up
    at East Clock = v East Clock
    at North East = subst (λ t. Lies (f East North) 38 t) (e East North) (v East North)
    at North North = v North North
    at North Up = v North Up
    at North Clock = v North Clock
    at Up East = subst (λ t. Lies (f East Up) 38 t) (e East Up) (v East Up)
    at Up North = subst (λ t. Lies (f North Up) 38 t) (e North Up) (v North Up)
    at Up Up = v Up Up
    at Up Clock = v Up Clock
    at Clock East = subst (λ t. Lies (f East Clock) 38 t) (e East Clock) (v East Clock)
    at Clock North = subst (λ t. Lies (f North Clock) 38 t) (e North Clock) (v North Clock)
    at Clock Up = subst (λ t. Lies (f Up Clock) 38 t) (e Up Clock) (v Up Clock)
    at Clock Clock = v Clock Clock

pub tabulated_inside : (f g : Axis → Axis → Ends) → ((j k : Axis) → IsInside (f j k) (g j k)) → SymInside (tabulated f) (tabulated g)
tabulated_inside f g v = record { entries = at }
  where
    at : (j k : Axis) → IsInside (entry (tabulated f) j k) (entry (tabulated g) j k)
    at East East = v East East
    at East North = v East North
    at East Up = v East Up
    at East Clock = v East Clock
    at North East = v East North
    at North North = v North North
    at North Up = v North Up
    at North Clock = v North Clock
    at Up East = v East Up
    at Up North = v North Up
    at Up Up = v Up Up
    at Up Clock = v Up Clock
    at Clock East = v East Clock
    at Clock North = v North Clock
    at Clock Up = v Up Clock
    at Clock Clock = v Clock Clock

pub gram_lies : (rows : List RowEnds) (gs : List Row) → RowsLie rows gs → SymLies (gram_of rows) (normal_matrix gs)
unfolding gram_of sums_of
gram_lies rows gs v = tabulated_lies (λ j k. narrow76_of (sum_of rows j k)) (normal_matrix gs) (normal-symmetric gs) (λ j k. narrow76_encloses refl 38 (normal_matrix gs j k) (sum_lies rows gs v j k))

pub gram_inside : (rows wider : List RowEnds) → RowsInside rows wider → SymInside (gram_of rows) (gram_of wider)
unfolding gram_of sums_of
gram_inside rows wider v = tabulated_inside (λ j k. narrow76_of (sum_of rows j k)) (λ j k. narrow76_of (sum_of wider j k)) (λ j k. narrow76_isotone refl _ (sum_inside rows wider v j k))

-- ---- without a row
rows_lie_without : (rows : List RowEnds) (gs : List Row) (i : ℕ) → RowsLie rows gs → RowsLie (without i rows) (without i gs)
unfolding without
rows_lie_without [] [] i v = v
rows_lie_without [] (g ∷ gs) i v = absurd v
rows_lie_without (r ∷ rs) [] i v = absurd v
rows_lie_without (r ∷ rs) (g ∷ gs) zero (v, w) = w
rows_lie_without (r ∷ rs) (g ∷ gs) (suc i) (v, w) = (v, rows_lie_without rs gs i w)

rows_inside_without : (rows wider : List RowEnds) (i : ℕ) → RowsInside rows wider → RowsInside (without i rows) (without i wider)
unfolding without
rows_inside_without [] [] i v = v
rows_inside_without [] (s ∷ ss) i v = absurd v
rows_inside_without (r ∷ rs) [] i v = absurd v
rows_inside_without (r ∷ rs) (s ∷ ss) zero (v, w) = w
rows_inside_without (r ∷ rs) (s ∷ ss) (suc i) (v, w) = (v, rows_inside_without rs ss i w)

pub gram_without_lies : (rows : List RowEnds) (gs : List Row) (i : ℕ) → RowsLie rows gs → SymLies (gram_without_of rows i) (normal_matrix (without i gs))
unfolding gram_without_of
gram_without_lies rows gs i v = gram_lies (without i rows) (without i gs) (rows_lie_without rows gs i v)

pub gram_without_inside : (rows wider : List RowEnds) (i : ℕ) → RowsInside rows wider → SymInside (gram_without_of rows i) (gram_without_of wider i)
unfolding gram_without_of
gram_without_inside rows wider i v = gram_inside (without i rows) (without i wider) (rows_inside_without rows wider i v)
