-- The sums over the rows of the program, row by row.
use Rattle.std.specs.Prelude.{◌≡◌, ℕ, zero, suc, pos, ◌+◌, ◌*◌, ◌^◌, ◌<◌, ◌≤◌, ◌-ℤ◌, ◌≤ℤ◌, List, [], ◌∷◌, length, slice_index_or, take, refl}
use Rattle.std.proofs.Common.{arith, ap, sym, subst, ◌∙◌}
use Rattle.std.proofs.lemmas.Int.{ints}
use Rattle.raim_model.specs.Geometry.{Axis, East, North, Up, Clock}
use Rattle.fix_interval.specs.Ends.{Ends, IsInside}
use Rattle.fix_interval.specs.Sums.{add_of}
use Rattle.fix_interval.specs.Intervals.{ends, IsWithin}
use Rattle.fix_interval.specs.declared.interval.Iv.{Iv}
use Rattle.geometry_laws.specs.Without.{without}
use Rattle.fix_interval.specs.Ranges.{around, point}
use Rattle.geom_laws.specs.Rows.{RowWithin}
use Rattle.geom_laws.specs.Symmetric.{SymEnds, entry, all_ends, SymWithin}
use Rattle.geom_laws.specs.Gram.{product_of, sum_of, tabulated, sums_of}
use Rattle.fix_interval.proofs.EndInsides.{inside_trans, wider_range}
use Rattle.geom_laws.proofs.Grams.{add-swap, add-assoc, add-exchange}
use Rattle.geom_laws.proofs.Bounds.{part_square, few_within, sum_within, sums_within, length_without, all_without}
use Rattle.geom_inverse.specs.declared.row.Row.{Row}
use Rattle.geom_inverse.specs.Views.{row_ends, rows_ends, sym_sum}
use Rattle.geom_inverse.proofs.Spans.{rows_within, rows_length, iv_weaken}

-- matrices are equal where their entries are
pub same_sym : {a b : SymEnds} → a.a11 ≡ b.a11 → a.a12 ≡ b.a12 → a.a13 ≡ b.a13 → a.a14 ≡ b.a14 → a.a22 ≡ b.a22 → a.a23 ≡ b.a23 → a.a24 ≡ b.a24 → a.a33 ≡ b.a33 → a.a34 ≡ b.a34 → a.a44 ≡ b.a44 → a ≡ b
same_sym p1 p2 p3 p4 p5 p6 p7 p8 p9 p10 = λ i. record { a11 = p1 i; a12 = p2 i; a13 = p3 i; a14 = p4 i; a22 = p5 i; a23 = p6 i; a24 = p7 i; a33 = p8 i; a34 = p9 i; a44 = p10 i }

-- ---- one row more
next_sum : (rows : List Row) (n : ℕ) (d : Row) (j k : Axis) → n < length rows → sum_of (rows_ends (take (suc n) rows)) j k ≡ add_of (sum_of (rows_ends (take n rows)) j k) (product_of (row_ends (slice_index_or rows n d)) j k)
unfolding sum_of
next_sum [] n d j k p = absurd (omega (arith, p))
next_sum (r ∷ rs) zero d j k p = add-swap (product_of (row_ends r) j k) (point (pos 0))
next_sum (r ∷ rs) (suc n) d j k p =
    ap (λ t. add_of (product_of (row_ends r) j k) t) (next_sum rs n d j k (omega (arith, p)))
    ∙ sym (add-assoc (product_of (row_ends r) j k) (sum_of (rows_ends (take n rs)) j k) (product_of (row_ends (slice_index_or rs n d)) j k))

pub next_sums : (rows : List Row) (n : ℕ) (d : Row) → n < length rows → sums_of (rows_ends (take (suc n) rows)) ≡ sym_sum (sums_of (rows_ends (take n rows))) (tabulated (product_of (row_ends (slice_index_or rows n d))))
unfolding sums_of
next_sums rows n d p = same_sym (next_sum rows n d East East p) (next_sum rows n d East North p) (next_sum rows n d East Up p) (next_sum rows n d East Clock p) (next_sum rows n d North North p) (next_sum rows n d North Up p) (next_sum rows n d North Clock p) (next_sum rows n d Up Up p) (next_sum rows n d Up Clock p) (next_sum rows n d Clock Clock p)

-- the same of a row that stands at place n
pub next_row : (rows : List Row) (n : ℕ) (r : Row) → n < length rows → r ≡ slice_index_or rows n r → sums_of (rows_ends (take (n + 1) rows)) ≡ sym_sum (sums_of (rows_ends (take n rows))) (tabulated (product_of (row_ends r)))
next_row rows n r p e =
    let one : n + 1 ≡ suc n = omega arith in
    ap (λ m. sums_of (rows_ends (take m rows))) one
    ∙ next_sums rows n r p
    ∙ ap (λ (t : Row). sym_sum (sums_of (rows_ends (take n rows))) (tabulated (product_of (row_ends t)))) (sym e)

-- ---- one row less
pub less_sum : (rows : List Row) (i : ℕ) (d : Row) (j k : Axis) → i < length rows → sum_of (rows_ends rows) j k ≡ add_of (product_of (row_ends (slice_index_or rows i d)) j k) (sum_of (without i (rows_ends rows)) j k)
unfolding sum_of without
less_sum [] i d j k p = absurd (omega (arith, p))
less_sum (r ∷ rs) zero d j k p = refl
less_sum (r ∷ rs) (suc i) d j k p =
    ap (λ t. add_of (product_of (row_ends r) j k) t) (less_sum rs i d j k (omega (arith, p)))
    ∙ add-exchange (product_of (row_ends r) j k) (product_of (row_ends (slice_index_or rs i d)) j k) (sum_of (without i (rows_ends rs)) j k)

-- the same of a row that stands at place i
pub less_row : (rows : List Row) (i : ℕ) (r : Row) (j k : Axis) → i < length rows → r ≡ slice_index_or rows i r → sum_of (rows_ends rows) j k ≡ add_of (product_of (row_ends r) j k) (sum_of (without i (rows_ends rows)) j k)
less_row rows i r j k p e = less_sum rows i r j k p ∙ ap (λ (t : Row). add_of (product_of (row_ends t) j k) (sum_of (without i (rows_ends rows)) j k)) (sym e)

-- the ends of a sum keep their order, also without a row
pub left_ordered : (rows : List Row) (i : ℕ) (j k : Axis) → (sum_of (without i (rows_ends rows)) j k).lo ≤ℤ (sum_of (without i (rows_ends rows)) j k).hi
left_ordered rows i j k = (sum_within (without i (rows_ends rows)) j k (all_without (λ r. RowWithin r (2 ^ 38 + 1)) i (rows_ends rows) (rows_within rows))).ordered

-- the sums without a row
pub left_within : (rows : List Row) (i : ℕ) → length rows ≤ 32 → SymWithin (sums_of (without i (rows_ends rows))) (2 ^ 82)
left_within rows i h =
    let l = rows_length rows in
    let m = length_without i (rows_ends rows) in
    sums_within (without i (rows_ends rows)) (omega (arith, h)) (all_without (λ r. RowWithin r (2 ^ 38 + 1)) i (rows_ends rows) (rows_within rows))

-- and so do the differences, end by end
pub in_order : (a p : Iv) {l : Ends} → ends a ≡ add_of (ends p) l → l.lo ≤ℤ l.hi → (a.lo -ℤ p.lo) ≤ℤ (a.hi -ℤ p.hi)
unfolding add_of
in_order a p {l} e o =
    let f = ap (λ (t : Ends). t.lo) e in
    let g = ap (λ (t : Ends). t.hi) e in
    omega (arith, ints)

-- a sum over at most 32 rows
pub all_small : {a : Iv} (rows : List Row) (j k : Axis) → length rows ≤ 32 → ends a ≡ sum_of (rows_ends rows) j k → IsWithin a (2 ^ 120)
all_small {a} rows j k h e =
    let l = rows_length rows in
    iv_weaken (32 * part_square) (2 ^ 120) (omega arith) (subst (λ (t : Ends). IsInside t (around (32 * part_square))) (sym e) (few_within (rows_ends rows) j k (omega (arith, h)) (rows_within rows)))

pub length_take : (n : ℕ) (rows : List Row) → length (take n rows) ≤ length rows
length_take zero rows = omega arith
length_take (suc n) [] = omega arith
length_take (suc n) (r ∷ rs) = let h = length_take n rs in omega arith

-- the sums over the rows so far
pub taken_within : (n : ℕ) (rows : List Row) → length rows ≤ 32 → SymWithin (sums_of (rows_ends (take n rows))) (2 ^ 82)
taken_within n rows h =
    let l = rows_length (take n rows) in
    let m = length_take n rows in
    sums_within (rows_ends (take n rows)) (omega (arith, h)) (rows_within (take n rows))

pub sym_weaken : {h : SymEnds} (m n : ℕ) → m ≤ n → SymWithin h m → SymWithin h n
sym_weaken {h} m n k v = record { entries = at }
  where
    more : (j i : Axis) → IsInside (entry (all_ends (around m)) j i) (entry (all_ends (around n)) j i)
    more East East = wider_range m n k
    more East North = wider_range m n k
    more East Up = wider_range m n k
    more East Clock = wider_range m n k
    more North East = wider_range m n k
    more North North = wider_range m n k
    more North Up = wider_range m n k
    more North Clock = wider_range m n k
    more Up East = wider_range m n k
    more Up North = wider_range m n k
    more Up Up = wider_range m n k
    more Up Clock = wider_range m n k
    more Clock East = wider_range m n k
    more Clock North = wider_range m n k
    more Clock Up = wider_range m n k
    more Clock Clock = wider_range m n k

    at : (j i : Axis) → IsInside (entry h j i) (entry (all_ends (around n)) j i)
    at j i = inside_trans (v.entries j i) (more j i)
