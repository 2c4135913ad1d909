-- The magnitudes of each step, for at most 32 rows: each is that of the widest intervals, which is computed.
use Rattle.std.specs.Prelude.{◌≡◌, ℕ, zero, suc, pos, ◌+◌, ◌*◌, ◌^◌, ◌≤◌, List, [], ◌∷◌, length, All, refl}
use Rattle.std.proofs.Common.{arith}
use Rattle.std.proofs.lemmas.Int.{ints}
use Rattle.raim_model.specs.Geometry.{Axis, East, North, Up, Clock}
use Rattle.fix_interval.specs.Ends.{Ends, IsInside}
use Rattle.fix_interval.specs.Sums.{add_of, sub_of, neg_of}
use Rattle.fix_interval.specs.Products.{mul_wide_of, sqr_wide_of, narrow76_of}
use Rattle.fix_interval.proofs.EndProducts.{mul_wide_isotone, narrow76_isotone}
use Rattle.fix_interval.proofs.EndSquares.{sqr_wide_isotone}
use Rattle.geometry_laws.specs.Without.{without}
use Rattle.fix_interval.specs.Ranges.{around}
use Rattle.geom_laws.specs.Rows.{RowEnds, RowWithin}
use Rattle.geom_laws.specs.Symmetric.{SymEnds, entry, all_ends, SymWithin}
use Rattle.geom_laws.specs.Gram.{product_of, sum_of, sums_of, gram_of, gram_without_of}
use Rattle.geom_laws.specs.Determinant.{crossed_of, minor_of, laplace_of, det_of}
use Rattle.geom_laws.specs.Adjugate.{along_of, minor3_of, adjugate_of, inner_of, alpha_of, horizontal_of, vertical_of}
use Rattle.fix_interval.proofs.EndInsides.{inside_trans, wider_range}
use Rattle.geom_laws.proofs.Minors.{sum_inside as sum_of_two_inside, crossed_inside, minor_inside, det_inside}
use Rattle.geom_laws.proofs.Adjugates.{along_inside, adjugate_inside, alpha_inside}
use Rattle.geom_laws.proofs.Grams.{part_product_inside, tabulated_inside}

-- ---- the widest row, and the widest matrices
abbrev pub widest_row : RowEnds
widest_row = record { e = around (2 ^ 38 + 1); n = around (2 ^ 38 + 1); u = around (2 ^ 38 + 1); k = around (2 ^ 38 + 1) }

abbrev pub widest : SymEnds
widest = all_ends (around (2 ^ 43 + 2 ^ 7))

abbrev pub widest_adjugate : SymEnds
widest_adjugate = all_ends (around (13 * 2 ^ 52))

-- ---- sums over rows
-- the square of the greatest part
abbrev pub part_square : ℕ
part_square = (2 ^ 38 + 1) * (2 ^ 38 + 1)

product_widest : (j k : Axis) → IsInside (product_of widest_row j k) (around part_square)
unfolding product_of mul_wide_of sqr_wide_of
product_widest East East = record { low = record { le = tt }; ordered = record { le = tt }; high = record { le = tt } }
product_widest East North = record { low = record { le = tt }; ordered = record { le = tt }; high = record { le = tt } }
product_widest East Up = record { low = record { le = tt }; ordered = record { le = tt }; high = record { le = tt } }
product_widest East Clock = record { low = record { le = tt }; ordered = record { le = tt }; high = record { le = tt } }
product_widest North East = record { low = record { le = tt }; ordered = record { le = tt }; high = record { le = tt } }
product_widest North North = record { low = record { le = tt }; ordered = record { le = tt }; high = record { le = tt } }
product_widest North Up = record { low = record { le = tt }; ordered = record { le = tt }; high = record { le = tt } }
product_widest North Clock = record { low = record { le = tt }; ordered = record { le = tt }; high = record { le = tt } }
product_widest Up East = record { low = record { le = tt }; ordered = record { le = tt }; high = record { le = tt } }
product_widest Up North = record { low = record { le = tt }; ordered = record { le = tt }; high = record { le = tt } }
product_widest Up Up = record { low = record { le = tt }; ordered = record { le = tt }; high = record { le = tt } }
product_widest Up Clock = record { low = record { le = tt }; ordered = record { le = tt }; high = record { le = tt } }
product_widest Clock East = record { low = record { le = tt }; ordered = record { le = tt }; high = record { le = tt } }
product_widest Clock North = record { low = record { le = tt }; ordered = record { le = tt }; high = record { le = tt } }
product_widest Clock Up = record { low = record { le = tt }; ordered = record { le = tt }; high = record { le = tt } }
product_widest Clock Clock = record { low = record { le = tt }; ordered = record { le = tt }; high = record { le = tt } }

pub product_within : (r : RowEnds) (j k : Axis) → RowWithin r (2 ^ 38 + 1) → IsInside (product_of r j k) (around part_square)
product_within r j k v = inside_trans (part_product_inside r widest_row v j k) (product_widest j k)

-- a sum of two
pub add_within : {a b : Ends} (m n : ℕ) → IsInside a (around m) → IsInside b (around n) → IsInside (add_of a b) (around (m + n))
unfolding add_of
add_within {a} {b} m n p q = record { low = omega (arith, ints); ordered = omega (arith, ints); high = omega (arith, ints) }

-- each row adds at most one square
pub sum_within : (rows : List RowEnds) (j k : Axis) → All (λ r. RowWithin r (2 ^ 38 + 1)) rows → IsInside (sum_of rows j k) (around (length rows * part_square))
unfolding sum_of
sum_within [] j k v = record { low = record { le = tt }; ordered = record { le = tt }; high = record { le = tt } }
sum_within (r ∷ rs) j k v =
    inside_trans (add_within part_square (length rs * part_square) (product_within r j k (v 0 r (omega arith))) (sum_within rs j k (λ i d p. v (suc i) d (omega (arith, p)))))
    (wider_range (part_square + length rs * part_square) (length (r ∷ rs) * part_square) (omega arith))

-- of 32 rows
pub few_within : (rows : List RowEnds) (j k : Axis) → length rows ≤ 32 → All (λ r. RowWithin r (2 ^ 38 + 1)) rows → IsInside (sum_of rows j k) (around (32 * part_square))
few_within rows j k h v = inside_trans (sum_within rows j k v) (wider_range (length rows * part_square) (32 * part_square) (omega (arith, h)))

sums_widest : IsInside (around (32 * part_square)) (around (2 ^ 82))
sums_widest = record { low = record { le = tt }; ordered = record { le = tt }; high = record { le = tt } }

-- the sums of at most 32 rows
pub sums_within : (rows : List RowEnds) → length rows ≤ 32 → All (λ r. RowWithin r (2 ^ 38 + 1)) rows → SymWithin (sums_of rows) (2 ^ 82)
unfolding sums_of
sums_within rows h v = tabulated_inside (sum_of rows) (λ j k. around (2 ^ 82)) (λ j k. inside_trans (few_within rows j k h v) sums_widest)

rounded_widest : IsInside (narrow76_of (around (32 * part_square))) (around (2 ^ 43 + 2 ^ 7))
unfolding narrow76_of
rounded_widest = record { low = record { le = tt }; ordered = record { le = tt }; high = record { le = tt } }

-- ---- the normal matrix
pub gram_within : (rows : List RowEnds) → length rows ≤ 32 → All (λ r. RowWithin r (2 ^ 38 + 1)) rows → SymWithin (gram_of rows) (2 ^ 43 + 2 ^ 7)
unfolding gram_of sums_of
gram_within rows h v = tabulated_inside (λ j k. narrow76_of (sum_of rows j k)) (λ j k. around (2 ^ 43 + 2 ^ 7)) (λ j k. inside_trans (narrow76_isotone refl (around (32 * part_square)) (few_within rows j k h v)) rounded_widest)

-- a list without an entry is no longer
pub length_without : {A : Type 0} (i : ℕ) (xs : List A) → length (without i xs) ≤ length xs
unfolding without
length_without i [] = omega arith
length_without zero (x ∷ xs) = omega arith
length_without (suc i) (x ∷ xs) = let h = length_without i xs in omega arith

-- and what all entries are, those left are
pub all_without : {A : Type 0} (P : A → Type 0) (i : ℕ) (xs : List A) → All P xs → All P (without i xs)
unfolding without
all_without P i [] v = v
all_without P zero (x ∷ xs) v = λ k d p. v (suc k) d (omega (arith, p))
all_without P (suc i) (x ∷ xs) v = step (all_without P i xs (λ k d p. v (suc k) d (omega (arith, p))))
  where
    step : All P (without i xs) → All P (x ∷ without i xs)
    step rest zero d p = v 0 d (omega arith)
    step rest (suc k) d p = rest k d (omega (arith, p))

pub gram_without_within : (rows : List RowEnds) (i : ℕ) → length rows ≤ 32 → All (λ r. RowWithin r (2 ^ 38 + 1)) rows → SymWithin (gram_without_of rows i) (2 ^ 43 + 2 ^ 7)
unfolding gram_without_of
gram_without_within rows i h v =
    let l = length_without i rows in
    gram_within (without i rows) (omega (arith, h)) (all_without (λ r. RowWithin r (2 ^ 38 + 1)) i rows v)

-- ---- the determinant
-- every entry of the widest matrix is one interval
widest_entry : (j k : Axis) → entry widest j k ≡ around (2 ^ 43 + 2 ^ 7)
widest_entry East East = refl
widest_entry East North = refl
widest_entry East Up = refl
widest_entry East Clock = refl
widest_entry North East = refl
widest_entry North North = refl
widest_entry North Up = refl
widest_entry North Clock = refl
widest_entry Up East = refl
widest_entry Up North = refl
widest_entry Up Up = refl
widest_entry Up Clock = refl
widest_entry Clock East = refl
widest_entry Clock North = refl
widest_entry Clock Up = refl
widest_entry Clock Clock = refl

crossed_widest : IsInside (crossed_of (around (2 ^ 43 + 2 ^ 7)) (around (2 ^ 43 + 2 ^ 7)) (around (2 ^ 43 + 2 ^ 7)) (around (2 ^ 43 + 2 ^ 7))) (around (2 ^ 49 + 2 ^ 16))
unfolding crossed_of sub_of mul_wide_of narrow76_of
crossed_widest = record { low = record { le = tt }; ordered = record { le = tt }; high = record { le = tt } }

-- a two by two minor of such entries
pub crossed_within : {a b c d : Ends} → IsInside a (around (2 ^ 43 + 2 ^ 7)) → IsInside b (around (2 ^ 43 + 2 ^ 7)) → IsInside c (around (2 ^ 43 + 2 ^ 7)) → IsInside d (around (2 ^ 43 + 2 ^ 7))
    → IsInside (crossed_of a b c d) (around (2 ^ 49 + 2 ^ 16))
crossed_within p q r s = inside_trans (crossed_inside p q r s) crossed_widest

minor_widest : (p q j k : Axis) → IsInside (minor_of widest p q j k) (around (2 ^ 49 + 2 ^ 16))
unfolding minor_of
minor_widest p q j k = rw (widest_entry p j, widest_entry q k, widest_entry p k, widest_entry q j) crossed_widest

pub minor_within : (h : SymEnds) (p q j k : Axis) → SymWithin h (2 ^ 43 + 2 ^ 7) → IsInside (minor_of h p q j k) (around (2 ^ 49 + 2 ^ 16))
minor_within h p q j k v = inside_trans (minor_inside h widest v p q j k) (minor_widest p q j k)

det_widest : IsInside (det_of widest) (around (7 * 2 ^ 60))
unfolding det_of laplace_of minor_of crossed_of add_of sub_of mul_wide_of narrow76_of
det_widest = record { low = record { le = tt }; ordered = record { le = tt }; high = record { le = tt } }

pub det_within : (h : SymEnds) → SymWithin h (2 ^ 43 + 2 ^ 7) → IsInside (det_of h) (around (7 * 2 ^ 60))
det_within h v = inside_trans (det_inside h widest v) det_widest

product_of_dets : IsInside (mul_wide_of (around (7 * 2 ^ 60)) (around (7 * 2 ^ 60))) (around (49 * 2 ^ 120))
unfolding mul_wide_of
product_of_dets = record { low = record { le = tt }; ordered = record { le = tt }; high = record { le = tt } }

pub det_product_within : (a b : Ends) → IsInside a (around (7 * 2 ^ 60)) → IsInside b (around (7 * 2 ^ 60)) → IsInside (mul_wide_of a b) (around (49 * 2 ^ 120))
det_product_within a b p q = inside_trans (mul_wide_isotone refl (around (7 * 2 ^ 60)) (around (7 * 2 ^ 60)) p q) product_of_dets

-- ---- the adjugate
along_widest : IsInside (along_of (around (2 ^ 43 + 2 ^ 7)) (around (2 ^ 43 + 2 ^ 7)) (around (2 ^ 43 + 2 ^ 7)) (around (2 ^ 49 + 2 ^ 16)) (around (2 ^ 49 + 2 ^ 16)) (around (2 ^ 49 + 2 ^ 16))) (around (13 * 2 ^ 52))
unfolding along_of add_of sub_of mul_wide_of narrow76_of
along_widest = record { low = record { le = tt }; ordered = record { le = tt }; high = record { le = tt } }

-- a three by three minor along its first row
pub along_within : {b1 b2 b3 m1 m2 m3 : Ends} → IsInside b1 (around (2 ^ 43 + 2 ^ 7)) → IsInside b2 (around (2 ^ 43 + 2 ^ 7)) → IsInside b3 (around (2 ^ 43 + 2 ^ 7))
    → IsInside m1 (around (2 ^ 49 + 2 ^ 16)) → IsInside m2 (around (2 ^ 49 + 2 ^ 16)) → IsInside m3 (around (2 ^ 49 + 2 ^ 16)) → IsInside (along_of b1 b2 b3 m1 m2 m3) (around (13 * 2 ^ 52))
along_within p1 p2 p3 q1 q2 q3 = inside_trans (along_inside p1 p2 p3 q1 q2 q3) along_widest

adjugate_widest : (j k : Axis) → IsInside (entry (adjugate_of widest) j k) (entry widest_adjugate j k)
unfolding adjugate_of minor3_of along_of neg_of minor_of crossed_of add_of sub_of mul_wide_of narrow76_of
adjugate_widest East East = record { low = record { le = tt }; ordered = record { le = tt }; high = record { le = tt } }
adjugate_widest East North = record { low = record { le = tt }; ordered = record { le = tt }; high = record { le = tt } }
adjugate_widest East Up = record { low = record { le = tt }; ordered = record { le = tt }; high = record { le = tt } }
adjugate_widest East Clock = record { low = record { le = tt }; ordered = record { le = tt }; high = record { le = tt } }
adjugate_widest North East = record { low = record { le = tt }; ordered = record { le = tt }; high = record { le = tt } }
adjugate_widest North North = record { low = record { le = tt }; ordered = record { le = tt }; high = record { le = tt } }
adjugate_widest North Up = record { low = record { le = tt }; ordered = record { le = tt }; high = record { le = tt } }
adjugate_widest North Clock = record { low = record { le = tt }; ordered = record { le = tt }; high = record { le = tt } }
adjugate_widest Up East = record { low = record { le = tt }; ordered = record { le = tt }; high = record { le = tt } }
adjugate_widest Up North = record { low = record { le = tt }; ordered = record { le = tt }; high = record { le = tt } }
adjugate_widest Up Up = record { low = record { le = tt }; ordered = record { le = tt }; high = record { le = tt } }
adjugate_widest Up Clock = record { low = record { le = tt }; ordered = record { le = tt }; high = record { le = tt } }
adjugate_widest Clock East = record { low = record { le = tt }; ordered = record { le = tt }; high = record { le = tt } }
adjugate_widest Clock North = record { low = record { le = tt }; ordered = record { le = tt }; high = record { le = tt } }
adjugate_widest Clock Up = record { low = record { le = tt }; ordered = record { le = tt }; high = record { le = tt } }
adjugate_widest Clock Clock = record { low = record { le = tt }; ordered = record { le = tt }; high = record { le = tt } }

pub adjugate_within : (h : SymEnds) → SymWithin h (2 ^ 43 + 2 ^ 7) → SymWithin (adjugate_of h) (13 * 2 ^ 52)
adjugate_within h v = record { entries = λ j k. inside_trans ((adjugate_inside h widest v).entries j k) (adjugate_widest j k) }

-- ---- what a row has of it
alpha_widest : (j : Axis) → IsInside (alpha_of widest_adjugate widest_row j) (around (7 * 2 ^ 55))
unfolding alpha_of inner_of add_of mul_wide_of narrow76_of
alpha_widest East = record { low = record { le = tt }; ordered = record { le = tt }; high = record { le = tt } }
alpha_widest North = record { low = record { le = tt }; ordered = record { le = tt }; high = record { le = tt } }
alpha_widest Up = record { low = record { le = tt }; ordered = record { le = tt }; high = record { le = tt } }
alpha_widest Clock = record { low = record { le = tt }; ordered = record { le = tt }; high = record { le = tt } }

pub alpha_within : (adj : SymEnds) (r : RowEnds) (j : Axis) → SymWithin adj (13 * 2 ^ 52) → RowWithin r (2 ^ 38 + 1) → IsInside (alpha_of adj r j) (around (7 * 2 ^ 55))
alpha_within adj r j v w = inside_trans (alpha_inside adj widest_adjugate r widest_row j v w) (alpha_widest j)

horizontal_widest : IsInside (horizontal_of (around (7 * 2 ^ 55)) (around (7 * 2 ^ 55))) record { lo = pos 0; hi = pos (2 ^ 79) }
unfolding horizontal_of add_of sqr_wide_of narrow76_of
horizontal_widest = record { low = record { le = tt }; ordered = record { le = tt }; high = record { le = tt } }

-- the sum of two squares
pub horizontal_inside : (a b c d : Ends) → IsInside a c → IsInside b d → IsInside (horizontal_of a b) (horizontal_of c d)
unfolding horizontal_of
horizontal_inside a b c d p q = narrow76_isotone refl _ (sum_of_two_inside (sqr_wide_isotone refl c p) (sqr_wide_isotone refl d q))

pub horizontal_within : (a b : Ends) → IsInside a (around (7 * 2 ^ 55)) → IsInside b (around (7 * 2 ^ 55)) → IsInside (horizontal_of a b) record { lo = pos 0; hi = pos (2 ^ 79) }
horizontal_within a b p q = inside_trans (horizontal_inside a b (around (7 * 2 ^ 55)) (around (7 * 2 ^ 55)) p q) horizontal_widest

vertical_widest : IsInside (vertical_of (around (7 * 2 ^ 55))) record { lo = pos 0; hi = pos (2 ^ 79) }
unfolding vertical_of sqr_wide_of narrow76_of
vertical_widest = record { low = record { le = tt }; ordered = record { le = tt }; high = record { le = tt } }

-- a square
vertical_inside : (a c : Ends) → IsInside a c → IsInside (vertical_of a) (vertical_of c)
unfolding vertical_of
vertical_inside a c p = narrow76_isotone refl _ (sqr_wide_isotone refl c p)

pub vertical_within : (a : Ends) → IsInside a (around (7 * 2 ^ 55)) → IsInside (vertical_of a) record { lo = pos 0; hi = pos (2 ^ 79) }
vertical_within a p = inside_trans (vertical_inside a (around (7 * 2 ^ 55)) p) vertical_widest
