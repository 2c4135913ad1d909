-- Intervals within a magnitude, and their products.
use Rattle.std.specs.Prelude.{◌≡◌, ℕ, ℤ, zero, suc, pos, neg_ℤ, ◌+◌, ◌*◌, ◌^◌, ◌≤◌, ◌*ℤ◌, ◌≤ℤ◌, List, [], ◌∷◌, length, All, refl}
use Rattle.std.proofs.Common.{arith, sym, subst}
use Rattle.std.proofs.lemmas.Int.{ints, clamps}
use Rattle.std.proofs.Math.Nat.{mul-le-mul}
use Rattle.std.specs.Int.{int_min, int_max}
use Rattle.whole_numbers.proofs.Quote.{quote, identity}
use Rattle.fix_interval.specs.Ends.{Ends, IsInside}
use Rattle.fix_interval.specs.Intervals.{ends, mag_of, IsWithin, ends_64, IsWithin64}
use Rattle.fix_interval.specs.declared.interval.Iv.{Iv}
use Rattle.fix_interval.specs.Products.{mul_wide_of, sqr_wide_of}
use Rattle.fix_interval.proofs.EndProducts.{mul_wide_isotone}
use Rattle.fix_interval.proofs.EndSquares.{sqr_wide_isotone}
use Rattle.raim_model.specs.Geometry.{Axis, East, North, Up, Clock}
use Rattle.fix_interval.specs.Sums.{add_of, sub_of}
use Rattle.fix_interval.specs.Ranges.{around}
use Rattle.geom_laws.specs.Rows.{part, RowWithin}
use Rattle.geom_laws.specs.Symmetric.{entry, all_ends, SymWithin}
use Rattle.fix_interval.proofs.EndInsides.{inside_trans}
use Rattle.geom_laws.proofs.Rows.{weight_within}
use Rattle.geom_laws.proofs.Bounds.{add_within}
use Rattle.fix_interval.specs.declared.interval_64.Iv64.{Iv64}
use Rattle.geom_inverse.specs.declared.entries.Entries.{Entries}
use Rattle.geom_inverse.specs.declared.row.Row.{Row}
use Rattle.geom_inverse.specs.declared.sym4.Sym4.{Sym4}
use Rattle.geom_inverse.proofs.Squares.{square_mixed}
use Rattle.geom_inverse.specs.Lines.{entries_ends}
use Rattle.geom_inverse.specs.Views.{row_ends, rows_ends, sym_ends, IsSymWithin}

-- ---- between the words of contracts and of the laws
pub short_inside : {a : Iv64} {m : ℕ} → IsWithin64 a m → IsInside (ends_64 a) (around m)
short_inside {a} v = record { low = v.low; ordered = a.ordered; high = v.high }

pub inside_short : {a : Iv64} {m : ℕ} → IsInside (ends_64 a) (around m) → IsWithin64 a m
inside_short v = record { low = v.low; high = v.high }

pub iv_inside : {a : Iv} {m : ℕ} → IsWithin a m → IsInside (ends a) (around m)
iv_inside {a} v = record { low = v.low; ordered = a.ordered; high = v.high }

pub inside_iv : {a : Iv} {m : ℕ} → IsInside (ends a) (around m) → IsWithin a m
inside_iv v = record { low = v.low; high = v.high }

-- ---- products of spans
both_down : (m n : ℕ) → neg_ℤ (pos m) *ℤ neg_ℤ (pos n) ≡ pos (m * n)
both_down m n = identity (pos m ∷ pos n ∷ []) (search quote depth 20) tt

left_down : (m n : ℕ) → neg_ℤ (pos m) *ℤ pos n ≡ neg_ℤ (pos (m * n))
left_down m n = identity (pos m ∷ pos n ∷ []) (search quote depth 20) tt

right_down : (m n : ℕ) → pos m *ℤ neg_ℤ (pos n) ≡ neg_ℤ (pos (m * n))
right_down m n = identity (pos m ∷ pos n ∷ []) (search quote depth 20) tt

none_down : (m n : ℕ) → pos m *ℤ pos n ≡ pos (m * n)
none_down m n = identity (pos m ∷ pos n ∷ []) (search quote depth 20) tt

corners_inside : (k : ℕ) (p q r s : ℤ) → p ≡ pos k → q ≡ neg_ℤ (pos k) → r ≡ neg_ℤ (pos k) → s ≡ pos k → IsInside record { lo = int_min (int_min p q) (int_min r s); hi = int_max (int_max p q) (int_max r s) } (around k)
corners_inside k p q r s a b c d = record { low = omega (arith, ints, clamps); ordered = omega (arith, ints, clamps); high = omega (arith, ints, clamps) }

product_span : (m n : ℕ) → IsInside (mul_wide_of (around m) (around n)) (around (m * n))
unfolding mul_wide_of
product_span m n = corners_inside (m * n) _ _ _ _ (both_down m n) (left_down m n) (right_down m n) (none_down m n)

-- the product of two intervals within m and n is within m n
pub product_within : {a b : Ends} (m n : ℕ) → IsInside a (around m) → IsInside b (around n) → IsInside (mul_wide_of a b) (around (m * n))
product_within m n p q = inside_trans (mul_wide_isotone refl (around m) (around n) p q) (product_span m n)

-- the square of a span, whose least is 0
squares_inside : (k : ℕ) (p q : ℤ) → p ≡ pos k → q ≡ pos k → IsInside record { lo = pos 0; hi = int_max p q } (around k)
squares_inside k p q a b = record { low = omega (arith, ints, clamps); ordered = omega (arith, ints, clamps); high = omega (arith, ints, clamps) }

not_above : (m : ℕ) → neg_ℤ (pos m) ≤ℤ pos 0
not_above m = omega (arith, ints)

not_below : (m : ℕ) → pos 0 ≤ℤ pos m
not_below m = omega (arith, ints)

square_span : (m : ℕ) → IsInside (sqr_wide_of (around m)) (around (m * m))
square_span m = subst (λ (t : Ends). IsInside t (around (m * m))) (sym (square_mixed (around m) (not_above m) (not_below m))) (squares_inside (m * m) _ _ (both_down m m) (none_down m m))

pub square_within : {a : Ends} (m : ℕ) → IsInside a (around m) → IsInside (sqr_wide_of a) (around (m * m))
square_within {a} m p = inside_trans (sqr_wide_isotone refl (around m) p) (square_span m)

-- ---- matrices
pub sym_inside : {h : Sym4} {m : ℕ} → IsSymWithin h m → SymWithin (sym_ends h) m
sym_inside {h} {m} v = record { entries = at }
  where
    at : (j k : Axis) → IsInside (entry (sym_ends h) j k) (entry (all_ends (around m)) j k)
    at East East = iv_inside v.a11
    at East North = iv_inside v.a12
    at East Up = iv_inside v.a13
    at East Clock = iv_inside v.a14
    at North East = iv_inside v.a12
    at North North = iv_inside v.a22
    at North Up = iv_inside v.a23
    at North Clock = iv_inside v.a24
    at Up East = iv_inside v.a13
    at Up North = iv_inside v.a23
    at Up Up = iv_inside v.a33
    at Up Clock = iv_inside v.a34
    at Clock East = iv_inside v.a14
    at Clock North = iv_inside v.a24
    at Clock Up = iv_inside v.a34
    at Clock Clock = iv_inside v.a44

pub entries_within : (h : Entries) → SymWithin (entries_ends h) (2 ^ 43 + 2 ^ 7)
entries_within h = record { entries = at }
  where
    at : (j k : Axis) → IsInside (entry (entries_ends h) j k) (entry (all_ends (around (2 ^ 43 + 2 ^ 7))) j k)
    at East East = short_inside h.a11_small
    at East North = short_inside h.a12_small
    at East Up = short_inside h.a13_small
    at East Clock = short_inside h.a14_small
    at North East = short_inside h.a12_small
    at North North = short_inside h.a22_small
    at North Up = short_inside h.a23_small
    at North Clock = short_inside h.a24_small
    at Up East = short_inside h.a13_small
    at Up North = short_inside h.a23_small
    at Up Up = short_inside h.a33_small
    at Up Clock = short_inside h.a34_small
    at Clock East = short_inside h.a14_small
    at Clock North = short_inside h.a24_small
    at Clock Up = short_inside h.a34_small
    at Clock Clock = short_inside h.a44_small

pub inside_sym : {h : Sym4} {m : ℕ} → SymWithin (sym_ends h) m → IsSymWithin h m
inside_sym {h} {m} v = record {
  a11 = inside_iv (v.entries East East);
  a12 = inside_iv (v.entries East North);
  a13 = inside_iv (v.entries East Up);
  a14 = inside_iv (v.entries East Clock);
  a22 = inside_iv (v.entries North North);
  a23 = inside_iv (v.entries North Up);
  a24 = inside_iv (v.entries North Clock);
  a33 = inside_iv (v.entries Up Up);
  a34 = inside_iv (v.entries Up Clock);
  a44 = inside_iv (v.entries Clock Clock);
}

-- ends that are those of a sum are within the sum of the magnitudes
pub plus_within : {r a b : Ends} (m n : ℕ) → r ≡ add_of a b → IsInside a (around m) → IsInside b (around n) → IsInside r (around (m + n))
plus_within m n e p q = subst (λ (t : Ends). IsInside t (around (m + n))) (sym e) (add_within m n p q)

pub less_within : {r a b : Ends} (m n : ℕ) → r ≡ sub_of a b → IsInside a (around m) → IsInside b (around n) → IsInside r (around (m + n))
unfolding sub_of
less_within {r} {a} {b} m n e p q = rw e record { low = omega (arith, ints); ordered = omega (arith, ints); high = omega (arith, ints) }

-- and within more
pub iv_weaken : {a : Iv} (m n : ℕ) → m ≤ n → IsInside (ends a) (around m) → IsWithin a n
iv_weaken {a} m n h p = record { low = omega (arith, ints); high = omega (arith, ints) }

-- the magnitude of an interval within m
pub mag_small : (a : Iv) (m : ℕ) → IsWithin a m → mag_of a ≤ m
mag_small a m v = let o = a.ordered in omega (arith, ints)

-- a weight
pub weight_inside : (k : Iv) → pos 0 ≤ℤ k.lo → k.hi ≤ℤ pos (2 ^ 38) → IsInside (ends k) record { lo = pos 0; hi = pos (2 ^ 38) }
weight_inside k p q = record { low = p; ordered = k.ordered; high = q }

pub weight_iv : (k : Iv) → pos 0 ≤ℤ k.lo → k.hi ≤ℤ pos (2 ^ 38) → IsWithin k (2 ^ 38 + 1)
weight_iv k p q = inside_iv (weight_within (weight_inside k p q))

-- parts and weights have products that fit
pub products_fit : (a b : Iv) → IsWithin a (2 ^ 38 + 1) → IsWithin b (2 ^ 38 + 1) → mag_of a * mag_of b ≤ 2 ^ 126
products_fit a b p q = omega (arith, mul-le-mul (mag_small a (2 ^ 38 + 1) p) (mag_small b (2 ^ 38 + 1) q))

-- ---- rows
pub row_within : (r : Row) → RowWithin (row_ends r) (2 ^ 38 + 1)
row_within r = record { parts = at }
  where
    at : (j : Axis) → IsInside (part (row_ends r) j) (part record { e = around (2 ^ 38 + 1); n = around (2 ^ 38 + 1); u = around (2 ^ 38 + 1); k = around (2 ^ 38 + 1) } j)
    at East = short_inside r.e_small
    at North = short_inside r.n_small
    at Up = short_inside r.u_small
    at Clock = weight_within record { low = r.k_not_negative; ordered = r.k.ordered; high = r.k_small }

pub rows_within : (rows : List Row) → All (λ r. RowWithin r (2 ^ 38 + 1)) (rows_ends rows)
rows_within [] = λ k d p. absurd (omega (arith, p))
rows_within (r ∷ rs) = step (rows_within rs)
  where
    step : All (λ t. RowWithin t (2 ^ 38 + 1)) (rows_ends rs) → All (λ t. RowWithin t (2 ^ 38 + 1)) (rows_ends (r ∷ rs))
    step v zero d p = row_within r
    step v (suc k) d p = v k d (omega (arith, p))

pub rows_length : (rows : List Row) → length (rows_ends rows) ≡ length rows
rows_length [] = refl
rows_length (r ∷ rs) = let h = rows_length rs in omega arith
