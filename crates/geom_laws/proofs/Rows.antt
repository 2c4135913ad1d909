-- Rows of ends: a direction, and a direction times a weight.
use Rattle.std.specs.Prelude.{◌≡◌, ℤ, pos, ◌+◌, ◌^◌, ◌*ℤ◌, ◌≤ℤ◌, refl}
use Rattle.std.proofs.Common.{arith, ap, sym, subst, ◌∙◌}
use Rattle.std.proofs.lemmas.Int.{ints, clamps}
use Rattle.std.proofs.lemmas.Nat.{pow_pos}
use Rattle.std.specs.Int.{int_min, int_max}
use Rattle.whole_numbers.specs.Rounding.{floor_of, ceil_of}
use Rattle.std.proofs.Math.IntN.{*ℤ_comm}
use Rattle.whole_numbers.proofs.Integers.{≤ℤ_refl}
use Rattle.whole_numbers.proofs.Products.{*ℤ_mono_right}
use Rattle.whole_numbers.proofs.Divisions.{floor_of-multiple, ceil_of-multiple}
use Rattle.fractions.specs.Fraction.{Fraction, oneᶠ, ◌*ᶠ◌}
use Rattle.fractions.proofs.Laws.{*ᶠ_one}
use Rattle.fractions.proofs.Quote.{quote}
use Rattle.fractions.proofs.Certificates.{constants}
use Rattle.raim_model.specs.Geometry.{Axis, East, North, Up, Clock, row_of, weighed}
use Rattle.fix_interval.specs.Ends.{Ends, IsInside}
use Rattle.fix_interval.specs.Lies.{Lies}
use Rattle.fix_interval.specs.Products.{mul_wide_of, narrow76_of, mul_of}
use Rattle.fix_interval.proofs.EndSums.{same_ends}
use Rattle.fix_interval.proofs.EndProducts.{mul_encloses, mul_isotone}
use Rattle.fix_interval.specs.Ranges.{around, one_ends}
use Rattle.geom_laws.specs.Rows.{RowEnds, part, row_of_ends, weighed_of, RowLies, RowInside, RowWithin}
use Rattle.fix_interval.proofs.EndInsides.{inside_trans, inside_self}

-- ---- the weight 1
pub one_lies : Lies one_ends 38 oneᶠ
one_lies = record { low = constants (search quote depth 20) tt; high = constants (search quote depth 20) tt }

pub row_lies : {e n u : Ends} {x y z : Fraction} → Lies e 38 x → Lies n 38 y → Lies u 38 z → RowLies (row_of_ends e n u) (row_of x y z)
unfolding row_of_ends
row_lies {e} {n} {u} {x} {y} {z} p q r = record { parts = at }
  where
    at : (j : Axis) → Lies (part record { e = e; n = n; u = u; k = one_ends } j) 38 (row_of x y z j)
    at East = p
    at North = q
    at Up = r
    at Clock = one_lies

pub row_inside : {e n u a b c : Ends} → IsInside e a → IsInside n b → IsInside u c → RowInside (row_of_ends e n u) (row_of_ends a b c)
unfolding row_of_ends
row_inside {e} {n} {u} {a} {b} {c} p q r = record { parts = at }
  where
    at : (j : Axis) → IsInside (part record { e = e; n = n; u = u; k = one_ends } j) (part record { e = a; n = b; u = c; k = one_ends } j)
    at East = p
    at North = q
    at Up = r
    at Clock = inside_self one_ends (≤ℤ_refl (pos (2 ^ 38)))

-- ---- any weight
pub weighed_lies : {e n u k : Ends} {x y z w : Fraction} → Lies e 38 x → Lies n 38 y → Lies u 38 z → Lies k 38 w → RowLies (weighed_of e n u k) (weighed w (row_of x y z))
unfolding weighed_of
weighed_lies {e} {n} {u} {k} {x} {y} {z} {w} p q r s = record { parts = at }
  where
    at : (j : Axis) → Lies (part record { e = mul_of k e; n = mul_of k n; u = mul_of k u; k = k } j) 38 (w *ᶠ row_of x y z j)
    at East = mul_encloses refl w x s p
    at North = mul_encloses refl w y s q
    at Up = mul_encloses refl w z s r
    at Clock = subst (λ t. Lies k 38 t) (sym (*ᶠ_one w)) s

pub weighed_inside : {e n u k a b c d : Ends} → IsInside e a → IsInside n b → IsInside u c → IsInside k d → RowInside (weighed_of e n u k) (weighed_of a b c d)
unfolding weighed_of
weighed_inside {e} {n} {u} {k} {a} {b} {c} {d} p q r s = record { parts = at }
  where
    at : (j : Axis) → IsInside (part record { e = mul_of k e; n = mul_of k n; u = mul_of k u; k = k } j) (part record { e = mul_of d a; n = mul_of d b; u = mul_of d c; k = d } j)
    at East = mul_isotone refl d a s p
    at North = mul_isotone refl d b s q
    at Up = mul_isotone refl d c s r
    at Clock = s

-- a part times a weight is no greater
part_widest : IsInside (mul_of record { lo = pos 0; hi = pos (2 ^ 38) } (around (2 ^ 38 + 1))) (around (2 ^ 38 + 1))
unfolding mul_of mul_wide_of narrow76_of
part_widest = record { low = record { le = tt }; ordered = record { le = tt }; high = record { le = tt } }

pub part_within : {e k : Ends} → IsInside k record { lo = pos 0; hi = pos (2 ^ 38) } → IsInside e (around (2 ^ 38 + 1)) → IsInside (mul_of k e) (around (2 ^ 38 + 1))
part_within {e} {k} p q = inside_trans (mul_isotone refl record { lo = pos 0; hi = pos (2 ^ 38) } (around (2 ^ 38 + 1)) p q) part_widest

-- a weight is within 1
pub weight_within : {k : Ends} → IsInside k record { lo = pos 0; hi = pos (2 ^ 38) } → IsInside k (around (2 ^ 38 + 1))
weight_within p = inside_trans p record { low = record { le = tt }; ordered = record { le = tt }; high = record { le = tt } }

pub weighed_within : {e n u k : Ends} → IsInside e (around (2 ^ 38 + 1)) → IsInside n (around (2 ^ 38 + 1)) → IsInside u (around (2 ^ 38 + 1)) → IsInside k record { lo = pos 0; hi = pos (2 ^ 38) } → RowWithin (weighed_of e n u k) (2 ^ 38 + 1)
unfolding weighed_of
weighed_within {e} {n} {u} {k} p q r s = record { parts = at }
  where
    at : (j : Axis) → IsInside (part record { e = mul_of k e; n = mul_of k n; u = mul_of k u; k = k } j) (part record { e = around (2 ^ 38 + 1); n = around (2 ^ 38 + 1); u = around (2 ^ 38 + 1); k = around (2 ^ 38 + 1) } j)
    at East = part_within s p
    at North = part_within s q
    at Up = part_within s r
    at Clock = weight_within s

-- the least and the greatest of four products with one factor
least_of_two : (p q : ℤ) → p ≤ℤ q → int_min (int_min p q) (int_min p q) ≡ p
least_of_two p q h = omega (arith, ints, clamps)

greatest_of_two : (p q : ℤ) → p ≤ℤ q → int_max (int_max p q) (int_max p q) ≡ q
greatest_of_two p q h = omega (arith, ints, clamps)

not_negative_one : pos 0 ≤ℤ pos (2 ^ 38)
not_negative_one = record { le = tt }

-- 1 times a part is the part
pub one_times : (a : Ends) → a.lo ≤ℤ a.hi → mul_of one_ends a ≡ a
unfolding mul_of mul_wide_of narrow76_of
one_times a o =
    let h = *ℤ_mono_right a.lo a.hi (pos (2 ^ 38)) not_negative_one o in
    same_ends
    (ap (λ z. floor_of z (2 ^ 38)) (least_of_two (pos (2 ^ 38) *ℤ a.lo) (pos (2 ^ 38) *ℤ a.hi) h ∙ *ℤ_comm (pos (2 ^ 38)) a.lo) ∙ floor_of-multiple a.lo (2 ^ 38) (pow_pos 38))
    (ap (λ z. ceil_of z (2 ^ 38)) (greatest_of_two (pos (2 ^ 38) *ℤ a.lo) (pos (2 ^ 38) *ℤ a.hi) h ∙ *ℤ_comm (pos (2 ^ 38)) a.hi) ∙ ceil_of-multiple a.hi (2 ^ 38) (pow_pos 38))

-- rows are equal where their parts are
pub same_row : {r s : RowEnds} → r.e ≡ s.e → r.n ≡ s.n → r.u ≡ s.u → r.k ≡ s.k → r ≡ s
same_row p q r s = λ i. record { e = p i; n = q i; u = r i; k = s i }

-- the weight 1 changes nothing
pub weighed-one : (e n u : Ends) → e.lo ≤ℤ e.hi → n.lo ≤ℤ n.hi → u.lo ≤ℤ u.hi → weighed_of e n u one_ends ≡ row_of_ends e n u
unfolding weighed_of row_of_ends
weighed-one e n u p q r = same_row (one_times e p) (one_times n q) (one_times u r) refl
