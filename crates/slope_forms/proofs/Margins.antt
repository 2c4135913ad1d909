-- What the sign of a margin tells of the written comparison.
use Rattle.std.specs.Prelude.{◌≡◌, ◌≢◌, ℕ, ℤ, pos, ◌^◌, ◌<◌, ◌+ℤ◌, ◌-ℤ◌, ◌*ℤ◌, ◌≤ℤ◌, ◌<ℤ◌, Bool, true, false, if◌then◌else◌, [], ◌∷◌, Some, refl}
use Rattle.std.proofs.Common.{arith, ◌⊎◌, inl, inr}
use Rattle.std.proofs.lemmas.Int.{ints, by_lt_z}
use Rattle.std.proofs.lemmas.Nat.{pow_pos}
use Rattle.std.proofs.lemmas.Bool.{cases_Bool}
use lib.Signed.{le_z, lt_z}
use Rattle.whole_numbers.specs.Rounding.{floor_of, ceil_of}
use Rattle.whole_numbers.proofs.Integers.{not_negative_natural, ≤ℤ_trans}
use Rattle.whole_numbers.proofs.Divisions.{floor_of_low, ceil_of_high}
use Rattle.whole_numbers.proofs.Quote.{quote}
use Rattle.whole_numbers.proofs.Certificates.{at_most, not_negative}
use Rattle.raim_model.specs.declared.verdict.Why.TheVariants as why
use Rattle.fix_interval.specs.Ends.{Ends}
use Rattle.fix_interval.specs.Sums.{sub_of}
use Rattle.fix_interval.specs.Products.{narrow76_of}
use Rattle.slope_laws.specs.declared.outcome.Outcome.TheVariants.{Passes, Fails, Straddles, Overflows}
use Rattle.slope_laws.specs.ShiftSlopes.{compared}
use Rattle.time_forms.specs.Forms.{Form, IsTime, Holds, least_of, greatest_of}
use Rattle.time_forms.proofs.FormSpans.{holds_lo, holds_hi, least_low, greatest_high}
use Rattle.slope_forms.specs.Told.{Told, passing, failing, unknown, TellsOutcome}
use Rattle.slope_forms.specs.Slopes.{margin_told}

-- ---- rounded products in order have products in order
in_order : (c f x y k : ℤ) → pos 0 ≤ℤ k → c ≤ℤ f → x ≤ℤ (c *ℤ k) → (f *ℤ k) ≤ℤ y → x ≤ℤ y
in_order c f x y k p o l u = at_most (c ∷ f ∷ x ∷ y ∷ k ∷ []) (((y -ℤ f *ℤ k) +ℤ (f -ℤ c) *ℤ k) +ℤ (c *ℤ k -ℤ x)) (search not_negative) (search quote depth 20) tt

apart : (c f x y k : ℤ) → pos 0 ≤ℤ k → pos 1 ≤ℤ k → (c +ℤ pos 1) ≤ℤ f → x ≤ℤ (c *ℤ k) → (f *ℤ k) ≤ℤ y → (x +ℤ pos 1) ≤ℤ y
apart c f x y k p s o l u = at_most (c ∷ f ∷ x ∷ y ∷ k ∷ []) ((((y -ℤ f *ℤ k) +ℤ (f -ℤ (c +ℤ pos 1)) *ℤ k) +ℤ (c *ℤ k -ℤ x)) +ℤ (k -ℤ pos 1)) (search not_negative) (search quote depth 20) tt

rounded_order : (x y : ℤ) → ceil_of x (2 ^ 38) ≤ℤ floor_of y (2 ^ 38) → x ≤ℤ y
rounded_order x y o = in_order (ceil_of x (2 ^ 38)) (floor_of y (2 ^ 38)) x y (pos (2 ^ 38)) (not_negative_natural (2 ^ 38)) o (ceil_of_high x (2 ^ 38) (pow_pos 38)) (floor_of_low y (2 ^ 38) (pow_pos 38))

one_place : pos 1 ≤ℤ pos (2 ^ 38)
one_place = record { le = tt }

rounded_apart : (x y : ℤ) → (ceil_of x (2 ^ 38) +ℤ pos 1) ≤ℤ floor_of y (2 ^ 38) → (x +ℤ pos 1) ≤ℤ y
rounded_apart x y o = apart (ceil_of x (2 ^ 38)) (floor_of y (2 ^ 38)) x y (pos (2 ^ 38)) (not_negative_natural (2 ^ 38)) one_place o (ceil_of_high x (2 ^ 38) (pow_pos 38)) (floor_of_low y (2 ^ 38) (pow_pos 38))

-- ---- the tests as truth values
pub le_z_case : (y z : ℤ) → ((le_z y z ≡ true) × (y ≤ℤ z)) ⊎ ((le_z y z ≡ false) × (z <ℤ y))
le_z_case y z = by_lt_z z y (λ h. inr (grind (arith, ints), h)) (λ h. inl (grind (arith, ints), h))

pub lt_z_case : (y z : ℤ) → ((lt_z y z ≡ true) × (y <ℤ z)) ⊎ ((lt_z y z ≡ false) × (z ≤ℤ y))
lt_z_case y z = by_lt_z y z (λ h. inl (grind (arith, ints), h)) (λ h. inr (grind (arith, ints), h))

pub le_z_is : (y z : ℤ) → y ≤ℤ z → le_z y z ≡ true
le_z_is y z h = grind (arith, ints)

pub le_z_not : (y z : ℤ) → z <ℤ y → le_z y z ≡ false
le_z_not y z h = grind (arith, ints)

pub lt_z_is : (y z : ℤ) → y <ℤ z → lt_z y z ≡ true
lt_z_is y z h = grind (arith, ints)

pub lt_z_not : (y z : ℤ) → z ≤ℤ y → lt_z y z ≡ false
lt_z_not y z h = grind (arith, ints)

-- ---- what is compared
passes_so : (l r : Ends) → l.hi ≤ℤ r.lo → compared (Some l) r ≡ Passes
passes_so l r h = rw (le_z_is l.hi r.lo h) refl

fails_so : (l r : Ends) → l.lo ≤ℤ l.hi → r.lo ≤ℤ r.hi → r.hi <ℤ l.lo → compared (Some l) r ≡ Fails
fails_so l r i j h = rw (le_z_not l.hi r.lo (omega (arith, ints)), lt_z_is r.hi l.lo h) refl

calm_so : (l r : Ends) → compared (Some l) r ≢ Overflows
calm_so l r = calm (le_z l.hi r.lo) (lt_z r.hi l.lo)
  where
    calm : (t u : Bool) → (if t then Passes else if u then Fails else Straddles) ≢ Overflows
    calm true u e = cc
    calm false true e = cc
    calm false false e = cc

-- the margin's least is not negative: the written comparison passes
passed : {h : ℕ} {d : ℤ} (m : Form) (l r : Ends) → IsTime h d → Holds h d m (sub_of (narrow76_of r) (narrow76_of l)) → pos 0 ≤ℤ least_of m → l.hi ≤ℤ r.lo
unfolding sub_of narrow76_of
passed {h} {d} m l r t p o =
    let q = least_low m (floor_of r.lo (2 ^ 38) -ℤ ceil_of l.hi (2 ^ 38)) t (holds_lo p) in
    rounded_order l.hi r.lo (back (ceil_of l.hi (2 ^ 38)) (floor_of r.lo (2 ^ 38)) (least_of m) o q)
  where
    back : (c f n : ℤ) → pos 0 ≤ℤ n → n ≤ℤ (f -ℤ c) → c ≤ℤ f
    back c f n o q = omega (arith, ints)

-- its greatest is negative: the written comparison fails
failed : {h : ℕ} {d : ℤ} (m : Form) (l r : Ends) → IsTime h d → Holds h d m (sub_of (narrow76_of r) (narrow76_of l)) → greatest_of m <ℤ pos 0 → r.hi <ℤ l.lo
unfolding sub_of narrow76_of
failed {h} {d} m l r t p o =
    let q = greatest_high m (ceil_of r.hi (2 ^ 38) -ℤ floor_of l.lo (2 ^ 38)) t (holds_hi p) in
    strict r.hi l.lo (rounded_apart r.hi l.lo (back (ceil_of r.hi (2 ^ 38)) (floor_of l.lo (2 ^ 38)) (greatest_of m) o q))
  where
    back : (c f n : ℤ) → n <ℤ pos 0 → (c -ℤ f) ≤ℤ n → (c +ℤ pos 1) ≤ℤ f
    back c f n o q = omega (arith, ints)

    strict : (x y : ℤ) → (x +ℤ pos 1) ≤ℤ y → x <ℤ y
    strict x y o = omega (arith, ints)

pub margin_tells : {h : ℕ} {d : ℤ} (m : Form) (l r : Ends) → IsTime h d → l.lo ≤ℤ l.hi → r.lo ≤ℤ r.hi → Holds h d m (sub_of (narrow76_of r) (narrow76_of l))
    → TellsOutcome (margin_told m) (compared (Some l) r)
margin_tells m l r t i j p = elim (le_z_case (pos 0) (least_of m)) [
  | inl e ↦ rw e.0 (passes_so l r (passed m l r t p e.1))
  | inr e ↦ elim (lt_z_case (greatest_of m) (pos 0)) [
    | inl f ↦ rw (e.0, f.0) (refl, fails_so l r i j (failed m l r t p f.1))
    | inr f ↦ rw (e.0, f.0) (calm_so l r)
  ]
]
