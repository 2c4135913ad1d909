-- The test of the slopes of either shift encloses, and is isotone.
use Rattle.std.specs.Prelude.{◌≡◌, ◌≢◌, ℤ, ◌≤ℤ◌, ◌<ℤ◌, Bool, true, false, if◌then◌else◌, ◌⊎◌, List, [], ◌∷◌, Some, None, is_some, refl}
use Rattle.std.specs.declared.option.Option.{Option}
use Rattle.std.proofs.Common.{arith, ap, sym, ◌∙◌, subst, inl, inr}
use Rattle.std.proofs.lemmas.Int.{ints, by_lt_z}
use Rattle.std.proofs.lemmas.Bool.{cases_Bool}
use lib.Signed.{le_z, lt_z}
use Rattle.fractions.specs.Fraction.{Fraction, ◌+ᶠ◌, ◌*ᶠ◌}
use Rattle.raim_model.specs.Geometry.{East, North, Up, Row, Matrix, normal_matrix, determinant, apply}
use Rattle.fix_interval.specs.Ends.{Ends, IsInside}
use Rattle.fix_interval.specs.Lies.{Lies}
use Rattle.fix_interval.specs.Products.{mul_wide_of, checked_mul_of, sqr_wide_of}
use Rattle.fix_interval.specs.Sums.{add_of}
use Rattle.fix_interval.proofs.EndBounds.{below_encloses, strictly_below_encloses}
use Rattle.fix_interval.proofs.EndProducts.{narrow76_encloses, narrow76_isotone}
use Rattle.fix_interval.proofs.EndSquares.{sqr_wide_encloses, sqr_wide_isotone}
use Rattle.geometry_laws.specs.Minors.{adjugate}
use Rattle.geometry_laws.specs.Shifts.{IsSquare}
use Rattle.geometry_laws.proofs.Shifts.{horizontal_square, vertical_square}
use Rattle.geom_laws.specs.Rows.{RowEnds, RowLies, RowInside, RowsLie, RowsInside}
use Rattle.geom_laws.specs.Symmetric.{SymEnds, SymLies, SymInside}
use Rattle.geom_laws.specs.Gram.{gram_of}
use Rattle.geom_laws.specs.Adjugate.{adjugate_of, alpha_of, horizontal_of, vertical_of}
use Rattle.geom_laws.proofs.Minors.{product_lies, sum_lies, product_inside, sum_inside, det_lies, det_inside}
use Rattle.geom_laws.proofs.Grams.{gram_lies, gram_inside}
use Rattle.geom_laws.proofs.Adjugates.{adjugate_lies, adjugate_inside, alpha_lies, alpha_inside}
use Rattle.slope_laws.specs.Rows.{NamedRow, NamedRowsLie, NamedInside, NamedRowsInside}
use Rattle.slope_laws.specs.declared.outcome.Outcome.TheVariants.{Passes, Fails, Straddles, Overflows}
use Rattle.slope_laws.specs.declared.shift.Shift.{Shift}
use Rattle.slope_laws.specs.declared.shift.Shift.TheVariants.{Horizontal, Vertical}
use Rattle.slope_laws.specs.ShiftSlopes.{squared_shift, squared_of, compared, outcome_of, ends_of, determinant_of, slopes_for}
use Rattle.slope_laws.specs.Hold.{Certifies, LeavesOutcome, HoldsSlopes}
use Rattle.fix_interval.proofs.CheckedProducts.{checked_isotone}

pub plain_lies : (rows : List NamedRow) (gs : List Row) → NamedRowsLie rows gs → RowsLie (ends_of rows) gs
plain_lies [] [] h = tt
plain_lies (r ∷ rs) (g ∷ gs) h = (h.0, plain_lies rs gs h.1)
plain_lies [] (g ∷ gs) h = absurd h
plain_lies (r ∷ rs) [] h = absurd h

pub plain_inside : (rows wide : List NamedRow) → NamedRowsInside rows wide → RowsInside (ends_of rows) (ends_of wide)
plain_inside [] [] h = tt
plain_inside (r ∷ rs) (w ∷ ws) h = let i : NamedInside r w = h.0 in (i.inside, plain_inside rs ws h.1)
plain_inside [] (w ∷ ws) h = absurd h
plain_inside (r ∷ rs) [] h = absurd h

pub determinant_lies : (rows : List NamedRow) (gs : List Row) → NamedRowsLie rows gs → Lies (determinant_of (ends_of rows)) 38 (determinant (normal_matrix gs))
unfolding determinant_of
determinant_lies rows gs h = det_lies (gram_of (ends_of rows)) (normal_matrix gs) (gram_lies (ends_of rows) gs (plain_lies rows gs h))

pub determinant_inside : (rows wide : List NamedRow) → NamedRowsInside rows wide → IsInside (determinant_of (ends_of rows)) (determinant_of (ends_of wide))
unfolding determinant_of
determinant_inside rows wide h = det_inside (gram_of (ends_of rows)) (gram_of (ends_of wide)) (gram_inside (ends_of rows) (ends_of wide) (plain_inside rows wide h))

horizontal_lies : (a b : Ends) (x y : Fraction) → Lies a 38 x → Lies b 38 y → Lies (horizontal_of a b) 38 (x *ᶠ x +ᶠ y *ᶠ y)
unfolding horizontal_of
horizontal_lies a b x y p q = narrow76_encloses refl 38 (x *ᶠ x +ᶠ y *ᶠ y) (sum_lies (sqr_wide_encloses refl 38 x p) (sqr_wide_encloses refl 38 y q))

horizontal_inside : (a b c d : Ends) → IsInside a c → IsInside b d → IsInside (horizontal_of a b) (horizontal_of c d)
unfolding horizontal_of
horizontal_inside a b c d p q =
    narrow76_isotone refl (add_of (sqr_wide_of c) (sqr_wide_of d)) (sum_inside (sqr_wide_isotone refl c p) (sqr_wide_isotone refl d q))

vertical_lies : (a : Ends) (x : Fraction) → Lies a 38 x → Lies (vertical_of a) 38 (x *ᶠ x)
unfolding vertical_of
vertical_lies a x p = narrow76_encloses refl 38 (x *ᶠ x) (sqr_wide_encloses refl 38 x p)

vertical_inside : (a b : Ends) → IsInside a b → IsInside (vertical_of a) (vertical_of b)
unfolding vertical_of
vertical_inside a b p = narrow76_isotone refl (sqr_wide_of b) (sqr_wide_isotone refl b p)

-- the squared shift of a row
squared_lies : (shift : Shift) (adj : SymEnds) (row : RowEnds) (X : Matrix) (g : Row) → SymLies adj X → RowLies row g → Lies (squared_of shift adj row) 38 (squared_shift shift X g)
squared_lies Horizontal adj row X g a r =
    horizontal_lies (alpha_of adj row East) (alpha_of adj row North) (apply X g East) (apply X g North) (alpha_lies adj row X g East a r) (alpha_lies adj row X g North a r)
squared_lies Vertical adj row X g a r = vertical_lies (alpha_of adj row Up) (apply X g Up) (alpha_lies adj row X g Up a r)

squared_inside : (shift : Shift) (adj wide : SymEnds) (row wide_row : RowEnds) → SymInside adj wide → RowInside row wide_row → IsInside (squared_of shift adj row) (squared_of shift wide wide_row)
squared_inside Horizontal adj wide row wide_row a r =
    horizontal_inside (alpha_of adj row East) (alpha_of adj row North) (alpha_of wide wide_row East) (alpha_of wide wide_row North) (alpha_inside adj wide row wide_row East a r) (alpha_inside adj wide row wide_row North a r)
squared_inside Vertical adj wide row wide_row a r = vertical_inside (alpha_of adj row Up) (alpha_of wide wide_row Up) (alpha_inside adj wide row wide_row Up a r)

shift_square : (shift : Shift) → IsSquare (squared_shift shift)
shift_square Horizontal = horizontal_square
shift_square Vertical = vertical_square

-- ---- the comparison
le_z_holds : (y z : ℤ) → le_z y z ≡ true → y ≤ℤ z
le_z_holds y z e = by_lt_z z y (λ h. absurd (let f : le_z y z ≡ false = grind (arith, ints) in let g : true ≡ false = sym e ∙ f in cc)) (λ h. h)

lt_z_holds : (y z : ℤ) → lt_z y z ≡ true → y <ℤ z
lt_z_holds y z e = by_lt_z y z (λ h. h) (λ h. absurd (let f : lt_z y z ≡ false = grind (arith, ints) in let g : true ≡ false = sym e ∙ f in cc))

pub checked_lies : (a b : Ends) (p : Ends) → checked_mul_of a b ≡ Some p → p ≡ mul_wide_of a b
unfolding checked_mul_of
checked_lies a b p e = pick _ p (mul_wide_of a b) e
  where
    pick : (t : Bool) (p q : Ends) → (if t then Some q else None) ≡ Some p → p ≡ q
    pick true p q e = cc
    pick false p q e = cc

pub compared_certifies : (o : Option Ends) (right : Ends) (x y : Fraction) → ((p : Ends) → o ≡ Some p → Lies p 76 x) → Lies right 76 y → Certifies (compared o right) x y
compared_certifies None right x y l r = tt
compared_certifies (Some p) right x y l r = elim (cases_Bool (le_z p.hi right.lo)) [
  | inl e ↦ rw e (below_encloses {a = p} {b = right} (le_z_holds p.hi right.lo e) 76 x y (l p refl) r)
  | inr e ↦ elim (cases_Bool (lt_z right.hi p.lo)) [
    | inl f ↦ rw (e, f) (strictly_below_encloses {a = right} {b = p} (lt_z_holds right.hi p.lo f) 76 y x r (l p refl))
    | inr f ↦ rw (e, f) tt
  ]
]

outcome_lies : (shift : Shift) (adj : SymEnds) (d d_less : Ends) (row : RowEnds) (kappa : Ends) (X : Matrix) (x y : Fraction) (g : Row) (k : Fraction)
    → SymLies adj X → Lies d 38 x → Lies d_less 38 y → RowLies row g → Lies kappa 38 k → Certifies (outcome_of shift adj d d_less row kappa) (k *ᶠ squared_shift shift X g) (x *ᶠ y)
unfolding outcome_of
outcome_lies shift adj d d_less row kappa X x y g k a p q r l =
    let h : Lies (squared_of shift adj row) 38 (squared_shift shift X g) = squared_lies shift adj row X g a r in
    compared_certifies (checked_mul_of kappa (squared_of shift adj row)) (mul_wide_of d d_less) (k *ᶠ squared_shift shift X g) (x *ᶠ y)
    (λ t e. subst (λ s. Lies s 76 (k *ᶠ squared_shift shift X g)) (sym (checked_lies kappa (squared_of shift adj row) t e)) (product_lies l h))
    (product_lies p q)

some_or_none : (o : Option Ends) → ((p : Ends) × (o ≡ Some p)) ⊎ (o ≡ None)
some_or_none None = inr refl
some_or_none (Some p) = inl (p, refl)

compared_inside : (a b r s : Ends) → IsInside a b → IsInside r s → LeavesOutcome (compared (Some b) s) (compared (Some a) r)
compared_inside a b r s p q =
    let low = p.low in let high = p.high in let ordered = p.ordered in
    let right_low = q.low in let right_high = q.high in let right_ordered = q.ordered in
    elim (cases_Bool (le_z b.hi s.lo)) [
      | inl e ↦
          let h : b.hi ≤ℤ s.lo = le_z_holds b.hi s.lo e in
          let f : le_z a.hi r.lo ≡ true = le_z_is a.hi r.lo (omega (arith, ints)) in
          rw (e, f) refl
      | inr e ↦ elim (cases_Bool (lt_z s.hi b.lo)) [
        | inl f ↦
            let h : s.hi <ℤ b.lo = lt_z_holds s.hi b.lo f in
            let g : le_z a.hi r.lo ≡ false = le_z_not a.hi r.lo (omega (arith, ints)) in
            let k : lt_z r.hi a.lo ≡ true = lt_z_is r.hi a.lo (omega (arith, ints)) in
            rw (e, f, g, k) refl
        | inr f ↦ rw (e, f) (calm (le_z a.hi r.lo) (lt_z r.hi a.lo))
      ]
    ]
  where
    le_z_is : (y z : ℤ) → y ≤ℤ z → le_z y z ≡ true
    le_z_is y z h = grind (arith, ints)

    le_z_not : (y z : ℤ) → z <ℤ y → le_z y z ≡ false
    le_z_not y z h = grind (arith, ints)

    lt_z_is : (y z : ℤ) → y <ℤ z → lt_z y z ≡ true
    lt_z_is y z h = grind (arith, ints)

    calm : (t u : Bool) → (if t then Passes else if u then Fails else Straddles) ≢ Overflows
    calm true u e = cc
    calm false true e = cc
    calm false false e = cc

pub checked_leaves : (a b c d r s : Ends) → IsInside a c → IsInside b d → IsInside r s → LeavesOutcome (compared (checked_mul_of c d) s) (compared (checked_mul_of a b) r)
checked_leaves a b c d r s p q i = elim (some_or_none (checked_mul_of c d)) [
  | inl h ↦
      let e : checked_mul_of c d ≡ Some (mul_wide_of c d) = h.1 ∙ ap Some (checked_lies c d h.0 h.1) in
      let f : checked_mul_of a b ≡ Some (mul_wide_of a b) = checked_isotone a b c d p q (ap is_some e) in
      rw (e, f) (compared_inside (mul_wide_of a b) (mul_wide_of c d) r s (product_inside p q) i)
  | inr e ↦ rw e tt
]

outcome_leaves : (shift : Shift) (adj wide : SymEnds) (d d_less e e_less : Ends) (row wide_row : RowEnds) (kappa wide_kappa : Ends)
    → SymInside adj wide → IsInside d e → IsInside d_less e_less → RowInside row wide_row → IsInside kappa wide_kappa
    → LeavesOutcome (outcome_of shift wide e e_less wide_row wide_kappa) (outcome_of shift adj d d_less row kappa)
unfolding outcome_of
outcome_leaves shift adj wide d d_less e e_less row wide_row kappa wide_kappa a p q r k =
    checked_leaves kappa (squared_of shift adj row) wide_kappa (squared_of shift wide wide_row) (mul_wide_of d d_less) (mul_wide_of e e_less) k
    (squared_inside shift adj wide row wide_row a r) (product_inside p q)

pub shift_holds : (shift : Shift) → HoldsSlopes (squared_shift shift) (slopes_for shift)
unfolding slopes_for
shift_holds shift = record {
  square = shift_square shift;
  determinant_encloses = determinant_lies;
  determinant_isotone = determinant_inside;
  outcome_certifies = λ rows x kappa gs g rest k l r m n.
      outcome_lies shift (adjugate_of (gram_of (ends_of rows))) (determinant_of (ends_of rows)) (determinant_of (ends_of x.rest)) x.row.ends kappa (adjugate (normal_matrix gs)) (determinant (normal_matrix gs)) (determinant (normal_matrix rest)) g k
      (adjugate_lies (gram_of (ends_of rows)) (normal_matrix gs) (gram_lies (ends_of rows) gs (plain_lies rows gs l)))
      (determinant_lies rows gs l) (determinant_lies x.rest rest m) r n;
  outcome_isotone = λ rows wide x y kappa wide_kappa i r s k.
      outcome_leaves shift (adjugate_of (gram_of (ends_of rows))) (adjugate_of (gram_of (ends_of wide))) (determinant_of (ends_of rows)) (determinant_of (ends_of x.rest)) (determinant_of (ends_of wide)) (determinant_of (ends_of y.rest)) x.row.ends y.row.ends kappa wide_kappa
      (adjugate_inside (gram_of (ends_of rows)) (gram_of (ends_of wide)) (gram_inside (ends_of rows) (ends_of wide) (plain_inside rows wide i)))
      (determinant_inside rows wide i) (determinant_inside x.rest y.rest s) r.inside k;
}
