-- What forms tell of a list of rows, for fault detection and for fault exclusion.
use Rattle.std.specs.Prelude.{◌≡◌, ◌≢◌, ℕ, zero, suc, ℤ, pos, ◌+◌, ◌*◌, ◌^◌, ◌≤◌, ◌≤ℤ◌, ◌<ℤ◌, Bool, true, false, if◌then◌else◌, nat_lt, List, [], ◌∷◌, length, map, All, Some, None, refl}
use Rattle.std.specs.declared.option.Option.{Option}
use Rattle.std.proofs.Common.{arith, ap, sym, subst, ◌∙◌, ◌⊎◌, inl, inr}
use Rattle.std.proofs.lemmas.Int.{ints}
use Rattle.std.proofs.lemmas.List.Elements.{All-cons}
use lib.Signed.{lt_z}
use Rattle.raim_model.specs.declared.verdict.Why.{Why}
use Rattle.raim_model.specs.declared.verdict.Why.TheVariants as why
use Rattle.fix_interval.specs.Ends.{Ends, IsInside}
use Rattle.geom_laws.specs.Rows.{RowEnds, RowWithin}
use Rattle.geom_laws.specs.Gram.{gram_of}
use Rattle.geom_laws.specs.Determinant.{det_of}
use Rattle.geom_laws.specs.Adjugate.{adjugate_of}
use Rattle.geom_laws.proofs.Bounds.{gram_within, adjugate_within}
use Rattle.slope_laws.specs.declared.outcome.Outcome.{Outcome}
use Rattle.slope_laws.specs.declared.outcome.Outcome.TheVariants.{Passes, Fails, Straddles, Overflows}
use Rattle.raim_model.specs.declared.verdict.Verdict.{Verdict}
use Rattle.raim_model.specs.declared.verdict.Verdict.TheVariants.{Available, Unavailable, Undecided, Overflow}
use Rattle.slope_laws.specs.declared.shift.Shift.{Shift}
use Rattle.slope_laws.specs.Rows.{NamedRow, Removal, behind, removals}
use Rattle.slope_laws.specs.Slopes.{is_fails, is_straddles, is_overflows, first_such, of_slopes, slopes_of, least_units, of_determinant, detect_by}
use Rattle.slope_laws.specs.ShiftSlopes.{outcome_of, ends_of, determinant_of, slopes_for, detect_of, exclude_of}
use Rattle.slope_laws.specs.Subsets.{named_without, unless_passes, first_open, exclude_by}
use Rattle.time_forms.specs.Forms.{Form, IsTime, Holds, least_of, greatest_of}
use Rattle.time_forms.proofs.FormSpans.{holds_lo, holds_hi, least_low, greatest_high}
use Rattle.geometry_forms.specs.Rows.{RowForm, RowHolds, RowsHold}
use Rattle.geometry_forms.specs.Geometry.{gram_form, det_form, adjugate_form}
use Rattle.slope_forms.specs.Told.{Told, passing, failing, unknown, TellsOutcome, TellsVerdict, both_told, unless_told}
use Rattle.slope_forms.specs.Slopes.{slope_told, RemovalForm, form_behind, form_removals, slopes_told, determinant_told, detect_told, first_told, exclude_told, AreSmall, safe_factors, RemovalHolds, RemovalsHold}
use Rattle.geometry_forms.proofs.Grams.{gram_held}
use Rattle.geometry_forms.proofs.Adjugates.{det_held, adjugate_held}
use Rattle.slope_forms.proofs.Margins.{lt_z_case, lt_z_is, lt_z_not}
use Rattle.slope_forms.proofs.Slopes.{slope_tells}

-- ---- lengths
pub held_length : (h : ℕ) (d : ℤ) (fs : List RowForm) (rows : List NamedRow) → RowsHold h d fs (ends_of rows) → length rows ≡ length fs
held_length h d [] [] v = refl
held_length h d (f ∷ fs) (r ∷ rs) v = ap suc (held_length h d fs rs v.1)
held_length h d [] (r ∷ rs) v = absurd v
held_length h d (f ∷ fs) [] v = absurd v

-- ---- each row with the others
abbrev IsSmallRow : RowEnds → Type 0
IsSmallRow r = RowWithin r (2 ^ 38 + 1)

others_small : (r : NamedRow) (rs : List NamedRow) → All (λ x. RowWithin x (2 ^ 38 + 1)) (ends_of (r ∷ rs)) → All (λ x. RowWithin x (2 ^ 38 + 1)) (ends_of rs)
others_small r rs w = λ i e p. w (suc i) e (omega (arith, p))

behind_hold : (h : ℕ) (d : ℤ) (n : ℕ) (f : RowForm) (r : NamedRow) → RowHolds h d f r.ends → RowWithin r.ends (2 ^ 38 + 1) → (xs : List RemovalForm) (ys : List Removal)
    → RemovalsHold h d n xs ys → RemovalsHold h d (suc n) (map (form_behind f) xs) (map (behind r) ys)
behind_hold h d n f r v w [] [] p = tt
behind_hold h d n f r v w (x ∷ xs) (y ∷ ys) p = let q = p.0 in (
  record { row = q.row; rest = (v, q.rest); row_within = q.row_within; rest_within = All-cons IsSmallRow r.ends (ends_of y.rest) w q.rest_within; others = ap suc q.others },
  behind_hold h d n f r v w xs ys p.1,
)
behind_hold h d n f r v w [] (y ∷ ys) p = absurd p
behind_hold h d n f r v w (x ∷ xs) [] p = absurd p

pub removals_hold : (h : ℕ) (d : ℤ) (fs : List RowForm) (rows : List NamedRow) → RowsHold h d fs (ends_of rows) → All (λ r. RowWithin r (2 ^ 38 + 1)) (ends_of rows)
    → RemovalsHold h d (length (ends_of rows)) (form_removals fs) (removals rows)
removals_hold h d [] [] v w = tt
removals_hold h d (f ∷ fs) (r ∷ rs) v w = (
  record { row = v.0; rest = v.1; row_within = w 0 r.ends (omega arith); rest_within = others_small r rs w; others = refl },
  behind_hold h d (length (ends_of rs)) f r v.0 (w 0 r.ends (omega arith)) (form_removals fs) (removals rs) (removals_hold h d fs rs v.1 (others_small r rs w)),
)
removals_hold h d [] (r ∷ rs) v w = absurd v
removals_hold h d (f ∷ fs) [] v w = absurd v

-- ---- the slopes of a list
-- what is told of each row
abbrev pub EachTold : (RemovalForm → Told) → (Removal → Outcome) → List RemovalForm → List Removal → Type 0
EachTold told outcome [] [] = Unit {0}
EachTold told outcome (x ∷ xs) (y ∷ ys) = TellsOutcome (told x) (outcome y) × EachTold told outcome xs ys
EachTold told outcome xs ys = ⊥

pub each_told : (h : ℕ) (d : ℤ) (n : ℕ) (told : RemovalForm → Told) (outcome : Removal → Outcome) → ((x : RemovalForm) (y : Removal) → RemovalHolds h d n x y → TellsOutcome (told x) (outcome y))
    → (xs : List RemovalForm) (ys : List Removal) → RemovalsHold h d n xs ys → EachTold told outcome xs ys
each_told h d n told outcome each [] [] p = tt
each_told h d n told outcome each (x ∷ xs) (y ∷ ys) p = (each x y p.0, each_told h d n told outcome each xs ys p.1)
each_told h d n told outcome each [] (y ∷ ys) p = absurd p
each_told h d n told outcome each (x ∷ xs) [] p = absurd p

-- no outcome is an overflow
calm : (o : Outcome) → o ≢ Overflows → is_overflows o ≡ false
calm Passes n = refl
calm Fails n = refl
calm Straddles n = refl
calm Overflows n = absurd (n refl)

told_calm : (t : Told) (o : Outcome) → TellsOutcome t o → is_overflows o ≡ false
told_calm passing o e = rw e refl
told_calm (failing w) o e = rw e.1 refl
told_calm unknown o n = calm o n

all_calm : (told : RemovalForm → Told) (outcome : Removal → Outcome) (xs : List RemovalForm) (ys : List Removal) → EachTold told outcome xs ys → first_such is_overflows outcome ys ≡ None
all_calm told outcome [] [] p = refl
all_calm told outcome (x ∷ xs) (y ∷ ys) p = rw (told_calm (told x) (outcome y) p.0) (all_calm told outcome xs ys p.1)
all_calm told outcome [] (y ∷ ys) p = absurd p
all_calm told outcome (x ∷ xs) [] p = absurd p

-- what the whole list tells
abbrev ListTold : Told → (fails straddles : Option ℕ) → Type 0
ListTold passing fails straddles = (fails ≡ None) × (straddles ≡ None)
ListTold (failing w) fails straddles = (w ≡ why.Slope) × ((q : ℕ) × (fails ≡ Some q))
ListTold unknown fails straddles = Unit {0}

-- a row in front
front_some : (b : Bool) (p q : ℕ) (next : Option ℕ) → next ≡ Some q → (s : ℕ) × ((if b then Some p else next) ≡ Some s)
front_some true p q next e = (p, refl)
front_some false p q next e = (q, e)

in_front : (t u : Told) (o : Outcome) (p : ℕ) (fails straddles : Option ℕ) → TellsOutcome t o → ListTold u fails straddles
    → ListTold (both_told t u) (if is_fails o then Some p else fails) (if is_straddles o then Some p else straddles)
in_front passing passing o p fails straddles e l = rw e l
in_front passing (failing w) o p fails straddles e l = rw e l
in_front passing unknown o p fails straddles e l = tt
in_front (failing w) u o p fails straddles e l = rw e.1 (e.0, (p, refl))
in_front unknown passing o p fails straddles e l = tt
in_front unknown (failing w) o p fails straddles e l = (l.0, front_some (is_fails o) p l.1.0 fails l.1.1)
in_front unknown unknown o p fails straddles e l = tt

list_told : (told : RemovalForm → Told) (outcome : Removal → Outcome) (xs : List RemovalForm) (ys : List Removal) → EachTold told outcome xs ys
    → ListTold (slopes_told told xs) (first_such is_fails outcome ys) (first_such is_straddles outcome ys)
list_told told outcome [] [] p = (refl, refl)
list_told told outcome (x ∷ xs) (y ∷ ys) p = in_front (told x) (slopes_told told xs) (outcome y) y.row.prn (first_such is_fails outcome ys) (first_such is_straddles outcome ys) p.0 (list_told told outcome xs ys p.1)
list_told told outcome [] (y ∷ ys) p = absurd p
list_told told outcome (x ∷ xs) [] p = absurd p

verdict_told : (t : Told) (overflows fails straddles : Option ℕ) → overflows ≡ None → ListTold t fails straddles → TellsVerdict t (of_slopes overflows fails straddles)
verdict_told passing overflows fails straddles n l = rw (n, l.0, l.1) refl
verdict_told (failing w) overflows fails straddles n l = rw (n, l.0, l.1.1) refl
verdict_told unknown overflows fails straddles n l = tt

pub slopes_tell : (told : RemovalForm → Told) (outcome : Removal → Outcome) (xs : List RemovalForm) (ys : List Removal) → EachTold told outcome xs ys → TellsVerdict (slopes_told told xs) (slopes_of outcome ys)
slopes_tell told outcome xs ys p =
    verdict_told (slopes_told told xs) (first_such is_overflows outcome ys) (first_such is_fails outcome ys) (first_such is_straddles outcome ys) (all_calm told outcome xs ys p) (list_told told outcome xs ys p)

-- ---- the determinant
determinant_tells : {h : ℕ} {d : ℤ} (f : Form) (e : Ends) (t : Told) (v : Verdict) → IsTime h d → Holds h d f e → TellsVerdict t v → TellsVerdict (determinant_told f t) (of_determinant e v)
determinant_tells f e t v time p l =
    let low = least_low f e.lo time (holds_lo p) in
    let high = greatest_high f e.hi time (holds_hi p) in
    let ordered = p.ordered in
    elim (lt_z_case (greatest_of f) least_units) [
      | inl a ↦ let lt = a.1 in rw (a.0, lt_z_is e.hi least_units (under e.hi (greatest_of f) least_units high lt)) refl
      | inr a ↦ elim (lt_z_case (least_of f) least_units) [
        | inl b ↦ rw (a.0, b.0) tt
        | inr b ↦
            let le = b.1 in
            rw (a.0, b.0, lt_z_not e.hi least_units (above least_units (least_of f) e.lo e.hi le low ordered), lt_z_not e.lo least_units (above least_units (least_of f) e.lo e.lo le low (same e.lo))) l
      ]
    ]
  where
    under : (x y z : ℤ) → x ≤ℤ y → y <ℤ z → x <ℤ z
    under x y z i j = omega (arith, ints)

    above : (z n x y : ℤ) → z ≤ℤ n → n ≤ℤ x → x ≤ℤ y → z ≤ℤ y
    above z n x y i j k = omega (arith, ints)

    same : (x : ℤ) → x ≤ℤ x
    same x = omega (arith, ints)

few_told : (b : Bool) (w : Why) (t : Told) (v : Verdict) → TellsVerdict t v → TellsVerdict (if b then failing w else t) (if b then Unavailable w else v)
few_told true w t v l = refl
few_told false w t v l = l

-- ---- fault detection
fewer : (m n : ℕ) → suc m ≡ n → n ≤ 32 → m ≤ 32
fewer m n e p = omega arith

pub detect_tells : {h : ℕ} {d : ℤ} (shift : Shift) (fs : List RowForm) (rows : List NamedRow) (fk : Form) (kappa : Ends) → IsTime h d
    → RowsHold h d fs (ends_of rows) → AreSmall rows → Holds h d fk kappa → IsInside kappa safe_factors
    → TellsVerdict (detect_told shift fs fk) (detect_of shift rows kappa)
unfolding detect_told detect_by slopes_for determinant_of
detect_tells {h} {d} shift fs rows fk kappa t v s hk quick =
    let gram = gram_held fs (ends_of rows) t v in
    let gram_small = gram_within (ends_of rows) s.few s.within in
    let det = det_held (gram_form fs) (gram_of (ends_of rows)) t gram in
    let adj = adjugate_held (gram_form fs) (gram_of (ends_of rows)) t gram in
    let small = adjugate_within (gram_of (ends_of rows)) gram_small in
    rw (held_length h d fs rows v)
    (few_told (nat_lt (length fs) 5) why.Few _ _
    (determinant_tells (det_form (gram_form fs)) (det_of (gram_of (ends_of rows))) _ _ t det
    (slopes_tell
    (λ x. slope_told shift (adjugate_form (gram_form fs)) (det_form (gram_form fs)) (det_form (gram_form x.rest)) x.row fk)
    (λ x. outcome_of shift (adjugate_of (gram_of (ends_of rows))) (det_of (gram_of (ends_of rows))) (det_of (gram_of (ends_of x.rest))) x.row.ends kappa)
    (form_removals fs) (removals rows)
    (each_told h d (length (ends_of rows))
    (λ x. slope_told shift (adjugate_form (gram_form fs)) (det_form (gram_form fs)) (det_form (gram_form x.rest)) x.row fk)
    (λ x. outcome_of shift (adjugate_of (gram_of (ends_of rows))) (det_of (gram_of (ends_of rows))) (det_of (gram_of (ends_of x.rest))) x.row.ends kappa)
    (λ x y p.
    slope_tells shift (adjugate_form (gram_form fs)) (adjugate_of (gram_of (ends_of rows))) (det_form (gram_form fs)) (det_form (gram_form x.rest)) (det_of (gram_of (ends_of rows))) (det_of (gram_of (ends_of y.rest))) x.row y.row.ends fk kappa t
    adj det (det_held (gram_form x.rest) (gram_of (ends_of y.rest)) t (gram_held x.rest (ends_of y.rest) t p.rest)) p.row hk small p.row_within quick)
    (form_removals fs) (removals rows) (removals_hold h d fs rows v s.within)))))

-- ---- fault exclusion
unless_tells : (t u : Told) (v w : Verdict) → TellsVerdict t v → TellsVerdict u w → TellsVerdict (unless_told t u) (unless_passes v w)
unless_tells passing u v w l m = rw l m
unless_tells (failing y) u v w l m = rw l refl
unless_tells unknown u v w l m = tt

named_tells : (p : ℕ) (t : Told) (v : Verdict) → TellsVerdict t v → TellsVerdict t (named_without p v)
named_tells p passing v l = rw l refl
named_tells p (failing w) v l = rw l refl
named_tells p unknown v l = tt

first_tells : (h : ℕ) (d : ℤ) (n : ℕ) (told : List RowForm → Told) (verdict : List NamedRow → Verdict)
    → ((x : RemovalForm) (y : Removal) → RemovalHolds h d n x y → TellsVerdict (told x.rest) (verdict y.rest))
    → (xs : List RemovalForm) (ys : List Removal) → RemovalsHold h d n xs ys → TellsVerdict (first_told told xs) (first_open verdict ys)
first_tells h d n told verdict each [] [] p = refl
first_tells h d n told verdict each (x ∷ xs) (y ∷ ys) p =
    unless_tells (told x.rest) (first_told told xs) (named_without y.row.prn (verdict y.rest)) (first_open verdict ys)
    (named_tells y.row.prn (told x.rest) (verdict y.rest) (each x y p.0)) (first_tells h d n told verdict each xs ys p.1)
first_tells h d n told verdict each [] (y ∷ ys) p = absurd p
first_tells h d n told verdict each (x ∷ xs) [] p = absurd p

pub exclude_tells : {h : ℕ} {d : ℤ} (shift : Shift) (fs : List RowForm) (rows : List NamedRow) (fk fl : Form) (kappa kappa_less : Ends) → IsTime h d
    → RowsHold h d fs (ends_of rows) → AreSmall rows → Holds h d fk kappa → IsInside kappa safe_factors → Holds h d fl kappa_less → IsInside kappa_less safe_factors
    → TellsVerdict (exclude_told shift fs fk fl) (exclude_of shift rows kappa kappa_less)
unfolding exclude_told exclude_by
exclude_tells {h} {d} shift fs rows fk fl kappa kappa_less t v s hk quick hl quick_less =
    rw (held_length h d fs rows v)
    (few_told (nat_lt (length fs) 6) why.Few _ _
    (unless_tells (detect_told shift fs fk) (first_told (λ rest. detect_told shift rest fl) (form_removals fs)) (detect_of shift rows kappa) (first_open (λ rest. detect_of shift rest kappa_less) (removals rows))
    (detect_tells shift fs rows fk kappa t v s hk quick)
    (first_tells h d (length (ends_of rows)) (λ rest. detect_told shift rest fl) (λ rest. detect_of shift rest kappa_less)
    (λ x y p. detect_tells shift x.rest y.rest fl kappa_less t p.rest (record { few = fewer (length (ends_of y.rest)) (length (ends_of rows)) p.others s.few; within = p.rest_within }) hl quick_less)
    (form_removals fs) (removals rows) (removals_hold h d fs rows v s.within))))
