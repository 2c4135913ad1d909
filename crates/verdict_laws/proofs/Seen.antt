-- A certain verdict on what is seen is that of what is seen over each piece inside.
use Rattle.std.specs.Prelude.{◌≡◌, ℕ, ◌+◌, ◌-◌, ◌<◌, ◌≤◌, true, ◌⊎◌, List, [], ◌∷◌, length, Some, None, refl}
use Rattle.std.specs.List.{AllByRecursion}
use Rattle.std.specs.declared.option.Option.{Option}
use Rattle.std.proofs.Common.{arith, ap, sym, ◌∙◌, subst, inl, inr}
use Rattle.std.proofs.lemmas.Bool.{cases_lt, cases_Bool, lt-ltb, le-ltb}
use Rattle.raim_model.specs.declared.almanac.AlmRecord.{AlmRecord}
use Rattle.raim_model.specs.declared.limits.Limits.{Limits}
use Rattle.raim_model.specs.declared.verdict.Why.TheVariants.{Few}
use Rattle.raim_model.specs.declared.verdict.Verdict.{Verdict}
use Rattle.raim_model.specs.declared.verdict.Verdict.TheVariants as verdict
use Rattle.raim_model.specs.Judgements.{is_certain}
use Rattle.raim_model.specs.PointVerdict.{least_count}
use Rattle.raim_model.specs.declared.verdict.Verdict.TheVariants.{Available, Unavailable, Undecided, Overflow}
use Rattle.slope_laws.specs.Rows.{NamedRow, NamedRowsInside}
use Rattle.slope_laws.specs.Slopes.{SlopeTest}
use Rattle.verdict_laws.specs.Sights.{Sight, Visible, Hidden, Straddles, Sighted, sighted_over, one_if_possible, count_possible, or_straddling, first_straddling, rows_seen}
use Rattle.verdict_laws.specs.PieceVerdict.{kappa_over, test_by, unless_straddling, verdict_by}
use Rattle.slope_laws.specs.Hold.{LeavesVerdict, HoldsSlopes}
use Rattle.verdict_laws.specs.Hold.{LeavesSight}
use Rattle.slope_laws.proofs.Kept.{inside_length, detect_left, exclude_left}
use Rattle.verdict_laws.proofs.Factors.{kappa_inside}
use Rattle.raim_model.specs.Geometry.{SquaredShift}

-- what is seen over a wider piece leaves to what is seen over one inside, record by record
abbrev pub AllLeave : (wide inside : AlmRecord → Sight) → List AlmRecord → Type 0
AllLeave wide inside recs = AllByRecursion (λ rec. LeavesSight (wide rec) (inside rec)) recs

-- what may be visible over a piece inside may be over the wider one
possible_left : (w i : Sight) → LeavesSight w i → one_if_possible i ≤ one_if_possible w
possible_left (Visible r) (Visible q) l = omega arith
possible_left (Visible r) Hidden l = absurd l
possible_left (Visible r) Straddles l = absurd l
possible_left Hidden i l = rw l (omega arith)
possible_left Straddles (Visible q) l = omega arith
possible_left Straddles Hidden l = omega arith
possible_left Straddles Straddles l = omega arith

-- so over a piece inside no more satellites may be visible
pub count_left : (wide inside : AlmRecord → Sight) (recs : List AlmRecord) → AllLeave wide inside recs → count_possible (sighted_over inside recs) ≤ count_possible (sighted_over wide recs)
count_left wide inside [] l = omega arith
count_left wide inside (rec ∷ recs) l =
    let here = possible_left (wide rec) (inside rec) l.0 in
    let rest = count_left wide inside recs l.1 in
    omega arith

-- where the wider piece has no satellite that straddles, that inside has the same visible ones
pub record SameSeen (wide inside : List Sighted) : Type 0 where
  pub count : count_possible inside ≡ count_possible wide
  pub none : first_straddling inside ≡ None
  pub rows : NamedRowsInside (rows_seen inside) (rows_seen wide)

-- one record more
same_left : (prn : ℕ) (w i : Sight) (wide inside : List Sighted) → LeavesSight w i → or_straddling prn w (first_straddling wide) ≡ None
    → (first_straddling wide ≡ None → SameSeen wide inside) → SameSeen (record { prn = prn; sight = w } ∷ wide) (record { prn = prn; sight = i } ∷ inside)
same_left prn (Visible r) (Visible q) wide inside l h k =
    let s : SameSeen wide inside = k h in
    record { count = ap (λ t. 1 + t) s.count; none = s.none; rows = (record { same = refl; inside = l }, s.rows) }
same_left prn (Visible r) Hidden wide inside l h k = absurd l
same_left prn (Visible r) Straddles wide inside l h k = absurd l
same_left prn Hidden i wide inside l h k =
    let s : SameSeen wide inside = k h in
    subst (λ t. SameSeen (record { prn = prn; sight = Hidden } ∷ wide) (record { prn = prn; sight = t } ∷ inside)) (sym l)
    (record { count = ap (λ t. 0 + t) s.count; none = s.none; rows = s.rows })
same_left prn Straddles i wide inside l h k = absurd (cc)

-- the same of a list of records
pub same_seen : (wide inside : AlmRecord → Sight) (recs : List AlmRecord) → AllLeave wide inside recs → first_straddling (sighted_over wide recs) ≡ None → SameSeen (sighted_over wide recs) (sighted_over inside recs)
same_seen wide inside [] l h = record { count = refl; none = refl; rows = tt }
same_seen wide inside (rec ∷ recs) l h = same_left rec.prn (wide rec) (inside rec) (sighted_over wide recs) (sighted_over inside recs) l.0 h (same_seen wide inside recs l.1)

-- a decided verdict is that of the rows inside
decided_left : (wide inside : Verdict) → LeavesVerdict wide inside → is_certain wide ≡ true → inside ≡ wide
decided_left Available inside l e = l
decided_left (Unavailable w) inside l e = l
decided_left (Undecided c) inside l e = absurd (cc)
decided_left (Overflow p) inside l e = absurd (cc)

-- the test of wider rows is left to rows inside
test_left : {shift : SquaredShift} (test : SlopeTest) → HoldsSlopes shift test → (limits : Limits) (alert_mm : ℕ) → 1 ≤ alert_mm → (wide rows : List NamedRow) → NamedRowsInside rows wide → LeavesVerdict (test_by test limits alert_mm wide) (test_by test limits alert_mm rows)
unfolding kappa_over
test_left test holds limits alert_mm a wide rows i =
    let n : ℕ = length wide in
    elim (cases_Bool limits.exclude) [
      | inl e ↦ rw (inside_length rows wide i, e) (exclude_left test holds rows wide (kappa_over limits alert_mm n) (kappa_over limits alert_mm n) (kappa_over limits alert_mm (n - 1)) (kappa_over limits alert_mm (n - 1)) i (kappa_inside limits alert_mm n a) (kappa_inside limits alert_mm (n - 1) a))
      | inr e ↦ rw (inside_length rows wide i, e) (detect_left test holds rows wide (kappa_over limits alert_mm n) (kappa_over limits alert_mm n) i (kappa_inside limits alert_mm n a))
    ]

-- where too few may be visible the verdict is Few
few_is : (test : SlopeTest) (limits : Limits) (alert_mm : ℕ) (seen : List Sighted) → count_possible seen < least_count limits.exclude → verdict_by test limits alert_mm seen ≡ verdict.Unavailable Few
unfolding verdict_by
few_is test limits alert_mm seen h = rw (lt-ltb (count_possible seen) (least_count limits.exclude) h) refl

-- and where enough may be, it is what the mask and the test make of them
enough_is : (test : SlopeTest) (limits : Limits) (alert_mm : ℕ) (seen : List Sighted) → least_count limits.exclude ≤ count_possible seen
    → verdict_by test limits alert_mm seen ≡ unless_straddling (first_straddling seen) (test_by test limits alert_mm (rows_seen seen))
unfolding verdict_by
enough_is test limits alert_mm seen h = rw (le-ltb (count_possible seen) (least_count limits.exclude) h) refl

-- a certain verdict was not undecided by the mask
pub no_straddle : (o : Option ℕ) (v : Verdict) → is_certain (unless_straddling o v) ≡ true → o ≡ None
no_straddle (Some p) v e = absurd (cc)
no_straddle None v e = refl

-- one or the other
pub few_or_enough : (test : SlopeTest) (limits : Limits) (alert_mm : ℕ) (seen : List Sighted)
    → ((count_possible seen < least_count limits.exclude) × (verdict_by test limits alert_mm seen ≡ verdict.Unavailable Few))
    ⊎ ((least_count limits.exclude ≤ count_possible seen) × (verdict_by test limits alert_mm seen ≡ unless_straddling (first_straddling seen) (test_by test limits alert_mm (rows_seen seen))))
few_or_enough test limits alert_mm seen = elim (cases_lt (count_possible seen) (least_count limits.exclude)) [
  | inl h ↦ inl (h, few_is test limits alert_mm seen h)
  | inr h ↦ inr (h, enough_is test limits alert_mm seen h)
]

-- a certain verdict is that of the sights over a piece inside
pub verdict_left : {shift : SquaredShift} (test : SlopeTest) → HoldsSlopes shift test → (limits : Limits) (alert_mm : ℕ) → 1 ≤ alert_mm → (wide inside : AlmRecord → Sight) (recs : List AlmRecord) → AllLeave wide inside recs
    → is_certain (verdict_by test limits alert_mm (sighted_over wide recs)) ≡ true → verdict_by test limits alert_mm (sighted_over inside recs) ≡ verdict_by test limits alert_mm (sighted_over wide recs)
verdict_left test holds limits alert_mm a wide inside recs l certain = elim (few_or_enough test limits alert_mm (sighted_over wide recs)) [
  | inl h ↦ few_is test limits alert_mm (sighted_over inside recs) (fewer h.0) ∙ sym h.1
  | inr h ↦ with_enough h.0 h.1
]
  where
    fewer : count_possible (sighted_over wide recs) < least_count limits.exclude → count_possible (sighted_over inside recs) < least_count limits.exclude
    fewer h = let le = count_left wide inside recs l in omega arith

    with_enough : least_count limits.exclude ≤ count_possible (sighted_over wide recs)
        → verdict_by test limits alert_mm (sighted_over wide recs) ≡ unless_straddling (first_straddling (sighted_over wide recs)) (test_by test limits alert_mm (rows_seen (sighted_over wide recs)))
        → verdict_by test limits alert_mm (sighted_over inside recs) ≡ verdict_by test limits alert_mm (sighted_over wide recs)
    with_enough enough e =
        let w : List Sighted = sighted_over wide recs in
        let i : List Sighted = sighted_over inside recs in
        let tested : Verdict = test_by test limits alert_mm (rows_seen w) in
        let c : is_certain (unless_straddling (first_straddling w) tested) ≡ true = subst (λ v. is_certain v ≡ true) e certain in
        let n : first_straddling w ≡ None = no_straddle (first_straddling w) tested c in
        let s : SameSeen w i = same_seen wide inside recs l n in
        let d : is_certain tested ≡ true = subst (λ o. is_certain (unless_straddling o tested) ≡ true) n c in
        let many : least_count limits.exclude ≤ count_possible i = subst (λ t. least_count limits.exclude ≤ t) (sym s.count) enough in
        enough_is test limits alert_mm i many
        ∙ ap (λ o. unless_straddling o (test_by test limits alert_mm (rows_seen i))) s.none
        ∙ decided_left (test_by test limits alert_mm (rows_seen w)) (test_by test limits alert_mm (rows_seen i)) (test_left test holds limits alert_mm a (rows_seen w) (rows_seen i) s.rows) d
        ∙ sym (e ∙ ap (λ o. unless_straddling o tested) n)
