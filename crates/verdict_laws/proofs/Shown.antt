-- A certain verdict on what is seen is the point verdict of each solution whose sightings it shows.
use Rattle.std.specs.Prelude.{◌≡◌, ℕ, ◌-◌, ◌<◌, ◌≤◌, ℤ, true, if◌then◌else◌, List, [], ◌∷◌, length, None}
use Rattle.std.specs.declared.option.Option.{Option}
use Rattle.std.proofs.Common.{arith, ap, sym, ◌∙◌, subst, inl, inr}
use Rattle.std.proofs.lemmas.Bool.{cases_Bool}
use Rattle.raim_model.specs.declared.almanac.AlmRecord.{AlmRecord}
use Rattle.raim_model.specs.declared.limits.Limits.{Limits}
use Rattle.raim_model.specs.declared.verdict.Why.{Why}
use Rattle.raim_model.specs.declared.verdict.Verdict.{Verdict}
use Rattle.raim_model.specs.Level.{Level}
use Rattle.raim_model.specs.Judgements.{is_certain}
use Rattle.raim_model.specs.Orbit.{satellite_position}
use Rattle.raim_model.specs.Receiver.{Site}
use Rattle.raim_model.specs.Look.{direction_row}
use Rattle.raim_model.specs.Geometry.{Row, SquaredShift, weighed}
use Rattle.raim_model.specs.PointVerdict.{least_count, kappa_of, reason_of, verdict_for, point_verdict}
use Rattle.raim_model.specs.Weights.{weight_of}
use Rattle.raim_model.specs.Solution.{Case, Sighting, Sightings, is_seen, visible_rows}
use Rattle.flight_laws.proofs.Few.{few_reason}
use Rattle.raim_model.specs.declared.verdict.Verdict.TheVariants.{Available, Unavailable, Undecided, Overflow}
use Rattle.slope_laws.specs.Rows.{NamedRow, NamedRowsLie}
use Rattle.slope_laws.specs.Slopes.{SlopeTest}
use Rattle.verdict_laws.specs.Sights.{Sight, Visible, Hidden, Straddles, Sighted, sighted_over, count_possible, first_straddling, rows_seen}
use Rattle.verdict_laws.specs.PieceVerdict.{kappa_over, test_by, unless_straddling, verdict_by}
use Rattle.slope_laws.specs.Hold.{Tells, HoldsSlopes}
use Rattle.verdict_laws.specs.Hold.{Shows}
use Rattle.slope_laws.proofs.Told.{lie_length, detect_reason, exclude_reason}
use Rattle.verdict_laws.proofs.Factors.{kappa_encloses}
use Rattle.verdict_laws.proofs.Seen.{few_or_enough, no_straddle}

-- each sighting is shown
abbrev pub AllShow : (N : Level) (c : Case) (t : ℤ) (from : Site) (sight : AlmRecord → Sight) (recs : List AlmRecord) → Sightings N c t from recs → Type 0
AllShow N c t from sight [] s = Unit {0}
AllShow N c t from sight (rec ∷ recs) s = Shows (sight rec) s.0 × AllShow N c t from sight recs s.1

-- how many rows there may be, and what they are where no satellite straddles
pub record RowsShown (seen : List Sighted) (gs : List Row) : Type 0 where
  pub count : length gs ≤ count_possible seen
  pub rows : first_straddling seen ≡ None → NamedRowsLie (rows_seen seen) gs

-- one record more
shown_here : (N : Level) (c : Case) (t : ℤ) (from : Site) (rec : AlmRecord) (w : Sight) (s : Sighting N c t from rec) (seen : List Sighted) (gs : List Row) → Shows w s → RowsShown seen gs
    → RowsShown (record { prn = rec.prn; sight = w } ∷ seen) (if is_seen s then weighed (weight_of c.limits.weights.items rec.prn) (direction_row from (satellite_position s.orbit) s.range) ∷ gs else gs)
shown_here N c t from rec (Visible r) s seen gs h k = rw h.0 (record { count = let le = k.count in omega arith; rows = λ o. (h.1, k.rows o) })
shown_here N c t from rec Hidden s seen gs h k = rw h (record { count = let le = k.count in omega arith; rows = λ o. k.rows o })
shown_here N c t from rec Straddles s seen gs h k = record {
  count = elim (cases_Bool (is_seen s)) [ inl e ↦ rw e (let le = k.count in omega arith) | inr e ↦ rw e (let le = k.count in omega arith) ];
  rows = λ o. absurd (cc);
}

-- the visible rows of a solution are those of the sights that show its sightings
pub rows_shown : (N : Level) (c : Case) (t : ℤ) (from : Site) (sight : AlmRecord → Sight) (recs : List AlmRecord) (s : Sightings N c t from recs) → AllShow N c t from sight recs s
    → RowsShown (sighted_over sight recs) (visible_rows N c t from recs s)
unfolding visible_rows
rows_shown N c t from sight [] s h = record { count = omega arith; rows = λ o. tt }
rows_shown N c t from sight (rec ∷ recs) s h =
    shown_here N c t from rec (sight rec) s.0 (sighted_over sight recs) (visible_rows N c t from recs s.1) h.0 (rows_shown N c t from sight recs s.1 h.1)

-- a decided verdict is that of its reason
decided_tells : (v : Verdict) (reason : Option Why) → Tells v reason → is_certain v ≡ true → verdict_for reason ≡ v
decided_tells Available reason t e = ap verdict_for t
decided_tells (Unavailable w) reason t e = ap verdict_for t
decided_tells (Undecided c) reason t e = absurd (cc)
decided_tells (Overflow p) reason t e = absurd (cc)

-- the test tells the reason of the rows inside
test_tells : (shift : SquaredShift) (test : SlopeTest) → HoldsSlopes shift test → (limits : Limits) (alert_mm : ℕ) → 1 ≤ alert_mm → (rows : List NamedRow) (gs : List Row) → NamedRowsLie rows gs
    → Tells (test_by test limits alert_mm rows) (reason_of shift limits.exclude (kappa_of limits alert_mm (length gs)) (kappa_of limits alert_mm (length gs - 1)) gs)
unfolding kappa_over
test_tells shift test holds limits alert_mm a rows gs l =
    let n : ℕ = length gs in
    elim (cases_Bool limits.exclude) [
      | inl e ↦ rw (lie_length rows gs l, e) (exclude_reason shift test holds rows (kappa_over limits alert_mm n) (kappa_over limits alert_mm (n - 1)) gs (kappa_of limits alert_mm n) (kappa_of limits alert_mm (n - 1)) l (kappa_encloses limits alert_mm n a) (kappa_encloses limits alert_mm (n - 1) a))
      | inr e ↦ rw (lie_length rows gs l, e) (detect_reason shift test holds rows (kappa_over limits alert_mm n) gs (kappa_of limits alert_mm n) (kappa_of limits alert_mm (n - 1)) l (kappa_encloses limits alert_mm n a))
    ]

-- a certain verdict is the point verdict of the rows that are shown
pub verdict_shown : (shift : SquaredShift) (test : SlopeTest) → HoldsSlopes shift test → (limits : Limits) (alert_mm : ℕ) → 1 ≤ alert_mm → (seen : List Sighted) (gs : List Row) → RowsShown seen gs
    → is_certain (verdict_by test limits alert_mm seen) ≡ true → point_verdict shift limits alert_mm gs ≡ verdict_by test limits alert_mm seen
verdict_shown shift test holds limits alert_mm a seen gs s certain = elim (few_or_enough test limits alert_mm seen) [
  | inl h ↦ few_reason shift limits.exclude (kappa_of limits alert_mm (length gs)) (kappa_of limits alert_mm (length gs - 1)) gs (fewer h.0) ∙ sym h.1
  | inr h ↦ enough h.1
]
  where
    fewer : count_possible seen < least_count limits.exclude → length gs < least_count limits.exclude
    fewer h = let le = s.count in omega arith

    enough : verdict_by test limits alert_mm seen ≡ unless_straddling (first_straddling seen) (test_by test limits alert_mm (rows_seen seen))
        → verdict_for (reason_of shift limits.exclude (kappa_of limits alert_mm (length gs)) (kappa_of limits alert_mm (length gs - 1)) gs) ≡ verdict_by test limits alert_mm seen
    enough e =
        let tested : Verdict = test_by test limits alert_mm (rows_seen seen) in
        let c : is_certain (unless_straddling (first_straddling seen) tested) ≡ true = subst (λ v. is_certain v ≡ true) e certain in
        let n : first_straddling seen ≡ None = no_straddle (first_straddling seen) tested c in
        let d : is_certain tested ≡ true = subst (λ o. is_certain (unless_straddling o tested) ≡ true) n c in
        decided_tells (test_by test limits alert_mm (rows_seen seen)) (reason_of shift limits.exclude (kappa_of limits alert_mm (length gs)) (kappa_of limits alert_mm (length gs - 1)) gs) (test_tells shift test holds limits alert_mm a (rows_seen seen) gs (s.rows n)) d
        ∙ sym (e ∙ ap (λ o. unless_straddling o tested) n)
