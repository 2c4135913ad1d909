-- What forms tell of a piece is the written verdict of each of its milliseconds.
use Rattle.std.specs.Prelude.{◌≡◌, ℕ, ◌+◌, ◌-◌, ◌≤◌, ℤ, Bool, true, false, if◌then◌else◌, nat_lt, ◌||◌, List, [], ◌∷◌, length, Some, None, refl}
use Rattle.std.specs.declared.option.Option.{Option}
use Rattle.std.proofs.Common.{arith, ap, ◌∙◌, ◌⊎◌, inl, inr}
use Rattle.std.proofs.lemmas.Bool.{cases_Bool}
use Rattle.raim_model.specs.declared.limits.Limits.{Limits}
use Rattle.raim_model.specs.declared.verdict.Verdict.{Verdict}
use Rattle.raim_model.specs.PointVerdict.{least_count}
use Rattle.raim_model.specs.Solution.{Case}
use Rattle.fix_interval.specs.Ends.{Ends, IsInside}
use Rattle.slope_laws.specs.declared.shift.Shift.{Shift}
use Rattle.slope_laws.specs.Rows.{NamedRow}
use Rattle.slope_laws.specs.ShiftSlopes.{ends_of, slopes_for, detect_of, exclude_of}
use Rattle.verdict_laws.specs.Sights.{Sight, Visible, Hidden, Straddles, Sighted, one_if_possible, count_possible, first_straddling, rows_seen}
use Rattle.verdict_laws.specs.PieceVerdict.{kappa_over, test_by, verdict_by, piece_verdict_by}
use Rattle.case_laws.specs.PieceVerdict.{seen_of, verdict_by_test}
use Rattle.time_forms.specs.Forms.{Form, IsTime, Holds}
use Rattle.time_forms.specs.Operations.{fixed_of}
use Rattle.time_forms.proofs.Known.{fixed_holds}
use Rattle.geometry_forms.specs.Rows.{RowForm, RowsHold}
use Rattle.slope_forms.specs.Told.{Told, passing, failing, unknown, TellsVerdict}
use Rattle.slope_forms.specs.Slopes.{AreSmall, safe_factors, detect_told, exclude_told}
use Rattle.slope_forms.proofs.Lists.{held_length, detect_tells, exclude_tells}
use Rattle.verdict_forms.specs.Sights.{SightTold, sure_visible, sure_hidden, not_sure, SightHolds, SeenHold, one_if_told, told_possible, some_unsure, form_rows}
use Rattle.verdict_forms.specs.Verdicts.{test_told, verdict_told, AreSafe}

-- ---- the counts
one_below : (h : ℕ) (d : ℤ) (f : SightTold) (s : Sight) → SightHolds h d f s → one_if_possible s ≤ one_if_told f
one_below h d (sure_visible f) (Visible r) v = omega arith
one_below h d (sure_visible f) Hidden v = absurd v
one_below h d (sure_visible f) Straddles v = absurd v
one_below h d sure_hidden s v = rw v (omega arith)
one_below h d not_sure (Visible r) v = omega arith
one_below h d not_sure Hidden v = omega arith
one_below h d not_sure Straddles v = omega arith

possible_below : (h : ℕ) (d : ℤ) (fs : List SightTold) (ss : List Sighted) → SeenHold h d fs ss → count_possible ss ≤ told_possible fs
possible_below h d [] [] v = omega arith
possible_below h d (f ∷ fs) (s ∷ ss) v = let p = one_below h d f s.sight v.0 in let q = possible_below h d fs ss v.1 in omega arith
possible_below h d [] (s ∷ ss) v = absurd v
possible_below h d (f ∷ fs) [] v = absurd v

fewer : (k m n : ℕ) → k ≤ m → nat_lt m n ≡ true → nat_lt k n ≡ true
fewer k m n p e = grind arith

-- ---- where each satellite is known
pub record AreKnown (h : ℕ) (d : ℤ) (fs : List SightTold) (ss : List Sighted) : Type 0 where
  pub count : count_possible ss ≡ told_possible fs
  pub calm : first_straddling ss ≡ None
  pub rows : RowsHold h d (form_rows fs) (ends_of (rows_seen ss))

in_front : (h : ℕ) (d : ℤ) (f : SightTold) (fs : List SightTold) (prn : ℕ) (s : Sight) (ss : List Sighted) → SightHolds h d f s → SeenHold h d fs ss → some_unsure (f ∷ fs) ≡ false → AreKnown h d fs ss → AreKnown h d (f ∷ fs) (record { prn = prn; sight = s } ∷ ss)
in_front h d (sure_visible f) fs prn (Visible r) ss v w u k = record { count = ap (λ n. 1 + n) k.count; calm = k.calm; rows = (v, k.rows) }
in_front h d (sure_visible f) fs prn Hidden ss v w u k = absurd v
in_front h d (sure_visible f) fs prn Straddles ss v w u k = absurd v
in_front h d sure_hidden fs prn (Visible r) ss v w u k = absurd (cc)
in_front h d sure_hidden fs prn Hidden ss v w u k = record { count = ap (λ n. 0 + n) k.count; calm = k.calm; rows = k.rows }
in_front h d sure_hidden fs prn Straddles ss v w u k = absurd (cc)
in_front h d not_sure fs prn s ss v w u k = absurd (cc)

-- the others are known too
rest : (f : SightTold) (fs : List SightTold) → some_unsure (f ∷ fs) ≡ false → some_unsure fs ≡ false
rest (sure_visible r) fs e = e
rest sure_hidden fs e = e
rest not_sure fs e = absurd (cc)

known : (h : ℕ) (d : ℤ) (fs : List SightTold) (ss : List Sighted) → SeenHold h d fs ss → some_unsure fs ≡ false → AreKnown h d fs ss
known h d [] [] v u = record { count = refl; calm = refl; rows = tt }
known h d (f ∷ fs) (s ∷ ss) v u = in_front h d f fs s.prn s.sight ss v.0 v.1 u (known h d fs ss v.1 (rest f fs u))
known h d [] (s ∷ ss) v u = absurd v
known h d (f ∷ fs) [] v u = absurd v

-- ---- the test
test_tells : {h : ℕ} {d : ℤ} (shift : Shift) (limits : Limits) (alert_mm : ℕ) (fs : List RowForm) (rows : List NamedRow) → IsTime h d → AreSafe limits alert_mm (length fs) → RowsHold h d fs (ends_of rows) → AreSmall rows
    → TellsVerdict (test_told shift limits alert_mm fs) (test_by (slopes_for shift) limits alert_mm rows)
unfolding kappa_over
test_tells {h} {d} shift limits alert_mm fs rows t quick v s =
    let n : ℕ = length fs in
    let all : Holds h d (fixed_of (kappa_over limits alert_mm n)) (kappa_over limits alert_mm n) = fixed_holds h d (kappa_over limits alert_mm n) quick.all.ordered in
    elim (cases_Bool limits.exclude) [
      | inl e ↦
          let less : IsInside (kappa_over limits alert_mm (n - 1)) safe_factors = quick.fewer e in
          rw (held_length h d fs rows v, e)
          (exclude_tells shift fs rows (fixed_of (kappa_over limits alert_mm n)) (fixed_of (kappa_over limits alert_mm (n - 1))) (kappa_over limits alert_mm n) (kappa_over limits alert_mm (n - 1)) t v s all quick.all (fixed_holds h d (kappa_over limits alert_mm (n - 1)) less.ordered) less)
      | inr e ↦ rw (held_length h d fs rows v, e) (detect_tells shift fs rows (fixed_of (kappa_over limits alert_mm n)) (kappa_over limits alert_mm n) t v s all quick.all)
    ]

-- ---- the verdict
pub verdict_tells : {h : ℕ} {d : ℤ} (shift : Shift) (limits : Limits) (alert_mm : ℕ) (fs : List SightTold) (ss : List Sighted) → IsTime h d → AreSafe limits alert_mm (length (form_rows fs)) → SeenHold h d fs ss → AreSmall (rows_seen ss)
    → TellsVerdict (verdict_told shift limits alert_mm fs) (verdict_by (slopes_for shift) limits alert_mm ss)
unfolding verdict_told verdict_by
verdict_tells {h} {d} shift limits alert_mm fs ss t quick v small = elim (cases_Bool (nat_lt (told_possible fs) (least_count limits.exclude))) [
  | inl e ↦ rw (e, fewer (count_possible ss) (told_possible fs) (least_count limits.exclude) (possible_below h d fs ss v) e) refl
  | inr e ↦ elim (cases_Bool (some_unsure fs)) [
    | inl u ↦ rw (e, u) tt
    | inr u ↦
        let k = known h d fs ss v u in
        rw (e, u, ap (λ c. nat_lt c (least_count limits.exclude)) k.count ∙ e, k.calm)
        (test_tells shift limits alert_mm (form_rows fs) (rows_seen ss) t quick k.rows small)
  ]
]

-- of a flight at t
pub flight_tells : {h : ℕ} {d : ℤ} (shift : Shift) (alert_mm : ℕ) (c : Case) (t : ℤ) (fs : List SightTold) → IsTime h d → AreSafe c.limits alert_mm (length (form_rows fs)) → SeenHold h d fs (seen_of c t t) → AreSmall (rows_seen (seen_of c t t))
    → TellsVerdict (verdict_told shift c.limits alert_mm fs) (verdict_by_test (slopes_for shift) alert_mm c t t)
unfolding piece_verdict_by
flight_tells shift alert_mm c t fs time quick v small = verdict_tells shift c.limits alert_mm fs (seen_of c t t) time quick v small
