-- The runs of a flight's written verdicts say what is so.
use Rattle.std.specs.Prelude.{◌≡◌, ℕ, zero, suc, ◌<◌, ◌≤◌, ℤ, ◌≤ℤ◌, ◌<ℤ◌, List, [], ◌∷◌, All, length, slice_index_or, Some, None, refl}
use Rattle.std.specs.declared.option.Option.{Option}
use Rattle.std.proofs.Common.{arith, ap, sym, subst, ◌∙◌}
use Rattle.std.proofs.lemmas.Int.{ints, by_lt_z}
use Rattle.std.proofs.lemmas.List.Elements.{Contains-append_right, All-contains}
use Rattle.raim_model.specs.declared.verdict.Run.{Run}
use Rattle.raim_model.specs.declared.verdict.Verdict.{Verdict}
use Rattle.raim_model.specs.Judgements.{is_certain}
use Rattle.raim_model.specs.Route.{flight_of}
use Rattle.raim_model.specs.Runs.{Holds, AreRuns, AreRunsAfter}
use Rattle.raim_model.specs.Solution.{Case, HasVerdictFor}
use Rattle.raim_model.specs.Geometry.{SquaredShift}
use Rattle.raim_model.specs.CaseCuts.{InRootPiece}
use Rattle.raim_model.specs.CaseRanges.{IsCase}
use Rattle.time_laws.proofs.RunLemmas.{ordered}
use Rattle.slope_laws.specs.Slopes.{SlopeTest}
use Rattle.slope_laws.specs.Hold.{HoldsSlopes}
use Rattle.verdict_laws.proofs.Masks.{undecided_is_near}
use Rattle.verdict_laws.proofs.Pieces.{piece_is_right}
use Rattle.case_laws.specs.SightOver.{sight_over}
use Rattle.case_laws.specs.PieceVerdict.{verdict_by_test}
use Rattle.case_laws.specs.Forecast.{InRun, IsRight, LiesInRun, IsForecastBy}
use Rattle.case_laws.proofs.Looks.{sights_hold}

-- a single millisecond is inside a root piece
single : (c : Case) (t : ℤ) → (flight_of c.route).first ≤ℤ t → t <ℤ (flight_of c.route).end → InRootPiece c t t
single c t low high = record { started = low; not_over = high; uncut = λ u k after. after }

-- a run of the verdict, inside the flight, says what is so
right_one : (shift : SquaredShift) (test : SlopeTest) → HoldsSlopes shift test → (alert_mm : ℕ) → 1 ≤ alert_mm → (c : Case) → IsCase c → (run : Run) → (flight_of c.route).first ≤ℤ run.first → run.end ≤ℤ (flight_of c.route).end → Holds (verdict_by_test test alert_mm c) run.first run.end run.verdict → IsRight shift alert_mm c run
right_one shift test slopes alert_mm a c i run low high holds = record {
  certain = λ e t k.
      let low_k = k.started in let high_k = k.not_over in
      let w : verdict_by_test test alert_mm c t t ≡ run.verdict = holds.each t low_k high_k in
      let o : t ≤ℤ t = omega (arith, ints) in
      subst (λ v. HasVerdictFor shift alert_mm c t v) w
      (piece_is_right shift test slopes c alert_mm a (sight_over c) (sights_hold c i) t t t (single c t (omega (arith, ints)) (omega (arith, ints))) (ap is_certain w ∙ e) o o);
  near = λ prn e t k.
      let low_k = k.started in let high_k = k.not_over in
      undecided_is_near test alert_mm c i (sight_over c) (sights_hold c i) t (single c t (omega (arith, ints)) (omega (arith, ints))) prn (holds.each t low_k high_k ∙ e);
}

-- a run's verdict is that of each of its milliseconds
abbrev pub Told : SlopeTest → (alert_mm : ℕ) → Case → Run → Type 0
Told test alert_mm c run = (t : ℤ) → InRun run t → verdict_by_test test alert_mm c t t ≡ run.verdict

-- so does each of the runs that follow one another to the end of the flight
all_right : (shift : SquaredShift) (test : SlopeTest) → HoldsSlopes shift test → (alert_mm : ℕ) → 1 ≤ alert_mm → (c : Case) → IsCase c → (before : Option Verdict) (first : ℤ) (runs : List Run) → (flight_of c.route).first ≤ℤ first → AreRunsAfter (verdict_by_test test alert_mm c) before first (flight_of c.route).end runs
    → All (λ run. IsRight shift alert_mm c run × Told test alert_mm c run) runs
all_right shift test slopes alert_mm a c i before first [] low h = λ k d p. absurd (omega arith)
all_right shift test slopes alert_mm a c i before first (run ∷ runs) low h =
    let e : run.first ≡ first = h.0 in
    let lt : first <ℤ run.end = h.1 in
    let le : run.end ≤ℤ (flight_of c.route).end = ordered (verdict_by_test test alert_mm c) (Some run.verdict) run.end (flight_of c.route).end runs h.4 in
    let holds : Holds (verdict_by_test test alert_mm c) run.first run.end run.verdict = subst (λ f. Holds (verdict_by_test test alert_mm c) f run.end run.verdict) (sym e) h.2 in
    let here : IsRight shift alert_mm c run = right_one shift test slopes alert_mm a c i run (omega (arith, ints)) le holds in
    let told : Told test alert_mm c run = λ t k. holds.each t k.started k.not_over in
    let rest = all_right shift test slopes alert_mm a c i (Some run.verdict) run.end runs (omega (arith, ints)) h.4 in
    λ k d p. at k d p here told rest
  where
    at : (k : ℕ) (d : Run) → k < length (run ∷ runs) → IsRight shift alert_mm c run → Told test alert_mm c run → All (λ r. IsRight shift alert_mm c r × Told test alert_mm c r) runs → IsRight shift alert_mm c (slice_index_or (run ∷ runs) k d) × Told test alert_mm c (slice_index_or (run ∷ runs) k d)
    at zero d p here told rest = (here, told)
    at (suc k) d p here told rest = rest k d (omega arith)

-- each millisecond lies in a run
in_some : (w : ℤ → ℤ → Verdict) (before : Option Verdict) (first end : ℤ) (runs : List Run) (t : ℤ) → AreRunsAfter w before first end runs → first ≤ℤ t → t <ℤ end → LiesInRun runs t (w t t)
in_some w before first end [] t h low high = absurd (subst (λ e. t <ℤ e → ⊥) h (λ q. omega (arith, ints)) high)
in_some w before first end (run ∷ runs) t h low high = by_lt_z t run.end
    (λ q. let e : run.first ≡ first = h.0 in
    record { run = run; listed = (0, omega arith, refl); inside = record { started = omega (arith, ints); not_over = q }; verdict = let hold : Holds w first run.end run.verdict = h.2 in sym (hold.each t low q) })
    (λ q. let l : LiesInRun runs t (w t t) = in_some w (Some run.verdict) run.end end runs t h.4 q high in
    record { run = l.run; listed = Contains-append_right (run ∷ []) runs l.run l.listed; inside = l.inside; verdict = l.verdict })

-- the runs of the flight are a forecast
pub forecast : (shift : SquaredShift) (test : SlopeTest) → HoldsSlopes shift test → (alert_mm : ℕ) → 1 ≤ alert_mm → (c : Case) → IsCase c → (runs : List Run) → AreRuns (verdict_by_test test alert_mm c) (flight_of c.route).first (flight_of c.route).end runs → IsForecastBy shift test alert_mm c runs
forecast shift test slopes alert_mm a c i runs h =
    let all = all_right shift test slopes alert_mm a c i None (flight_of c.route).first runs (omega (arith, ints)) h in
    record {
      parts = h;
      right = λ k d p. (all k d p).0;
      undecided = λ t comparison f. (
        λ l. let told : IsRight shift alert_mm c l.run × Told test alert_mm c l.run = All-contains (λ run. IsRight shift alert_mm c run × Told test alert_mm c run) runs l.run all l.listed in told.1 t l.inside ∙ l.verdict,
        λ e. subst (λ v. LiesInRun runs t v) e (in_some (verdict_by_test test alert_mm c) None (flight_of c.route).first (flight_of c.route).end runs t h f.started f.not_over),
      );
    }
