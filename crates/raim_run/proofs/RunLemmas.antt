-- What is found of the files that were read, and what is not.
use Rattle.std.proofs.Common.{◌≡◌, ◌≤◌, ◌<◌, ◌+◌, ◌-◌, ◌⊎◌, ℕ, ℤ, List, [], ◌∷◌, length, Ok, Err, None, refl, subst, inl, inr, arith}
use Rattle.std.specs.Prelude.{◌≤ℤ◌, ◌+ℤ◌, ◌↔◌, true, Contains, pos, slice_index_or}
use Rattle.std.specs.declared.option.Option.{Option}
use Rattle.std.proofs.lemmas.Int.{ints}
use Rattle.raim_model.specs.declared.FileNo.{FileNo}
use Rattle.raim_model.specs.declared.Cmp.{Cmp}
use Rattle.raim_model.specs.declared.Cmp.TheVariants.{Mask}
use Rattle.raim_model.specs.declared.Run.{Run}
use Rattle.raim_model.specs.declared.Verdict.{Verdict}
use Rattle.raim_model.specs.declared.Verdict.TheVariants.{Undecided}
use Rattle.raim_model.specs.declared.Waypoint.{Waypoint}
use Rattle.raim_model.specs.CaseCuts.{CutsFlight}
use Rattle.raim_model.specs.Constants.{day_ms}
use Rattle.raim_model.specs.Cuts.{judgements_of_all}
use Rattle.raim_model.specs.Judgements.{is_certain}
use Rattle.raim_model.specs.Level.{Level}
use Rattle.raim_model.specs.Ranges.{IsRoute}
use Rattle.raim_model.specs.Route.{flight_of}
use Rattle.raim_model.specs.Runs.{HasRuns, HasTooManyRuns, OverflowsFirst}
use Rattle.raim_model.specs.Solution.{Case, InFlight, Solution}
use Rattle.raim_base.specs.Calls.{Call}
use Rattle.text_lines.specs.Lines.{Text}
use Rattle.gps_week.specs.GpsTime.{IsInstant}
use Rattle.time_laws.proofs.RunLemmas.{ordered}
use Rattle.route_interp.specs.Answers.{AreInstants}
use Rattle.route_interp.proofs.Times.{time_at_place}
use Rattle.demo_texts.specs.Summary.{AreCountable}
use Rattle.demo_texts.proofs.TotalLemmas.{countable}
use Rattle.flight_files.specs.declared.FlightFiles.{FlightFiles}
use Rattle.flight_files.specs.declared.Stop.{Stop}
use Rattle.flight_files.specs.declared.Stop.TheVariants as stop
use Rattle.raim_model.specs.declared.SplitFault.{SplitFault}
use Rattle.raim_model.specs.declared.SplitFault.TheVariants as none
use Rattle.piece_verdict.specs.declared.Alert.{Alert}
use Rattle.flight_forecast.specs.InOrder.{CoverInOrder}
use Rattle.flight_forecast.specs.Steps.{HasCuts}
use Rattle.flight_forecast.specs.Words.{InRun, LiesInRun, IsNearMaskAlways, verdict_against, HasVerdictAgainst}
use Rattle.flight_forecast.proofs.Printing.{flight_instants}
use Rattle.command_words.specs.Asked.{Asked}
use Rattle.command_words.specs.Asked.Asked.{Prediction, Demonstration, PredictionUp}
use Rattle.raim_run.specs.Alerts.{alert_of}
use Rattle.raim_run.specs.Answers.{AreFound}
use Rattle.raim_run.specs.Calls.{FilesOfCalls, AskedCalls}
use Rattle.raim_run.specs.Cases.{IsCaseOf}
use Rattle.raim_run.specs.Causes.{NoRunsCause}
use Rattle.raim_run.specs.Others.{StopsAtLast, AskedOthers}
use Rattle.raim_run.specs.Printed.{HasNote}
use Rattle.raim_run.specs.Statuses.{stop_status, fault_status}
use Rattle.raim_run.specs.Steps.{AreSteps}

-- the last file that was touched, and the calls, where a file stopped the reading
pub stopped_others : (left left' : FileNo → Option (List ℕ)) (faults faults' : FileNo → ℕ) (asked : Asked) (halt : Stop) → StopsAtLast left left' faults faults' asked (Err halt) → AskedOthers left left' faults faults' asked (stop_status halt)
stopped_others left left' faults faults' (Demonstration number) halt h = h
stopped_others left left' faults faults' (Prediction paths) stop.Memory h = tt
stopped_others left left' faults faults' (Prediction paths) (stop.Fault file) h = h file refl
stopped_others left left' faults faults' (Prediction paths) (stop.TooLong file) h = h file refl
stopped_others left left' faults faults' (Prediction paths) (stop.Refused file line why) h = h file refl
stopped_others left left' faults faults' (PredictionUp paths vertical_mm) stop.Memory h = tt
stopped_others left left' faults faults' (PredictionUp paths vertical_mm) (stop.Fault file) h = h file refl
stopped_others left left' faults faults' (PredictionUp paths vertical_mm) (stop.TooLong file) h = h file refl
stopped_others left left' faults faults' (PredictionUp paths vertical_mm) (stop.Refused file line why) h = h file refl

pub stopped_calls : (asked : Asked) (halt : Stop) (made : List Call) → FilesOfCalls asked (Err halt) made → AskedCalls asked (stop_status halt) made
stopped_calls (Demonstration number) halt made h = h
stopped_calls (Prediction paths) stop.Memory made h = inr h
stopped_calls (Prediction paths) (stop.Fault file) made h = h
stopped_calls (Prediction paths) (stop.TooLong file) made h = inr (refl, h)
stopped_calls (Prediction paths) (stop.Refused file line why) made h = inl h
stopped_calls (PredictionUp paths vertical_mm) stop.Memory made h = inr h
stopped_calls (PredictionUp paths vertical_mm) (stop.Fault file) made h = h
stopped_calls (PredictionUp paths vertical_mm) (stop.TooLong file) made h = inr (refl, h)
stopped_calls (PredictionUp paths vertical_mm) (stop.Refused file line why) made h = inl h

-- the calls where all four files were read, and there is no forecast
pub judged_calls : (asked : Asked) (files : FlightFiles) (reason : SplitFault) (made : List Call) → FilesOfCalls asked (Ok files) made → AskedCalls asked (fault_status reason) made
judged_calls (Demonstration number) files reason made h = h
judged_calls (Prediction paths) files (none.Overflow at prn) made h = h
judged_calls (Prediction paths) files none.TooManyRuns made h = h
judged_calls (Prediction paths) files none.Memory made h = inl h
judged_calls (PredictionUp paths vertical_mm) files (none.Overflow at prn) made h = h
judged_calls (PredictionUp paths vertical_mm) files none.TooManyRuns made h = h
judged_calls (PredictionUp paths vertical_mm) files none.Memory made h = inl h

-- the runs of a flight, which lasts a day at most, can be counted
day : (ws : List Waypoint) → IsRoute ws → (flight_of ws).end ≤ℤ ((flight_of ws).first +ℤ pos day_ms)
day [] r = absurd (let some = r.some in omega arith)
day (w ∷ ws) r =
    let some = r.some in
    let points = w ∷ ws in
    let last = length points - 1 in
    let below : last < length points = omega arith in
    let long = r.points.within_a_day 0 last w (omega arith) below in
    subst (λ (t : ℤ). t ≤ℤ ((flight_of points).first +ℤ pos day_ms)) (time_at_place points last w below)
    (subst (λ (t : ℤ). (slice_index_or points last w).at ≤ℤ (t +ℤ pos day_ms)) (time_at_place points 0 w (omega arith)) long)

pub counted : (w : ℤ → ℤ → Verdict) (ws : List Waypoint) (runs : List Run) → IsRoute ws → HasRuns w (flight_of ws).first (flight_of ws).end runs → AreCountable runs
counted w ws runs r h = countable w (flight_of ws).first (flight_of ws).end runs h (day ws r)

-- a millisecond that overflows has the time of an instant
timed : (w : ℤ → ℤ → Verdict) (leap : ℕ) (ws : List Waypoint) (at : ℤ) (prn : ℕ) → IsRoute ws → AreInstants leap ws → OverflowsFirst w (flight_of ws).first (flight_of ws).end at prn → IsInstant leap at
timed w leap ws at prn r a first =
    let ends = flight_instants leap ws r a in
    let low = ends.0.0 in
    let high = ends.1.1 in
    let after = ordered w None (flight_of ws).first at first.runs first.before.cut in
    let before = first.within in
    (omega (arith, ints), omega (arith, ints))

module _ (asked : Asked) (holds : Text → Option Text) (c : Case) (is : IsCaseOf asked holds c) (alert : Alert) (held : alert ≡ alert_of asked) where
  -- what the forecast of a case says is what is asked for
  pub found_by : (runs : List Run) → HasRuns (verdict_against alert c) (flight_of c.route).first (flight_of c.route).end runs → CoverInOrder (flight_of c.route) runs
      → ((run : Run) (t : ℤ) → Contains runs run → is_certain run.verdict ≡ true → InRun run t → HasVerdictAgainst alert c t run.verdict)
      → ((t : ℤ) (comparison : Cmp) → InFlight c t → (LiesInRun runs t (Undecided comparison) ↔ (verdict_against alert c t t ≡ Undecided comparison)))
      → ((run : Run) (prn : ℕ) (t : ℤ) → Contains runs run → run.verdict ≡ Undecided (Mask prn) → InRun run t → IsNearMaskAlways c t prn)
      → ((level : Level) (t : ℤ) → InFlight c t → Solution level c t) → AreFound asked holds c runs
  found_by runs has order right undecided near exists = record {
    accepted = is;
    runs_are = subst (λ (a : Alert). HasRuns (verdict_against a c) (flight_of c.route).first (flight_of c.route).end runs) held has;
    in_order = order;
    right = subst (λ (a : Alert). (run : Run) (t : ℤ) → Contains runs run → is_certain run.verdict ≡ true → InRun run t → HasVerdictAgainst a c t run.verdict) held right;
    undecided = subst (λ (a : Alert). (t : ℤ) (comparison : Cmp) → InFlight c t → (LiesInRun runs t (Undecided comparison) ↔ (verdict_against a c t t ≡ Undecided comparison))) held undecided;
    near = near;
    exists = exists;
  }

  -- why a case has no forecast
  pub unforecast : (before now : FileNo → ℕ) (reason : SplitFault)
      → ((at : ℤ) (prn : ℕ) → reason ≡ none.Overflow at prn → OverflowsFirst (verdict_against alert c) (flight_of c.route).first (flight_of c.route).end at prn)
      → (reason ≡ none.TooManyRuns → HasTooManyRuns (verdict_against alert c) (flight_of c.route).first (flight_of c.route).end)
      → NoRunsCause asked holds before now (fault_status reason)
  unforecast before now (none.Overflow at prn) overflows many = record {
    case = c;
    accepted = is;
    first = subst (λ (a : Alert). OverflowsFirst (verdict_against a c) (flight_of c.route).first (flight_of c.route).end at prn) held (overflows at prn refl);
  }
  unforecast before now none.TooManyRuns overflows many = record {
    case = c;
    accepted = is;
    many = subst (λ (a : Alert). HasTooManyRuns (verdict_against a c) (flight_of c.route).first (flight_of c.route).end) held (many refl);
  }
  unforecast before now none.Memory overflows many = tt

  pub noted : (reason : SplitFault) → AreInstants c.limits.leap c.route
      → ((at : ℤ) (prn : ℕ) → reason ≡ none.Overflow at prn → OverflowsFirst (verdict_against alert c) (flight_of c.route).first (flight_of c.route).end at prn)
      → HasNote asked holds c.limits.leap (fault_status reason)
  noted (none.Overflow at prn) instants overflows = record {
    case = c;
    accepted = is;
    leap_is = refl;
    instant = timed (verdict_against alert c) c.limits.leap c.route at prn is.ranges.route instants (overflows at prn refl);
  }
  noted none.TooManyRuns instants overflows = tt
  noted none.Memory instants overflows = tt

  -- the steps are those of judging the case
  pub stepped : (old new : ℕ) → ((cuts : List ℤ) → CutsFlight c cuts → new ≤ old + judgements_of_all (verdict_against alert c) cuts) → (new ≡ old) ⊎ HasCuts c → AreSteps asked holds old new
  stepped old new few (inl same) = inl same
  stepped old new few (inr (cuts, cut)) =
      inr (record { case = c; accepted = is; cuts = cuts; cut = cut; few = subst (λ (a : Alert). new ≤ old + judgements_of_all (verdict_against a c) cuts) held (few cuts cut) })
