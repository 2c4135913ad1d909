-- What four texts settle.
use Rattle.std.proofs.Common.{◌≡◌, ◌≢◌, ◌⊎◌, ℕ, List, None, inl, inr, Result, Ok, Err, IfOk, IfErr, IsOkAnd, refl, sym, ap, subst, arith}
use Rattle.raim_model.specs.declared.FileNo.{FileNo}
use Rattle.raim_model.specs.declared.Run.{Run}
use Rattle.raim_model.specs.Route.{flight_of}
use Rattle.raim_model.specs.Runs.{HasRuns}
use Rattle.raim_model.specs.Solution.{Case}
use Rattle.raim_base.specs.Causes.{Rose}
use Rattle.raim_base.specs.MemDeskState.{Each}
use Rattle.text_lines.specs.Lines.{Text}
use Rattle.time_laws.proofs.RunLemmas.{AreRunsAfter-one}
use Rattle.report_text.specs.Report.{IsReport}
use Rattle.report_text.proofs.ReportLaws.{one_report}
use Rattle.flight_files.specs.Settled.{AreTold}
use Rattle.flight_forecast.specs.Words.{verdict_against}
use Rattle.raim_run.specs.Alerts.{alert_of}
use Rattle.raim_run.specs.declared.ending.Ending.{Ending}
use Rattle.raim_run.specs.declared.status.Status.{Status}
use Rattle.raim_run.specs.declared.status.Status.TheVariants.{Done, Usage, Refused, ReadFault, WriteFault, Overflow, TooManyRuns, Memory}
use Rattle.raim_run.specs.Causes.{NoRunsCause, StatusCause}
use Rattle.raim_run.specs.Settled.{IsSettled}
use Rattle.raim_run.specs.Sources.{paths_of, told_of}
use Rattle.raim_run.specs.Texts.{from_texts, held_in, IsPredicted, IsUnpredicted, Settle}
use Rattle.raim_run.proofs.Clashes.{case_once}
use Rattle.raim_run.proofs.Settling.{settled_by}

none_rose : Rose 0 0 → ⊥
none_rose rose = omega (arith, rose)

-- the status of an answer
abbrev status_of : {V : Type 0} → Result V Status → Status
status_of (Ok text) = Done
status_of (Err status) = status

module _ (texts : Each Text) where
  -- a desk that never fails gives no fault
  pub unpredicted : (status : Status) → NoRunsCause from_texts (held_in texts) (λ file. 0) (λ file. 0) status → IsUnpredicted texts status
  unpredicted Done cause = cause
  unpredicted Usage cause = cause
  unpredicted (Refused file line why) cause = cause
  unpredicted (ReadFault file) cause = none_rose cause.1.rose
  unpredicted WriteFault cause = cause
  unpredicted (Overflow at prn) cause = cause
  unpredicted TooManyRuns cause = cause
  unpredicted Memory cause = cause

  pub no_runs : {V : Type 0} (result : Result V Ending) → IfErr result (λ ending. NoRunsCause from_texts (held_in texts) (λ file. 0) (λ file. 0) ending.status)
      → IfErr result (λ ending. IsUnpredicted texts ending.status)
  no_runs (Ok v) cause = tt
  no_runs (Err ending) cause = unpredicted ending.status cause

  -- what the names hold is told
  pub are_told : AreTold (told_of from_texts (held_in texts)) (paths_of from_texts)
  are_told file = refl

  same_runs : (c d : Case) (xs ys : List Run) → c ≡ d → HasRuns (verdict_against (alert_of from_texts) c) (flight_of c.route).first (flight_of c.route).end xs
      → HasRuns (verdict_against (alert_of from_texts) d) (flight_of d.route).first (flight_of d.route).end ys → xs ≡ ys
  same_runs c d xs ys e p q =
      let r = subst (λ (k : Case). HasRuns (verdict_against (alert_of from_texts) k) (flight_of k.route).first (flight_of k.route).end xs) e p in
      AreRunsAfter-one (verdict_against (alert_of from_texts) d) None (flight_of d.route).first (flight_of d.route).end xs ys r.cut q.cut

  -- there is one text that is predicted
  pub text_once : (text other : Text) → IsPredicted texts text → IsPredicted texts other → text ≡ other
  text_once text other a b =
      let case = case_once from_texts (held_in texts) are_told a.case b.case a.found.accepted b.found.accepted in
      let runs = same_runs a.case b.case a.runs b.runs case a.found.runs_are b.found.runs_are in
      let leap : a.case.limits.leap ≡ b.case.limits.leap = ap (λ (c : Case). c.limits.leap) case in
      let first = subst (λ (l : ℕ). IsReport l a.runs text) leap a.written in
      one_report b.case.limits.leap b.runs other text b.written (subst (λ (rs : List Run). IsReport b.case.limits.leap rs text) runs first)

  -- the causes of an answer, as those of a run that wrote what it has
  cause_of : {V : Type 0} (bytes : V → Text) (result : Result V Status) → IfOk result (λ v. IsPredicted texts (bytes v)) → IfErr result (IsUnpredicted texts)
      → StatusCause from_texts (held_in texts) (λ file. 0) (λ file. 0) None None 0 0 (status_of result)
  cause_of bytes (Ok v) ok err = record { text = bytes v; answer = ok; gained = tt }
  cause_of bytes (Err Done) ok err = absurd err
  cause_of bytes (Err Usage) ok err = err
  cause_of bytes (Err (Refused file line why)) ok err = err
  cause_of bytes (Err (ReadFault file)) ok err = absurd err
  cause_of bytes (Err WriteFault) ok err = absurd err
  cause_of bytes (Err (Overflow at prn)) ok err = err
  cause_of bytes (Err TooManyRuns) ok err = err
  cause_of bytes (Err Memory) ok err = err

  -- an answer is told by its status
  is_err : {V : Type 0} (result : Result V Status) (status : Status) → IfErr result (IsUnpredicted texts) → status_of result ≡ status → status ≢ Done → result ≡ Err status
  is_err (Ok v) status err e other = absurd (other (sym e))
  is_err (Err was) status err e other = ap Err e

  no_fault : {V : Type 0} (result : Result V Status) (file : FileNo) → IfErr result (IsUnpredicted texts) → status_of result ≢ ReadFault file
  no_fault (Ok v) file err e = cc
  no_fault (Err was) file err e = subst (IsUnpredicted texts) e err

  is_done : {V : Type 0} (bytes : V → Text) (result : Result V Status) (text : Text) → IfOk result (λ v. IsPredicted texts (bytes v)) → IfErr result (IsUnpredicted texts)
      → IsPredicted texts text → (status_of result ≡ Done) ⊎ (status_of result ≡ WriteFault) → IsOkAnd result (λ v. bytes v ≡ text)
  is_done bytes (Ok v) text ok err is done = text_once (bytes v) text ok is
  is_done bytes (Err was) text ok err is (inl e) = absurd (subst (IsUnpredicted texts) e err)
  is_done bytes (Err was) text ok err is (inr e) = absurd (subst (IsUnpredicted texts) e err)

  not_memory : {V : Type 0} (result : Result V Status) → result ≢ Err Memory → status_of result ≢ Memory
  not_memory (Ok v) m e = cc
  not_memory (Err was) m e = m (ap Err e)

  pub texts_settle : {V : Type 0} (bytes : V → Text) (result : Result V Status) → IfOk result (λ v. IsPredicted texts (bytes v)) → IfErr result (IsUnpredicted texts)
      → result ≢ Err Memory → Settle texts bytes result
  texts_settle bytes result ok err m =
      let settled : IsSettled from_texts (held_in texts) (status_of result)
      = settled_by from_texts (held_in texts) (λ file. 0) (λ file. 0) None None 0 0 (status_of result) (cause_of bytes result ok err) are_told (not_memory result m) in
      record {
        predicted = λ text is. is_done bytes result text ok err is (settled.answered is.case is.runs is.found.accepted is.found.runs_are (λ file le. no_fault result file err));
        refused = λ file line why is. is_err result (Refused file line why) err (settled.refused file line why is (λ f le. no_fault result f err)) (λ e. cc);
        overflow = λ at prn is. is_err result (Overflow at prn) err (settled.overflow is.case at prn is.accepted is.first (λ f le. no_fault result f err)) (λ e. cc);
        too_many = λ is. is_err result TooManyRuns err (settled.too_many is.case is.accepted is.many (λ f le. no_fault result f err)) (λ e. cc);
      }
