-- From the cause of the status to what the bytes settle.
use Rattle.std.proofs.Common.{◌≡◌, ◌≢◌, ◌≤◌, ◌⊎◌, ℕ, ℤ, List, Err, refl, subst, inl, inr, arith, Result}
use Rattle.std.specs.declared.option.Option.{Option}
use Rattle.raim_model.specs.declared.FileNo.{FileNo}
use Rattle.raim_model.specs.declared.FileNo.TheVariants.{Limits, Almanac, Outages, Route}
use Rattle.raim_model.specs.declared.Run.{Run}
use Rattle.raim_model.specs.declared.SplitFault.TheVariants as split
use Rattle.raim_model.specs.declared.TextWhy.{TextWhy}
use Rattle.raim_model.specs.declared.TextWhy.TheVariants.{FileTooLong}
use Rattle.raim_model.specs.declared.Verdict.{Verdict}
use Rattle.raim_model.specs.Route.{flight_of}
use Rattle.raim_model.specs.Runs.{HasRuns, HasTooManyRuns, OverflowsFirst}
use Rattle.raim_model.specs.Solution.{Case}
use Rattle.text_lines.specs.Lines.{Text}
use Rattle.time_laws.proofs.FaultLemmas.{runs-no_fault, faults-one}
use Rattle.flight_files.specs.Order.{place_of}
use Rattle.flight_files.specs.Settled.{AreTold}
use Rattle.flight_files.specs.declared.Stop.{Stop}
use Rattle.flight_files.specs.declared.Stop.TheVariants as stop
use Rattle.flight_files.specs.Stops.{StopCause}
use Rattle.flight_files.proofs.Settling.{settled_by as files_settled_by}
use Rattle.flight_forecast.specs.Words.{verdict_against}
use Rattle.command_words.specs.Asked.{Asked}
use Rattle.raim_run.specs.declared.status.Status.{Status}
use Rattle.raim_run.specs.declared.status.Status.TheVariants.{Done, Usage, Refused, ReadFault, WriteFault, Overflow, TooManyRuns, Memory}
use Rattle.raim_run.specs.Alerts.{alert_of}
use Rattle.raim_run.specs.Cases.{IsCaseOf}
use Rattle.raim_run.specs.Causes.{StatusCause}
use Rattle.raim_run.specs.Settled.{IsFaultlessUpTo, Settles, Completes}
use Rattle.raim_run.specs.Sources.{paths_of, told_of}
use Rattle.raim_run.specs.Stopped.{IsRefused}
use Rattle.raim_run.proofs.Clashes.{refused_or_accepted, case_once}

-- what a flight has, by the status that it gives
abbrev Gives : (ℤ → ℤ → Verdict) → (first end : ℤ) → Status → Type 0
Gives w first end Done = (runs : List Run) × HasRuns w first end runs
Gives w first end WriteFault = (runs : List Run) × HasRuns w first end runs
Gives w first end (Overflow at prn) = OverflowsFirst w first end at prn
Gives w first end TooManyRuns = HasTooManyRuns w first end
Gives w first end status = ⊥

abbrev GivesOf : Asked → Case → Status → Type 0
GivesOf asked c status = Gives (verdict_against (alert_of asked) c) (flight_of c.route).first (flight_of c.route).end status

-- a flight has its runs, or too many, or a first millisecond that overflows, and only one of these
module _ (w : ℤ → ℤ → Verdict) (first end : ℤ) where
  with_runs : (status : Status) (runs : List Run) → Gives w first end status → HasRuns w first end runs → (status ≡ Done) ⊎ (status ≡ WriteFault)
  with_runs Done runs has h = inl refl
  with_runs WriteFault runs has h = inr refl
  with_runs (Overflow at prn) runs has h = let no = runs-no_fault w first end runs (split.Overflow at prn) h has in cc
  with_runs TooManyRuns runs has h = let no = runs-no_fault w first end runs split.TooManyRuns h has in cc
  with_runs Usage runs has h = absurd has
  with_runs (Refused file line why) runs has h = absurd has
  with_runs (ReadFault file) runs has h = absurd has
  with_runs Memory runs has h = absurd has

  with_overflow : (status : Status) (at : ℤ) (prn : ℕ) → Gives w first end status → OverflowsFirst w first end at prn → status ≡ Overflow at prn
  with_overflow Done at prn has h = let no = runs-no_fault w first end has.0 (split.Overflow at prn) has.1 h in cc
  with_overflow WriteFault at prn has h = let no = runs-no_fault w first end has.0 (split.Overflow at prn) has.1 h in cc
  with_overflow (Overflow a p) at prn has h = let one = faults-one w first end (split.Overflow a p) (split.Overflow at prn) has h (λ e. cc) (λ e. cc) in cc
  with_overflow TooManyRuns at prn has h = let one = faults-one w first end split.TooManyRuns (split.Overflow at prn) has h (λ e. cc) (λ e. cc) in cc
  with_overflow Usage at prn has h = absurd has
  with_overflow (Refused file line why) at prn has h = absurd has
  with_overflow (ReadFault file) at prn has h = absurd has
  with_overflow Memory at prn has h = absurd has

  with_many : (status : Status) → Gives w first end status → HasTooManyRuns w first end → status ≡ TooManyRuns
  with_many Done has h = let no = runs-no_fault w first end has.0 split.TooManyRuns has.1 h in cc
  with_many WriteFault has h = let no = runs-no_fault w first end has.0 split.TooManyRuns has.1 h in cc
  with_many (Overflow a p) has h = let one = faults-one w first end (split.Overflow a p) split.TooManyRuns has h (λ e. cc) (λ e. cc) in cc
  with_many TooManyRuns has h = refl
  with_many Usage has h = absurd has
  with_many (Refused file line why) has h = absurd has
  with_many (ReadFault file) has h = absurd has
  with_many Memory has h = absurd has

err_is : {A E : Type 0} {a b : E} → ◌≡◌ {A = Result A E} (Err a) (Err b) → a ≡ b
err_is e = cc

fault_is : {f g : FileNo} → stop.Fault f ≡ stop.Fault g → ReadFault f ≡ ReadFault g
fault_is e = cc

pub at_most_last : (file : FileNo) → place_of file ≤ place_of Almanac
at_most_last Limits = omega arith
at_most_last Route = omega arith
at_most_last Outages = omega arith
at_most_last Almanac = omega arith

module _ (asked : Asked) (holds : Text → Option Text) (before now : FileNo → ℕ) (old new : Option Text) (failed fails : ℕ) where
  abbrev Cause : Status → Type 0
  Cause status = StatusCause asked holds before now old new failed fails status

  module _ (told : AreTold (told_of asked holds) (paths_of asked)) where
    -- of two files that stop the reading there is one
    stopped_once : (halt : Stop) → StopCause (told_of asked holds) (paths_of asked) before now halt → halt ≢ stop.Memory → (file : FileNo) (line : ℕ) (why : TextWhy)
        → IsRefused asked holds file line why → ((f : FileNo) → place_of f ≤ place_of file → halt ≢ stop.Fault f)
        → (halt ≡ stop.Refused file line why) ⊎ ((line ≡ 0) × (why ≡ FileTooLong) × (halt ≡ stop.TooLong file))
    stopped_once halt cause m file line why (inl refused) faultless =
        let settled = files_settled_by (told_of asked holds) (paths_of asked) before now (Err halt) tt tt cause told (λ e. m (err_is e)) in
        inl (err_is (settled.refused file line why refused (λ f le e. faultless f le (err_is e))))
    stopped_once halt cause m file line why (inr (zero, is, long)) faultless =
        let settled = files_settled_by (told_of asked holds) (paths_of asked) before now (Err halt) tt tt cause told (λ e. m (err_is e)) in
        inr (zero, is, err_is (settled.too_long file long (λ f le e. faultless f le (err_is e))))

    pub by_refusal : (status : Status) → Cause status → status ≢ Memory → (file : FileNo) (line : ℕ) (why : TextWhy)
        → IsRefused asked holds file line why → IsFaultlessUpTo file status → status ≡ Refused file line why
    by_refusal Done c m file line why r faultless = absurd (refused_or_accepted asked holds told file line why c.answer.case r c.answer.found.accepted)
    by_refusal Usage c m file line why r faultless = absurd c
    by_refusal (Refused f n w) (inl here) m file line why r faultless = elim (stopped_once (stop.Refused f n w) here (λ e. cc) file line why r (λ g le e. cc)) [
      | inl same ↦ cc
      | inr (zero, is, long) ↦ cc
    ]
    by_refusal (Refused f n w) (inr (n_zero, w_is, here)) m file line why r faultless = elim (stopped_once (stop.TooLong f) here (λ e. cc) file line why r (λ g le e. cc)) [
      | inl same ↦ cc
      | inr (zero, is, long) ↦ cc
    ]
    by_refusal (ReadFault f) c m file line why r faultless = elim (stopped_once (stop.Fault f) c.1 (λ e. cc) file line why r (λ g le e. faultless g le (fault_is e))) [
      | inl same ↦ cc
      | inr (zero, is, long) ↦ cc
    ]
    by_refusal WriteFault c m file line why r faultless = absurd (refused_or_accepted asked holds told file line why c.answer.case r c.answer.found.accepted)
    by_refusal (Overflow at prn) c m file line why r faultless = absurd (refused_or_accepted asked holds told file line why c.case r c.accepted)
    by_refusal TooManyRuns c m file line why r faultless = absurd (refused_or_accepted asked holds told file line why c.case r c.accepted)
    by_refusal Memory c m file line why r faultless = absurd (m refl)

    -- what the case's flight has
    given : (status : Status) → Cause status → status ≢ Memory → (c : Case) → IsCaseOf asked holds c → IsFaultlessUpTo Almanac status → GivesOf asked c status
    given Done h m c is faultless = subst (λ (d : Case). GivesOf asked d Done) (case_once asked holds told h.answer.case c h.answer.found.accepted is) (h.answer.runs, h.answer.found.runs_are)
    given Usage h m c is faultless = absurd h
    given (Refused file line why) h m c is faultless = absurd (refused_or_accepted asked holds told file line why c h is)
    given (ReadFault file) h m c is faultless = absurd (faultless file (at_most_last file) refl)
    given WriteFault h m c is faultless = subst (λ (d : Case). GivesOf asked d WriteFault) (case_once asked holds told h.answer.case c h.answer.found.accepted is) (h.answer.runs, h.answer.found.runs_are)
    given (Overflow at prn) h m c is faultless = subst (λ (d : Case). GivesOf asked d (Overflow at prn)) (case_once asked holds told h.case c h.accepted is) h.first
    given TooManyRuns h m c is faultless = subst (λ (d : Case). GivesOf asked d TooManyRuns) (case_once asked holds told h.case c h.accepted is) h.many
    given Memory h m c is faultless = absurd (m refl)

  pub settled_by : (status : Status) → Cause status → Settles asked holds status
  settled_by status cause told m = record {
    refused = by_refusal told status cause m;
    answered = λ c runs is has faultless. with_runs _ _ _ status runs (given told status cause m c is faultless) has;
    overflow = λ c at prn is has faultless. with_overflow _ _ _ status at prn (given told status cause m c is faultless) has;
    too_many = λ c is has faultless. with_many _ _ _ status (given told status cause m c is faultless) has;
  }

  pub completed_by : (status : Status) → Cause status → Completes asked holds before now failed fails status
  completed_by Done cause told c runs is has quiet whole = inl refl
  completed_by Usage cause told c runs is has quiet whole = absurd cause
  completed_by (Refused file line why) cause told c runs is has quiet whole = absurd (refused_or_accepted asked holds told file line why c cause is)
  completed_by (ReadFault file) cause told c runs is has quiet whole = absurd (quiet file cause.1.rose)
  completed_by WriteFault cause told c runs is has quiet whole = absurd (whole cause.rose)
  completed_by (Overflow at prn) cause told c runs is has quiet whole = elim (with_runs _ _ _ (Overflow at prn) runs (given told (Overflow at prn) cause (λ e. cc) c is (λ f le e. cc)) has) [
    | inl same ↦ cc
    | inr same ↦ cc
  ]
  completed_by TooManyRuns cause told c runs is has quiet whole = elim (with_runs _ _ _ TooManyRuns runs (given told TooManyRuns cause (λ e. cc) c is (λ f le e. cc)) has) [
    | inl same ↦ cc
    | inr same ↦ cc
  ]
  completed_by Memory cause told c runs is has quiet whole = inr refl
