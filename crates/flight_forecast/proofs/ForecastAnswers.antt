-- What a forecast answers, from what splitting its flight gives.
use Rattle.std.specs.Prelude.{◌≡◌, ◌↔◌, ◌⊎◌, ℕ, ℤ, true, List, All, Contains, Result, Ok, Err, IfOk, IsOkAnd, IsErrOf}
use Rattle.std.proofs.Common.{Vec, Global, inl, inr, sym, subst}
use Rattle.raim_model.specs.declared.verdict.Cmp.{Cmp}
use Rattle.raim_model.specs.declared.verdict.Cmp.TheVariants.{Mask}
use Rattle.raim_model.specs.declared.verdict.Run.{Run}
use Rattle.raim_model.specs.declared.verdict.SplitFault.{SplitFault}
use Rattle.raim_model.specs.declared.verdict.SplitFault.TheVariants as split
use Rattle.raim_model.specs.declared.verdict.Verdict.TheVariants.{Undecided}
use Rattle.raim_model.specs.CaseRanges.{IsCase}
use Rattle.raim_model.specs.Judgements.{is_certain}
use Rattle.raim_model.specs.Route.{flight_of}
use Rattle.raim_model.specs.Solution.{Case, InFlight}
use Rattle.route_interp.specs.Answers.{AreInstants}
use Rattle.report_text.specs.Report.{IsPrintable}
use Rattle.flight_laws.proofs.Cuts.{flight_times}
use Rattle.time_split.specs.Faults.{FailsExactly}
use Rattle.verdict_laws.specs.NearMask.{IsNearMaskAlways}
use Rattle.case_laws.specs.Forecast.{InRun, LiesInRun}
use Rattle.piece_verdict.specs.declared.Alert.{Alert}
use Rattle.flight_forecast.specs.Alerts.{IsAlert, verdict_against, HasVerdictAgainst, IsForecastAgainst}
use Rattle.flight_forecast.specs.InOrder.{CoverInOrder, IsWithin}
use Rattle.flight_forecast.proofs.Covers.{covers, within}
use Rattle.flight_forecast.proofs.Forecasts.{RunsOf, ManyRunsOf, OverflowOf, are_a_forecast, certain_right, mask_near}
use Rattle.flight_forecast.proofs.Printing.{printable}
use Rattle.flight_forecast.proofs.SplitFaults.{fault_settles, runs_settle}

-- what splitting the flight of a case gives
pub record IsSplit (alert : Alert) (c : Case) (result : Result (Vec Run Global) SplitFault) : Type 0 where
  pub runs : IfOk result (λ runs. RunsOf alert runs.items c)
  pub too_many : FailsExactly result split.TooManyRuns (ManyRunsOf alert c)
  pub overflow : (at : ℤ) (prn : ℕ) → FailsExactly result (split.Overflow at prn) (OverflowOf alert at prn c)

-- what the forecast of the case says
pub record Says (alert : Alert) (c : Case) (result : Result (Vec Run Global) SplitFault) : Type 0 where
  pub forecast : IfOk result (λ runs. IsForecastAgainst alert c runs.items)
  pub runs : IfOk result (λ runs. RunsOf alert runs.items c)
  pub in_order : IfOk result (λ runs. CoverInOrder (flight_of c.route) runs.items)
  pub right : IfOk result (λ runs. (run : Run) (t : ℤ) → Contains runs.items run → is_certain run.verdict ≡ true → InRun run t → HasVerdictAgainst alert c t run.verdict)
  pub undecided : IfOk result (λ runs. (t : ℤ) (comparison : Cmp) → InFlight c t → (LiesInRun runs.items t (Undecided comparison) ↔ (verdict_against alert c t t ≡ Undecided comparison)))
  pub near : IfOk result (λ runs. (run : Run) (prn : ℕ) (t : ℤ) → Contains runs.items run → run.verdict ≡ Undecided (Mask prn) → InRun run t → IsNearMaskAlways c t prn)
  pub within : IfOk result (λ runs. All (IsWithin (flight_of c.route)) runs.items)
  pub printable : AreInstants c.limits.leap c.route → IfOk result (λ runs. All (IsPrintable c.limits.leap) runs.items)
  pub overflow : (at : ℤ) (prn : ℕ) → FailsExactly result (split.Overflow at prn) (OverflowOf alert at prn c)
  pub too_many : FailsExactly result split.TooManyRuns (ManyRunsOf alert c)
  pub settled : (runs : List Run) → RunsOf alert runs c → IsOkAnd result (λ found. found.items ≡ runs) ⊎ IsErrOf result split.Memory

says : (alert : Alert) → IsAlert alert → (c : Case) → IsCase c → (result : Result (Vec Run Global) SplitFault) → IsSplit alert c result → Says alert c result
says alert a c i (Ok runs) s =
    let has : RunsOf alert runs.items c = s.runs in
    let is : IsForecastAgainst alert c runs.items = are_a_forecast alert a c i runs.items has in
    let inside : All (IsWithin (flight_of c.route)) runs.items = within (verdict_against alert c) (flight_of c.route) runs.items has.calm has.cut in
    record {
      forecast = is;
      runs = has;
      in_order = covers (verdict_against alert c) (flight_of c.route) runs.items (flight_times c i).some has.cut;
      right = certain_right alert c runs.items is;
      undecided = is.undecided;
      near = mask_near alert c runs.items is;
      within = inside;
      printable = λ instants. printable c.limits.leap c.route runs.items i.route inside instants;
      overflow = s.overflow;
      too_many = s.too_many;
      settled = λ others h. inl (runs_settle alert c runs.items others has h);
    }
says alert a c i (Err fault) s = record {
  forecast = tt;
  runs = tt;
  in_order = tt;
  right = tt;
  undecided = tt;
  near = tt;
  within = tt;
  printable = λ instants. tt;
  overflow = s.overflow;
  too_many = s.too_many;
  settled = λ runs h. inr (fault_settles {A = Vec Run Global} alert fault c s.too_many s.overflow runs h);
}

-- of the case that was formed
pub said : (alert : Alert) → IsAlert alert → (c formed : Case) → IsCase c → formed ≡ c → (result : Result (Vec Run Global) SplitFault) → IsSplit alert formed result → Says alert c result
said alert a c formed i is result s = says alert a c i result (subst (λ (k : Case). IsSplit alert k result) is s)
