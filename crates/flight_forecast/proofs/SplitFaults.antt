-- What stops a forecast is what stops splitting.
use Rattle.std.specs.Prelude.{◌≡◌, ℕ, ℤ, List, Err, None, IsErrOf}
use Rattle.std.proofs.Common.{refl}
use Rattle.raim_model.specs.declared.verdict.Run.{Run}
use Rattle.raim_model.specs.declared.verdict.SplitFault.{SplitFault}
use Rattle.raim_model.specs.declared.verdict.SplitFault.TheVariants as split
use Rattle.raim_model.specs.Route.{flight_of}
use Rattle.raim_model.specs.Solution.{Case}
use Rattle.time_laws.proofs.FaultLemmas.{runs-no_fault}
use Rattle.time_laws.proofs.RunLemmas.{AreRunsAfter-one}
use Rattle.time_split.specs.Faults.{FailsExactly}
use Rattle.piece_verdict.specs.declared.Alert.{Alert}
use Rattle.flight_forecast.specs.Alerts.{verdict_against}
use Rattle.flight_forecast.proofs.Forecasts.{RunsOf, ManyRunsOf, OverflowOf}

-- where there are runs, only want of memory stops splitting
pub fault_settles : {A : Type 0} (alert : Alert) (fault : SplitFault) (c : Case) → FailsExactly {A = A} (Err fault) split.TooManyRuns (ManyRunsOf alert c)
    → ((at : ℤ) (prn : ℕ) → FailsExactly {A = A} (Err fault) (split.Overflow at prn) (OverflowOf alert at prn c)) → (runs : List Run) → RunsOf alert runs c → IsErrOf {T = A} (Err fault) split.Memory
fault_settles alert (split.Overflow at prn) c many overflows runs has =
    let e : split.Overflow at prn ≡ split.Memory = runs-no_fault (verdict_against alert c) (flight_of c.route).first (flight_of c.route).end runs (split.Overflow at prn) has ((overflows at prn).0 refl) in cc
fault_settles alert split.TooManyRuns c many overflows runs has =
    let e : split.TooManyRuns ≡ split.Memory = runs-no_fault (verdict_against alert c) (flight_of c.route).first (flight_of c.route).end runs split.TooManyRuns has (many.0 refl) in cc
fault_settles alert split.Memory c many overflows runs has = refl

-- the runs that splitting answered are those that there are
pub runs_settle : (alert : Alert) (c : Case) (found runs : List Run) → RunsOf alert found c → RunsOf alert runs c → found ≡ runs
runs_settle alert c found runs f r = AreRunsAfter-one (verdict_against alert c) None (flight_of c.route).first (flight_of c.route).end found runs f.cut r.cut
