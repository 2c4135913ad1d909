-- The limits that verdicts are held against.
use Rattle.std.specs.Prelude.{◌≤◌}
use Rattle.raim_model.specs.CaseRanges.{IsCase}
use Rattle.raim_model.specs.Solution.{Case}
use Rattle.piece_verdict.specs.declared.alert.Alert.{Alert}
use Rattle.piece_verdict.specs.declared.alert.Alert.TheVariants.{Horizontal, Vertical}
use Rattle.piece_verdict.specs.Alerts.{IsAlert, limit_of}

-- the alert limit is some millimetres
pub some_limit : (alert : Alert) → IsAlert alert → (c : Case) → IsCase c → 1 ≤ limit_of alert c
some_limit Horizontal a c i = i.limits.alert.0
some_limit (Vertical limit_mm) a c i = a.0
