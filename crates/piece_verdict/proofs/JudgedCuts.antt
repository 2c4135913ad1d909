-- The root pieces between the cuts of a flight, held against an alert limit.
use Rattle.std.specs.Prelude.{ℤ, List, [], ◌∷◌, IfOk, Ok, Err}
use Rattle.std.specs.declared.result.Result.{Result}
use Rattle.raim_model.specs.CaseCuts.{MayBeJudged}
use Rattle.raim_model.specs.Cuts.{AreCutsFrom, AreCuts}
use Rattle.raim_model.specs.Solution.{Case}
use Rattle.piece_verdict.specs.declared.alert.Alert.{Alert}
use Rattle.piece_verdict.specs.Alerts.{IsAlert, MayBeJudgedAgainst}

-- from a first cut on
against_from : (alert : Alert) (c : Case) → IsAlert alert → (first : ℤ) (cuts : List ℤ) → AreCutsFrom (MayBeJudged c) first cuts → AreCutsFrom (MayBeJudgedAgainst alert c) first cuts
against_from alert c l first [] h = h
against_from alert c l first (next ∷ cuts) h = (h.0, h.1, record { judged = h.2; held = l }, against_from alert c l next cuts h.3)

-- the root pieces between cuts may be judged
cuts_against : (alert : Alert) (c : Case) → IsAlert alert → (cuts : List ℤ) → AreCuts (MayBeJudged c) cuts → AreCuts (MayBeJudgedAgainst alert c) cuts
cuts_against alert c l [] h = h
cuts_against alert c l (only ∷ []) h = h
cuts_against alert c l (first ∷ next ∷ cuts) h = against_from alert c l first (next ∷ cuts) h

-- where there are cuts
pub root_pieces_against : {T E : Type 0} (items : T → List ℤ) (alert : Alert) (c : Case) → IsAlert alert → (found : Result T E) → IfOk found (λ cuts. AreCuts (MayBeJudged c) (items cuts)) → IfOk found (λ cuts. AreCuts (MayBeJudgedAgainst alert c) (items cuts))
root_pieces_against items alert c l (Ok cuts) h = cuts_against alert c l (items cuts) h
root_pieces_against items alert c l (Err fault) h = h
