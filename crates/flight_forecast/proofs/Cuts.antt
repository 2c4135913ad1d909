-- What splitting says of a flight's cuts, said of the flight.
use Rattle.std.specs.Prelude.{ℕ, ◌+◌, ◌≤◌, ℤ, List}
use Rattle.std.proofs.Common.{subst}
use Rattle.raim_model.specs.declared.verdict.Verdict.{Verdict}
use Rattle.raim_model.specs.CaseCuts.{CutsFlight}
use Rattle.raim_model.specs.CaseRanges.{IsCase}
use Rattle.raim_model.specs.Cuts.{first_cut, last_cut, judgements_of_all}
use Rattle.raim_model.specs.Route.{flight_of}
use Rattle.raim_model.specs.Solution.{Case}
use Rattle.flight_laws.proofs.OneList.{one_list}

-- from the first cut to the last is from the flight's first millisecond to its end
pub over_flight : (P : ℤ → ℤ → Type 0) (c : Case) (cuts : List ℤ) → CutsFlight c cuts → P (first_cut cuts) (last_cut cuts) → P (flight_of c.route).first (flight_of c.route).end
over_flight P c cuts h p = subst (λ (e : ℤ). P (flight_of c.route).first e) h.last (subst (λ (f : ℤ). P f (last_cut cuts)) h.first p)

-- a bound by the judgements between the cuts is one between any cuts of the flight
pub any_cuts : (w : ℤ → ℤ → Verdict) (c : Case) → IsCase c → (cuts : List ℤ) → CutsFlight c cuts → (old new : ℕ) → new ≤ old + judgements_of_all w cuts
    → (others : List ℤ) → CutsFlight c others → new ≤ old + judgements_of_all w others
any_cuts w c i cuts h old new few others h' = subst (λ (xs : List ℤ). new ≤ old + judgements_of_all w xs) (one_list c i cuts others h h') few
