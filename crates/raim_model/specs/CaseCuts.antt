-- The cuts of a case's flight and its root pieces: stretches of time in which the leg, the almanac in force and the usable
-- satellites are the same.
use Rattle.std.specs.Prelude.{◌≡◌, ℤ, ◌≤ℤ◌, ◌<ℤ◌, ◌↔◌, ◌⊎◌, List, [], ◌∷◌, ◌++◌, map, Contains, AllPairs, Some, None}
use Rattle.std.specs.List.{flat_map}
use Rattle.std.specs.declared.option.Option.{Option}
use Rattle.raim_model.specs.declared.outage.Outage.{Outage}
use Rattle.raim_model.specs.AlmanacInForce.{IsHandover}
use Rattle.raim_model.specs.Route.{flight_of}
use Rattle.raim_model.specs.Solution.{Case}
use Rattle.raim_model.specs.CaseRanges.{IsCase}
use Rattle.raim_model.specs.Cuts.{first_cut, last_cut}

-- an outage's start, and its end where it has one
abbrev pub end_times : Option ℤ → List ℤ
end_times None = []
end_times (Some end) = end ∷ []

abbrev pub outage_times : Outage → List ℤ
outage_times outage = outage.start ∷ end_times outage.end

-- the times at which a leg or an outage changes: those of the waypoints, and the starts and the ends of the outages
abbrev pub change_times : Case → List ℤ
change_times c = map (λ w. w.at) c.route ++ flat_map outage_times c.outages

-- t is one of them, or the first millisecond of another almanac
abbrev pub IsChange : Case → ℤ → Type 0
IsChange c t = Contains (change_times c) t ⊎ IsHandover c.almanacs t

-- the cuts of the flight: its first millisecond, its end, and the changes strictly between, in rising order, each once
pub record CutsFlight (c : Case) (cuts : List ℤ) : Type 0 where
  pub rising : AllPairs (λ before after. before <ℤ after) cuts
  pub first : first_cut cuts ≡ (flight_of c.route).first
  pub last : last_cut cuts ≡ (flight_of c.route).end
  pub between : (t : ℤ) → (flight_of c.route).first <ℤ t → t <ℤ (flight_of c.route).end → (Contains cuts t ↔ IsChange c t)

-- the piece from first to last is inside one root piece: inside the flight, and nothing changes after its first
-- millisecond up to its last
pub record InRootPiece (c : Case) (first last : ℤ) : Type 0 where
  pub started : (flight_of c.route).first ≤ℤ first
  pub not_over : last <ℤ (flight_of c.route).end
  pub uncut : (t : ℤ) → IsChange c t → first <ℤ t → last <ℤ t

-- the piece from first to last lies between two neighbours of a list of cuts
pub record IsBetweenNeighbours (cuts : List ℤ) (first last : ℤ) : Type 0 where
  pub before : List ℤ
  pub from : ℤ
  pub next : ℤ
  pub after : List ℤ
  pub neighbours : cuts ≡ before ++ from ∷ next ∷ after
  pub started : from ≤ℤ first
  pub not_over : last <ℤ next

-- a piece that may be judged: of a case in its ranges, and inside one root piece
pub record MayBeJudged (c : Case) (first last : ℤ) : Type 0 where
  pub case : IsCase c
  pub piece : InRootPiece c first last
