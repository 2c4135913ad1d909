-- The times that cut a flight.
use Rattle.std.specs.Prelude.{ℤ, ◌<ℤ◌, ◌↔◌, ◌&&◌, int_lt, List, ◌++◌, map, AllPairs, Contains}
use Rattle.std.specs.List.{filter, flat_map}
use Rattle.raim_model.specs.declared.outage.Outage.{Outage}
use Rattle.raim_model.specs.declared.span.Span.{Span}
use Rattle.raim_model.specs.declared.waypoint.Waypoint.{Waypoint}
use Rattle.raim_model.specs.CaseCuts.{outage_times}
use Rattle.raim_model.specs.Route.{flight_of}

-- those strictly inside the flight
abbrev pub times_inside : Span → List ℤ → List ℤ
times_inside flight times = filter (λ t. int_lt flight.first t && int_lt t flight.end) times

abbrev pub waypoint_times : List Waypoint → List ℤ
waypoint_times route = map (λ w. w.at) route

-- the starts and the ends of the outages that are inside the flight
abbrev pub outage_times_inside : Span → List Outage → List ℤ
outage_times_inside flight outages = flat_map (λ outage. times_inside flight (outage_times outage)) outages

-- the times of the waypoints, and the starts and ends of the outages and the handovers strictly inside the flight
abbrev pub cut_times : List Waypoint → List Outage → (handovers : List ℤ) → List ℤ
cut_times route outages handovers = (waypoint_times route ++ outage_times_inside (flight_of route) outages) ++ times_inside (flight_of route) handovers

-- these times in rising order, each once
pub record AreCutTimes (route : List Waypoint) (outages : List Outage) (handovers cuts : List ℤ) : Type 0 where
  pub rising : AllPairs (λ before after. before <ℤ after) cuts
  pub all : (t : ℤ) → (Contains cuts t ↔ Contains (cut_times route outages handovers) t)
