use Rattle.std.proofs.Common.{◌≡◌, ◌++◌, take}
use Rattle.raim_model.specs.Route.{flight_of}
use Rattle.piece_verdict.specs.Cuts.{outage_times_inside, waypoint_times}
use Rattle.piece_verdict.proofs.cuts.cut_times_of.Given as goal

abbrev pub invariant-loop-outage : goal.invariant-loop-outage
invariant-loop-outage l = l.times.items ≡ waypoint_times l.route ++ outage_times_inside (flight_of l.route) (take l.outage-index l.outages)
