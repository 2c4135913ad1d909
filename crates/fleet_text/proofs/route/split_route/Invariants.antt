use Rattle.std.proofs.Common.{◌≡◌, ◌≤◌, ◌-◌, length, take, drop}
use Rattle.fleet_text.specs.Routes.{onto_route, routes_of}
use Rattle.fleet_text.proofs.route.split_route.Given as goal

-- the lines so far part nothing
abbrev pub invariant-loop-len : goal.invariant-loop-len
invariant-loop-len l = record { within : l.end ≤ length l.text; before : routes_of l.text ≡ onto_route (take l.end l.text) (routes_of (drop l.end l.text)) }

abbrev pub decreases-loop-len : goal.decreases-loop-len
decreases-loop-len l = length l.text - l.end
