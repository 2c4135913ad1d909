-- The leg of a piece inside one root piece: it is that of each of its milliseconds, it is the one that is found, and its waypoints are
-- the route's.
use Rattle.std.specs.Prelude.{◌≡◌, suc, ℤ, ◌≤ℤ◌, ◌<ℤ◌, All, Some, List, [], ◌++◌, ◌∷◌}
use Rattle.std.proofs.Common.{arith, subst}
use Rattle.std.proofs.lemmas.Int.{ints}
use Rattle.raim_model.specs.declared.waypoint.Waypoint.{Waypoint}
use Rattle.raim_model.specs.CaseCuts.{InRootPiece}
use Rattle.raim_model.specs.CaseRanges.{IsCase}
use Rattle.raim_model.specs.Ranges.{IsWaypoint}
use Rattle.raim_model.specs.Receiver.{OnLeg}
use Rattle.raim_model.specs.Solution.{Case}
use Rattle.flight_laws.specs.Legs.{leg_at}
use Rattle.flight_laws.proofs.Legs.{leg_at_is, leg_from, leg_through}

-- the leg of a millisecond of the piece, at any other one of it
unfoldable pub leg_over : (c : Case) (first last t a : ℤ) → InRootPiece c first last → first ≤ℤ t → t ≤ℤ last → first ≤ℤ a → a ≤ℤ last → OnLeg c.route t → OnLeg c.route a
leg_over c first last t a p low high from to l =
    let s : l.start.at ≤ℤ first = leg_from c first last t p low high l in
    let o : t <ℤ l.stop.at = l.not_over in
    let f : OnLeg c.route first = record { before = l.before; start = l.start; stop = l.stop; after = l.after; neighbours = l.neighbours; started = s; not_over = omega (arith, ints) } in
    let e : a <ℤ l.stop.at = leg_through c first last a p from to f in
    record { before = l.before; start = l.start; stop = l.stop; after = l.after; neighbours = l.neighbours; started = omega (arith, ints); not_over = e }

-- the leg that is found
pub leg_found : (c : Case) → IsCase c → (t : ℤ) (l : OnLeg c.route t) → leg_at c.route t ≡ Some record { start = l.start; stop = l.stop }
leg_found c i t l = leg_at_is c.route i.route.points.rising t l

-- the waypoints of a leg are the route's
pub leg_points : (c : Case) → IsCase c → (t : ℤ) (l : OnLeg c.route t) → IsWaypoint l.start × IsWaypoint l.stop
leg_points c i t l =
    let all : All IsWaypoint (l.before ++ l.start ∷ l.stop ∷ l.after) = subst (λ ws. All IsWaypoint ws) l.neighbours i.route.points.each in
    (at_start l.before l.start l.stop l.after all, at_stop l.before l.start l.stop l.after all)
  where
    at_start : (ws : List Waypoint) (u v : Waypoint) (vs : List Waypoint) → All IsWaypoint (ws ++ u ∷ v ∷ vs) → IsWaypoint u
    at_start [] u v vs h = h 0 u (omega arith)
    at_start (w ∷ ws) u v vs h = at_start ws u v vs (λ k d p. h (suc k) d (omega arith))

    at_stop : (ws : List Waypoint) (u v : Waypoint) (vs : List Waypoint) → All IsWaypoint (ws ++ u ∷ v ∷ vs) → IsWaypoint v
    at_stop [] u v vs h = h 1 u (omega arith)
    at_stop (w ∷ ws) u v vs h = at_stop ws u v vs (λ k d p. h (suc k) d (omega arith))
