-- The times that cut a flight, sorted and each once, are its cuts.
use Rattle.std.specs.Prelude.{◌≡◌, ◌≤◌, ℤ, ◌≤ℤ◌, ◌<ℤ◌, ◌⊎◌, ◌&&◌, int_lt, List, [], ◌∷◌, ◌++◌, length, map, AllPairs, Contains, refl}
use Rattle.std.specs.List.{flat_map}
use Rattle.std.proofs.Common.{arith, sym, subst, ◌∙◌, inl, inr}
use Rattle.std.proofs.lemmas.Int.{ints}
use Rattle.std.proofs.lemmas.List.Elements.{Contains-append_left, Contains-append_right, Contains-append_cases}
use Rattle.raim_model.specs.declared.outage.Outage.{Outage}
use Rattle.raim_model.specs.declared.waypoint.Waypoint.{Waypoint}
use Rattle.raim_model.specs.Ranges.{IsRoute}
use Rattle.raim_model.specs.Route.{flight_of}
use Rattle.raim_model.specs.Cuts.{first_cut, last_cut}
use Rattle.raim_model.specs.Solution.{Case}
use Rattle.raim_model.specs.CaseCuts.{outage_times, IsChange, CutsFlight}
use Rattle.raim_model.specs.AlmanacInForce.{time_of}
use Rattle.almanac_laws.specs.Handovers.{handovers_of, handovers}
use Rattle.almanac_laws.proofs.Listed.{listed_is, is_listed}
use Rattle.piece_verdict.specs.Cuts.{times_inside, waypoint_times, outage_times_inside, cut_times, AreCutTimes}
use Rattle.piece_verdict.proofs.Orders.{first_least, last_greatest, first_in, last_in, filter_keeps}
use Rattle.piece_verdict.proofs.FlightTimes.{times_rise, flight_first, flight_end, inside_all, inside_is, from_inside}

-- ---- the cuts
-- a time that cuts is that of a waypoint, or strictly inside the flight, of an outage or a handover
parts : (ws : List Waypoint) (os : List Outage) (hs : List ℤ) (t : ℤ) → Contains (cut_times ws os hs) t
    → Contains (waypoint_times ws) t ⊎ (((flight_of ws).first <ℤ t) × (t <ℤ (flight_of ws).end) × (Contains (flat_map outage_times os) t ⊎ Contains hs t))
parts ws os hs t m = elim (Contains-append_cases (waypoint_times ws ++ outage_times_inside (flight_of ws) os) (times_inside (flight_of ws) hs) t m) [
  | inl p ↦ elim (Contains-append_cases (waypoint_times ws) (outage_times_inside (flight_of ws) os) t p) [
    | inl q ↦ inl q
    | inr q ↦
        let r = from_inside (flight_of ws) (flat_map outage_times os) t (subst (λ xs. Contains xs t) (inside_all (flight_of ws) os) q) in
        inr (r.0, r.1, inl r.2)
  ]
  | inr p ↦ let r = from_inside (flight_of ws) hs t p in inr (r.0, r.1, inr r.2)
]

-- those of the waypoints cut
of_waypoint : (ws : List Waypoint) (os : List Outage) (hs : List ℤ) (t : ℤ) → Contains (waypoint_times ws) t → Contains (cut_times ws os hs) t
of_waypoint ws os hs t m =
    Contains-append_left (waypoint_times ws ++ outage_times_inside (flight_of ws) os) (times_inside (flight_of ws) hs) t
    (Contains-append_left (waypoint_times ws) (outage_times_inside (flight_of ws) os) t m)

-- and of the outages those strictly inside the flight
of_outage : (ws : List Waypoint) (os : List Outage) (hs : List ℤ) (t : ℤ) → (flight_of ws).first <ℤ t → t <ℤ (flight_of ws).end → Contains (flat_map outage_times os) t → Contains (cut_times ws os hs) t
of_outage ws os hs t low high m =
    Contains-append_left (waypoint_times ws ++ outage_times_inside (flight_of ws) os) (times_inside (flight_of ws) hs) t
    (Contains-append_right (waypoint_times ws) (outage_times_inside (flight_of ws) os) t
    (subst (λ xs. Contains xs t) (sym (inside_all (flight_of ws) os))
    (filter_keeps (λ u. int_lt (flight_of ws).first u && int_lt u (flight_of ws).end) (flat_map outage_times os) t (inside_is (flight_of ws) t low high) m)))

-- and of the handovers
of_handover : (ws : List Waypoint) (os : List Outage) (hs : List ℤ) (t : ℤ) → (flight_of ws).first <ℤ t → t <ℤ (flight_of ws).end → Contains hs t → Contains (cut_times ws os hs) t
of_handover ws os hs t low high m =
    Contains-append_right (waypoint_times ws ++ outage_times_inside (flight_of ws) os) (times_inside (flight_of ws) hs) t
    (filter_keeps (λ u. int_lt (flight_of ws).first u && int_lt u (flight_of ws).end) hs t (inside_is (flight_of ws) t low high) m)

-- each of them is in the flight or its end
within : (ws : List Waypoint) (os : List Outage) (hs : List ℤ) → AllPairs (λ before after. before.at <ℤ after.at) ws → (t : ℤ) → Contains (cut_times ws os hs) t
    → (first_cut (waypoint_times ws) ≤ℤ t) × (t ≤ℤ last_cut (waypoint_times ws))
within ws os hs rising t m = elim (parts ws os hs t m) [
  | inl p ↦ (first_least (waypoint_times ws) t (times_rise ws rising) p, last_greatest (waypoint_times ws) t (times_rise ws rising) p)
  | inr q ↦
      let a : first_cut (waypoint_times ws) <ℤ t = subst (λ u. u <ℤ t) (flight_first ws) q.0 in
      let b : t <ℤ last_cut (waypoint_times ws) = subst (λ u. t <ℤ u) (flight_end ws) q.1 in
      (omega (arith, ints), omega (arith, ints))
]

-- a route has a time
some_time : (ws : List Waypoint) → 2 ≤ length ws → (t : ℤ) × Contains (waypoint_times ws) t
some_time [] h = absurd (omega arith)
some_time (w ∷ ws) h = (w.at, (0, omega arith, refl))

-- the first of them is the flight's first millisecond
at_first : (ws : List Waypoint) (os : List Outage) (hs : List ℤ) → IsRoute ws → (cuts : List ℤ) → AreCutTimes ws os hs cuts → first_cut cuts ≡ (flight_of ws).first
at_first ws os hs r cuts h =
    let s = some_time ws r.some in
    let zs : List ℤ = waypoint_times ws in
    let g : Contains cuts (first_cut zs) = (h.all (first_cut zs)).1 (of_waypoint ws os hs (first_cut zs) (first_in zs s.0 s.1)) in
    let a : first_cut cuts ≤ℤ first_cut zs = first_least cuts (first_cut zs) h.rising g in
    let b = within ws os hs r.points.rising (first_cut cuts) ((h.all (first_cut cuts)).0 (first_in cuts (first_cut zs) g)) in
    let low : first_cut zs ≤ℤ first_cut cuts = b.0 in
    let e : first_cut cuts ≡ first_cut zs = omega (arith, ints) in
    e ∙ sym (flight_first ws)

-- and the last its end
at_end : (ws : List Waypoint) (os : List Outage) (hs : List ℤ) → IsRoute ws → (cuts : List ℤ) → AreCutTimes ws os hs cuts → last_cut cuts ≡ (flight_of ws).end
at_end ws os hs r cuts h =
    let s = some_time ws r.some in
    let zs : List ℤ = waypoint_times ws in
    let g : Contains cuts (last_cut zs) = (h.all (last_cut zs)).1 (of_waypoint ws os hs (last_cut zs) (last_in zs s.0 s.1)) in
    let a : last_cut zs ≤ℤ last_cut cuts = last_greatest cuts (last_cut zs) h.rising g in
    let b = within ws os hs r.points.rising (last_cut cuts) ((h.all (last_cut cuts)).0 (last_in cuts (last_cut zs) g)) in
    let high : last_cut cuts ≤ℤ last_cut zs = b.1 in
    let e : last_cut cuts ≡ last_cut zs = omega (arith, ints) in
    e ∙ sym (flight_end ws)

-- what cuts is a change
change_from : (c : Case) (t : ℤ) → Contains (cut_times c.route c.outages (handovers c.almanacs)) t → IsChange c t
change_from c t m = elim (parts c.route c.outages (handovers c.almanacs) t m) [
  | inl p ↦ inl (Contains-append_left (waypoint_times c.route) (flat_map outage_times c.outages) t p)
  | inr q ↦ elim q.2 [
    | inl p ↦ inl (Contains-append_right (waypoint_times c.route) (flat_map outage_times c.outages) t p)
    | inr p ↦ inr (listed_is c.almanacs t p)
  ]
]

-- and a change inside the flight cuts
change_to : (c : Case) (t : ℤ) → (flight_of c.route).first <ℤ t → t <ℤ (flight_of c.route).end → IsChange c t → Contains (cut_times c.route c.outages (handovers c.almanacs)) t
change_to c t low high m = elim m [
  | inl n ↦ elim (Contains-append_cases (waypoint_times c.route) (flat_map outage_times c.outages) t n) [
    | inl p ↦ of_waypoint c.route c.outages (handovers c.almanacs) t p
    | inr p ↦ of_outage c.route c.outages (handovers c.almanacs) t low high p
  ]
  | inr h ↦ of_handover c.route c.outages (handovers c.almanacs) t low high (is_listed c.almanacs t h)
]

-- they are the cuts of the case
cuts_flight : (c : Case) → IsRoute c.route → (cuts : List ℤ) → AreCutTimes c.route c.outages (handovers c.almanacs) cuts → CutsFlight c cuts
cuts_flight c r cuts h = record {
  rising = h.rising;
  first = at_first c.route c.outages (handovers c.almanacs) r cuts h;
  last = at_end c.route c.outages (handovers c.almanacs) r cuts h;
  between = λ t low high. (λ m. change_from c t ((h.all t).0 m), λ m. (h.all t).1 (change_to c t low high m));
}

-- the cuts of a case, by the times of its almanacs
pub cuts_are : (c : Case) → IsRoute c.route → (outages : List Outage) (times cuts : List ℤ) → outages ≡ c.outages → map time_of c.almanacs ≡ times → AreCutTimes c.route outages (handovers_of times) cuts → CutsFlight c cuts
cuts_are c r outages times cuts o t h =
    cuts_flight c r cuts (subst (λ os. AreCutTimes c.route os (handovers c.almanacs) cuts) o (subst (λ ts. AreCutTimes c.route outages (handovers_of ts) cuts) (sym t) h))
