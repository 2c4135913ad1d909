-- The times of a route, and those strictly inside its flight.
use Rattle.std.specs.Prelude.{◌≡◌, ℕ, zero, suc, ◌-◌, ◌<◌, ℤ, pos, ◌<ℤ◌, ◌&&◌, int_lt, Bool, true, List, [], ◌∷◌, ◌++◌, length, map, slice_index_or, AllPairs, Contains, refl}
use Rattle.std.specs.List.{filter, flat_map}
use Rattle.std.proofs.Common.{arith, ap, sym, ◌∙◌}
use Rattle.std.proofs.lemmas.Int.{ints}
use Rattle.std.proofs.lemmas.Bool.{and_parts, and_from}
use Rattle.std.proofs.lemmas.List.{length-map}
use Rattle.std.proofs.lemmas.List.Elements.{filter-append, filter_passes, All-filter, All-contains, All-contains_itself}
use Rattle.raim_model.specs.declared.outage.Outage.{Outage}
use Rattle.raim_model.specs.declared.span.Span.{Span}
use Rattle.raim_model.specs.declared.waypoint.Waypoint.{Waypoint}
use Rattle.raim_model.specs.Route.{flight_of}
use Rattle.raim_model.specs.Cuts.{first_cut, last_cut}
use Rattle.raim_model.specs.CaseCuts.{outage_times}
use Rattle.piece_verdict.specs.Cuts.{times_inside, waypoint_times, outage_times_inside}
use Rattle.piece_verdict.proofs.Orders.{first_index, last_index}

-- the time of a waypoint by its place
mapped_index : (ws : List Waypoint) (k : ℕ) (d : Waypoint) (e : ℤ) → k < length ws → slice_index_or (map (λ w. w.at) ws) k e ≡ (slice_index_or ws k d).at
mapped_index [] k d e p = absurd (omega arith)
mapped_index (w ∷ ws) zero d e p = refl
mapped_index (w ∷ ws) (suc k) d e p = mapped_index ws k d e (omega arith)

-- the waypoints' times rise
pub times_rise : (ws : List Waypoint) → AllPairs (λ before after. before.at <ℤ after.at) ws → AllPairs (λ before after. before <ℤ after) (waypoint_times ws)
times_rise [] h = λ i j d p q. absurd (omega arith)
times_rise (w ∷ ws) h = λ i j d p q.
    let e : length (waypoint_times (w ∷ ws)) ≡ length (w ∷ ws) = length-map (w ∷ ws) (λ v. v.at) in
    let a : i < length (w ∷ ws) = omega arith in
    let b : j < length (w ∷ ws) = omega arith in
    rw (mapped_index (w ∷ ws) i w d a, mapped_index (w ∷ ws) j w d b) (h i j w p b)

-- the flight by the waypoints' times
pub flight_first : (ws : List Waypoint) → (flight_of ws).first ≡ first_cut (waypoint_times ws)
flight_first ws = first_index (waypoint_times ws)

-- and its end
pub flight_end : (ws : List Waypoint) → (flight_of ws).end ≡ last_cut (waypoint_times ws)
flight_end ws = ap (λ n. slice_index_or (waypoint_times ws) (n - 1) (pos 0)) (sym (length-map ws (λ v. v.at))) ∙ last_index (waypoint_times ws)

-- ---- the times of the outages inside the flight
-- the times of outages inside the flight, gathered before or after
pub inside_all : (flight : Span) (os : List Outage) → outage_times_inside flight os ≡ times_inside flight (flat_map outage_times os)
inside_all flight [] = refl
inside_all flight (o ∷ os) =
    ap (λ xs. times_inside flight (outage_times o) ++ xs) (inside_all flight os)
    ∙ sym (filter-append (λ t. int_lt flight.first t && int_lt t flight.end) (outage_times o) (flat_map outage_times os))

-- what the test of being inside says
is_inside : (flight : Span) (t : ℤ) → (int_lt flight.first t && int_lt t flight.end) ≡ true → (flight.first <ℤ t) × (t <ℤ flight.end)
is_inside flight t e =
    let p = and_parts (int_lt flight.first t) (int_lt t flight.end) e in
    (less flight.first t p.0, less t flight.end p.1)
  where
    less : (x y : ℤ) → int_lt x y ≡ true → x <ℤ y
    less x y e = grind (arith, ints)

-- and when it holds
pub inside_is : (flight : Span) (t : ℤ) → flight.first <ℤ t → t <ℤ flight.end → (int_lt flight.first t && int_lt t flight.end) ≡ true
inside_is flight t p q = and_from (int_lt flight.first t) (int_lt t flight.end) (is_less flight.first t p) (is_less t flight.end q)
  where
    is_less : (x y : ℤ) → x <ℤ y → int_lt x y ≡ true
    is_less x y e = grind (arith, ints)

-- what is kept is inside, and one of the times
pub from_inside : (flight : Span) (xs : List ℤ) (t : ℤ) → Contains (times_inside flight xs) t → (flight.first <ℤ t) × (t <ℤ flight.end) × Contains xs t
from_inside flight xs t m =
    let p : ℤ → Bool = λ u. int_lt flight.first u && int_lt u flight.end in
    let e : p t ≡ true = All-contains (λ u. p u ≡ true) (filter p xs) t (filter_passes p xs) m in
    let i = is_inside flight t e in
    (i.0, i.1, All-contains (λ u. Contains xs u) (filter p xs) t (All-filter p (λ u. Contains xs u) xs (All-contains_itself xs)) m)
