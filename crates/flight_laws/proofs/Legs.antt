-- Each millisecond of a flight lies on one leg, and a root piece lies on one.
use Rattle.std.specs.Prelude.{◌≡◌, suc, ◌-◌, ℤ, pos, ◌≤ℤ◌, ◌<ℤ◌, ◌<◌, true, false, List, [], ◌∷◌, ◌++◌, length, map, slice_index_or, Contains, AllPairs, Some, None, refl}
use lib.Signed.{lt_z}
use Rattle.std.specs.List.{flat_map}
use Rattle.std.proofs.Common.{arith, ap, sym, ◌∙◌, subst, inl}
use Rattle.std.proofs.lemmas.Int.{ints, by_lt_z}
use Rattle.std.proofs.lemmas.List.Elements.{Contains-append_left, Contains-append_right}
use Rattle.raim_model.specs.declared.waypoint.Waypoint.{Waypoint}
use Rattle.raim_model.specs.Receiver.{OnLeg}
use Rattle.raim_model.specs.Route.{time_at}
use Rattle.flight_laws.specs.Legs.{Leg, leg_at}
use Rattle.std.specs.declared.option.Option.{Option}
use Rattle.raim_model.specs.Solution.{Case, InFlight}
use Rattle.raim_model.specs.CaseCuts.{outage_times, change_times, InRootPiece}

behind_leg : (w : Waypoint) (ws : List Waypoint) (t : ℤ) → OnLeg ws t → OnLeg (w ∷ ws) t
behind_leg w ws t l = record { before = w ∷ l.before; start = l.start; stop = l.stop; after = l.after; neighbours = ap (λ vs. w ∷ vs) l.neighbours; started = l.started; not_over = l.not_over }

pub has_leg : (ws : List Waypoint) (t : ℤ) → time_at ws 0 ≤ℤ t → t <ℤ time_at ws (length ws - 1) → OnLeg ws t
has_leg [] t p q = absurd (empty t p q)
  where
    empty : (t : ℤ) → pos 0 ≤ℤ t → t <ℤ pos 0 → ⊥
    empty t p q = omega (arith, ints)
has_leg (w ∷ []) t p q = absurd (empty w.at t p q)
  where
    empty : (a t : ℤ) → a ≤ℤ t → t <ℤ a → ⊥
    empty a t p q = omega (arith, ints)
has_leg (w ∷ v ∷ ws) t p q =
    let e : length (w ∷ v ∷ ws) - 1 ≡ suc (length (v ∷ ws) - 1) = omega arith in
    let r : t <ℤ time_at (v ∷ ws) (length (v ∷ ws) - 1) = subst (λ n. t <ℤ time_at (w ∷ v ∷ ws) n) e q in
    by_lt_z t v.at
    (λ h. record { before = []; start = w; stop = v; after = ws; neighbours = refl; started = p; not_over = h })
    (λ h. behind_leg w (v ∷ ws) t (has_leg (v ∷ ws) t h r))

pub flight_leg : (c : Case) (t : ℤ) → InFlight c t → OnLeg c.route t
flight_leg c t f = has_leg c.route t f.started f.not_over

contains_at : (before after : List Waypoint) (w : Waypoint) → Contains (map (λ v. v.at) (before ++ w ∷ after)) w.at
contains_at [] after w = (0, omega arith, refl)
contains_at (v ∷ vs) after w = Contains-append_right (v.at ∷ []) (map (λ v. v.at) (vs ++ w ∷ after)) w.at (contains_at vs after w)

-- the end of a leg is a change
stop_changes : (c : Case) (t : ℤ) (l : OnLeg c.route t) → Contains (change_times c) l.stop.at
stop_changes c t l =
    let h : Contains (map (λ v. v.at) ((l.before ++ l.start ∷ []) ++ l.stop ∷ l.after)) l.stop.at = contains_at (l.before ++ l.start ∷ []) l.after l.stop in
    let e : c.route ≡ (l.before ++ l.start ∷ []) ++ l.stop ∷ l.after = l.neighbours ∙ sym (regroup l.before l.start (l.stop ∷ l.after)) in
    Contains-append_left (map (λ v. v.at) c.route) (flat_map outage_times c.outages) l.stop.at (subst (λ ws. Contains (map (λ v. v.at) ws) l.stop.at) (sym e) h)
  where
    regroup : (xs : List Waypoint) (y : Waypoint) (zs : List Waypoint) → (xs ++ y ∷ []) ++ zs ≡ xs ++ y ∷ zs
    regroup [] y zs = refl
    regroup (x ∷ xs) y zs = ap (λ t. x ∷ t) (regroup xs y zs)

-- and so is its start
start_changes : (c : Case) (t : ℤ) (l : OnLeg c.route t) → Contains (change_times c) l.start.at
start_changes c t l =
    Contains-append_left (map (λ v. v.at) c.route) (flat_map outage_times c.outages) l.start.at
    (subst (λ ws. Contains (map (λ v. v.at) ws) l.start.at) (sym l.neighbours) (contains_at l.before (l.stop ∷ l.after) l.start))

-- the leg of a millisecond of a piece is that of its first
pub leg_from : (c : Case) (first last t : ℤ) → InRootPiece c first last → first ≤ℤ t → t ≤ℤ last → (l : OnLeg c.route t) → l.start.at ≤ℤ first
leg_from c first last t p low high l =
    let s : l.start.at ≤ℤ t = l.started in
    by_lt_z first l.start.at (λ h. absurd (let k : last <ℤ l.start.at = p.uncut l.start.at (inl (start_changes c t l)) h in omega (arith, ints))) (λ h. h)

-- the leg at the first millisecond of a piece goes on through the piece
pub leg_through : (c : Case) (first last t : ℤ) → InRootPiece c first last → first ≤ℤ t → t ≤ℤ last → (l : OnLeg c.route first) → t <ℤ l.stop.at
leg_through c first last t p low high l = let h : last <ℤ l.stop.at = p.uncut l.stop.at (inl (stop_changes c first l)) l.not_over in omega (arith, ints)

leg_at_here : (before : List Waypoint) (start stop : Waypoint) (after : List Waypoint) (t : ℤ) → AllPairs (λ a b. a.at <ℤ b.at) (before ++ start ∷ stop ∷ after) → start.at ≤ℤ t → t <ℤ stop.at
    → leg_at (before ++ start ∷ stop ∷ after) t ≡ Some record { start = start; stop = stop }
leg_at_here [] start stop after t rising low high = let e : lt_z t stop.at ≡ true = grind (arith, ints) in rw e refl
leg_at_here (w ∷ []) start stop after t rising low high =
    let e : lt_z t start.at ≡ false = grind (arith, ints) in
    rw e (leg_at_here [] start stop after t (λ i j d p q. rising (suc i) (suc j) d (omega arith) (omega arith)) low high)
leg_at_here (w ∷ v ∷ vs) start stop after t rising low high =
    let lt : v.at <ℤ start.at = before_start vs (λ i j d p q. rising (suc i) (suc j) d (omega arith) (omega arith)) in
    let e : lt_z t v.at ≡ false = grind (arith, ints) in
    rw e (leg_at_here (v ∷ vs) start stop after t (λ i j d p q. rising (suc i) (suc j) d (omega arith) (omega arith)) low high)
  where
    at_start : (xs : List Waypoint) (d : Waypoint) → slice_index_or (xs ++ start ∷ stop ∷ after) (length xs) d ≡ start
    at_start [] d = refl
    at_start (x ∷ xs) d = at_start xs d

    within : (xs : List Waypoint) → length xs < length (xs ++ start ∷ stop ∷ after)
    within [] = omega arith
    within (x ∷ xs) = let h = within xs in omega arith

    before_start : (xs : List Waypoint) → AllPairs (λ a b. a.at <ℤ b.at) (v ∷ xs ++ start ∷ stop ∷ after) → v.at <ℤ start.at
    before_start xs h = let p = within xs in subst (λ (u : Waypoint). v.at <ℤ u.at) (at_start xs v) (h 0 (suc (length xs)) v (omega arith) (omega arith))

pub leg_at_is : (route : List Waypoint) → AllPairs (λ a b. a.at <ℤ b.at) route → (t : ℤ) (l : OnLeg route t) → leg_at route t ≡ Some record { start = l.start; stop = l.stop }
leg_at_is route rising t l =
    let r : AllPairs (λ a b. a.at <ℤ b.at) (l.before ++ l.start ∷ l.stop ∷ l.after) = subst (λ ws. AllPairs (λ a b. a.at <ℤ b.at) ws) l.neighbours rising in
    ap (λ ws. leg_at ws t) l.neighbours ∙ leg_at_here l.before l.start l.stop l.after t r l.started l.not_over

pub one_leg : (route : List Waypoint) → AllPairs (λ a b. a.at <ℤ b.at) route → (t : ℤ) (l m : OnLeg route t) → (l.start ≡ m.start) × (l.stop ≡ m.stop)
one_leg route rising t l m =
    let e : Some record { start = l.start; stop = l.stop } ≡ Some record { start = m.start; stop = m.stop } = sym (leg_at_is route rising t l) ∙ leg_at_is route rising t m in
    let o : Leg = record { start = l.start; stop = l.stop } in
    let start : Option Leg → Waypoint = λ x. elim x [ None ↦ l.start | Some k ↦ k.start ] in
    let stop : Option Leg → Waypoint = λ x. elim x [ None ↦ l.stop | Some k ↦ k.stop ] in
    (ap start e, ap stop e)
