-- The cuts of a case are cuts for halving, and a piece inside one root piece lies between two neighbours of them.
use Rattle.std.specs.Prelude.{◌≡◌, ℕ, zero, suc, ◌-◌, ◌<◌, ◌≤◌, ℤ, pos, ◌-ℤ◌, ◌≤ℤ◌, ◌<ℤ◌, ◌⊎◌, List, [], ◌∷◌, ◌++◌, length, slice_index_or, Contains, AllPairs, refl}
use Rattle.std.proofs.Common.{arith, ap, sym, ◌∙◌, subst, inl, inr}
use Rattle.std.proofs.lemmas.Int.{ints, by_lt_z}
use Rattle.raim_model.specs.declared.waypoint.Waypoint.{Waypoint}
use Rattle.raim_model.specs.Constants.{latest_ms}
use Rattle.raim_model.specs.Ranges.{IsWaypoint, IsRoute}
use Rattle.raim_model.specs.Route.{time_at, flight_of}
use Rattle.raim_model.specs.Solution.{Case}
use Rattle.raim_model.specs.Cuts.{IsCutTime, AreCutsFrom, AreCuts, first_cut, last_cut, last_from}
use Rattle.raim_model.specs.CaseRanges.{IsCase}
use Rattle.raim_model.specs.CaseCuts.{IsChange, CutsFlight, InRootPiece, IsBetweenNeighbours, MayBeJudged}
use Rattle.flight_laws.proofs.Usable.{inside_root}

at_index : (ws : List Waypoint) (k : ℕ) (d : Waypoint) → k < length ws → time_at ws k ≡ (slice_index_or ws k d).at
at_index [] k d p = absurd (omega arith)
at_index (w ∷ ws) zero d p = refl
at_index (w ∷ ws) (suc k) d p = at_index ws k d (omega arith)

-- the flight's first millisecond and its end
pub record FlightTimes (c : Case) : Type 0 where
  pub early : pos 0 ≤ℤ (flight_of c.route).first
  pub some : (flight_of c.route).first <ℤ (flight_of c.route).end
  pub late : (flight_of c.route).end <ℤ pos latest_ms

route_times : (ws : List Waypoint) → IsRoute ws → (pos 0 ≤ℤ time_at ws 0) × (time_at ws 0 <ℤ time_at ws (length ws - 1)) × (time_at ws (length ws - 1) <ℤ pos latest_ms)
route_times [] r = absurd (let h = r.some in omega arith)
route_times (w ∷ ws) r =
    let n : ℕ = length (w ∷ ws) - 1 in
    let some : 2 ≤ length (w ∷ ws) = r.some in
    let p : n < length (w ∷ ws) = omega arith in
    let first : time_at (w ∷ ws) 0 ≡ w.at = refl in
    let last : time_at (w ∷ ws) n ≡ (slice_index_or (w ∷ ws) n w).at = at_index (w ∷ ws) n w p in
    let a : IsWaypoint w = r.points.each 0 w (omega arith) in
    let b : IsWaypoint (slice_index_or (w ∷ ws) n w) = r.points.each n w p in
    let lt : w.at <ℤ (slice_index_or (w ∷ ws) n w).at = r.points.rising 0 n w (omega arith) p in
    (a.time.0, subst (λ t. w.at <ℤ t) (sym last) lt, subst (λ t. t <ℤ pos latest_ms) (sym last) b.time.1)

pub flight_times : (c : Case) → IsCase c → FlightTimes c
flight_times c i = let h = route_times c.route i.route in record { early = h.0; some = h.1; late = h.2 }

-- an element is the head or one of the rest
pub head_or_rest : (x : ℤ) (xs : List ℤ) (y : ℤ) → Contains (x ∷ xs) y → (x ≡ y) ⊎ Contains xs y
head_or_rest x xs y (zero, p, e) = inl e
head_or_rest x xs y (suc k, p, e) = inr (k, omega arith, e)

-- each later cut is after the first
pub rest_above : (x : ℤ) (xs : List ℤ) (y : ℤ) → AllPairs (λ before after. before <ℤ after) (x ∷ xs) → Contains xs y → x <ℤ y
rest_above x xs y h m = subst (λ t. x <ℤ t) m.2 (h 0 (suc m.0) y (omega arith) (let lt = m.1 in omega arith))

pub tail_rising : (x : ℤ) (xs : List ℤ) → AllPairs (λ before after. before <ℤ after) (x ∷ xs) → AllPairs (λ before after. before <ℤ after) xs
tail_rising x xs h = λ i j d p q. h (suc i) (suc j) d (omega arith) (omega arith)

pub up_to_last : (x : ℤ) (xs : List ℤ) → AllPairs (λ before after. before <ℤ after) (x ∷ xs) → x ≤ℤ last_from x xs
up_to_last x [] h = omega (arith, ints)
up_to_last x (y ∷ xs) h =
    let lt : x <ℤ y = h 0 1 x (omega arith) (omega arith) in
    let le : y ≤ℤ last_from y xs = up_to_last y xs (tail_rising x (y ∷ xs) h) in
    omega (arith, ints)

cut_time : (c : Case) → FlightTimes c → (t : ℤ) → (flight_of c.route).first ≤ℤ t → t ≤ℤ (flight_of c.route).end → IsCutTime t
cut_time c f t low high = let e = f.early in let l = f.late in (omega (arith, ints), omega (arith, ints))

cuts_from : (c : Case) → FlightTimes c → (first : ℤ) (cuts : List ℤ) → AllPairs (λ before after. before <ℤ after) (first ∷ cuts) → last_from first cuts ≡ (flight_of c.route).end → (flight_of c.route).first ≤ℤ first
    → ((t : ℤ) → IsChange c t → first <ℤ t → t <ℤ (flight_of c.route).end → Contains cuts t) → AreCutsFrom (InRootPiece c) first cuts
cuts_from c f first [] rising last low complete = cut_time c f first low (subst (λ t. first ≤ℤ t) last (omega (arith, ints)))
cuts_from c f first (next ∷ cuts) rising last low complete =
    let lt : first <ℤ next = rising 0 1 first (omega arith) (omega arith) in
    let rest : AllPairs (λ before after. before <ℤ after) (next ∷ cuts) = tail_rising first (next ∷ cuts) rising in
    let le : next ≤ℤ (flight_of c.route).end = subst (λ t. next ≤ℤ t) last (up_to_last next cuts rest) in (
      cut_time c f first low (omega (arith, ints)),
      lt,
      record {
        started = low;
        not_over = omega (arith, ints);
        uncut = λ t k after. by_lt_z (next -ℤ pos 1) t (λ h. h) (λ h. absurd (early rest t h (complete t k after (omega (arith, ints)))));
      },
      cuts_from c f next cuts rest last (omega (arith, ints)) (λ t k after before. later t after (complete t k (omega (arith, ints)) before)),
    )
  where
    early : AllPairs (λ before after. before <ℤ after) (next ∷ cuts) → (t : ℤ) → t ≤ℤ (next -ℤ pos 1) → Contains (next ∷ cuts) t → ⊥
    early rest t h m = elim (head_or_rest next cuts t m) [
      | inl e ↦ subst (λ u. u ≤ℤ (next -ℤ pos 1) → ⊥) e (λ q. omega (arith, ints)) h
      | inr k ↦ let lt : next <ℤ t = rest_above next cuts t rest k in omega (arith, ints)
    ]

    later : (t : ℤ) → next <ℤ t → Contains (next ∷ cuts) t → Contains cuts t
    later t after m = elim (head_or_rest next cuts t m) [
      | inl e ↦ absurd (subst (λ u. next <ℤ u → ⊥) e (λ q. omega (arith, ints)) after)
      | inr k ↦ k
    ]

-- the cuts, one by one
cuts_are : (c : Case) → FlightTimes c → (cuts : List ℤ) → CutsFlight c cuts → AreCuts (InRootPiece c) cuts
cuts_are c f [] h = absurd (empty (flight_of c.route).first (flight_of c.route).end h.first h.last f.some)
  where
    empty : (a b : ℤ) → pos 0 ≡ a → pos 0 ≡ b → a <ℤ b → ⊥
    empty a b p q lt = subst (λ t. t <ℤ b → ⊥) p (λ l. subst (λ t. pos 0 <ℤ t → ⊥) q (λ m. omega (arith, ints)) l) lt
cuts_are c f (only ∷ []) h = absurd (empty (flight_of c.route).first (flight_of c.route).end only h.first h.last f.some)
  where
    empty : (a b x : ℤ) → x ≡ a → x ≡ b → a <ℤ b → ⊥
    empty a b x p q lt = subst (λ t. t <ℤ b → ⊥) p (λ l. subst (λ t. x <ℤ t → ⊥) q (λ m. omega (arith, ints)) l) lt
cuts_are c f (first ∷ next ∷ cuts) h =
    cuts_from c f first (next ∷ cuts) h.rising h.last (subst (λ t. t ≤ℤ first) h.first (omega (arith, ints)))
    (λ t k after before. later t after ((h.between t (subst (λ u. u <ℤ t) h.first after) before).1 k))
  where
    later : (t : ℤ) → first <ℤ t → Contains (first ∷ next ∷ cuts) t → Contains (next ∷ cuts) t
    later t after m = elim (head_or_rest first (next ∷ cuts) t m) [
      | inl e ↦ absurd (subst (λ u. first <ℤ u → ⊥) e (λ q. omega (arith, ints)) after)
      | inr k ↦ k
    ]

pub case_cuts : (c : Case) → IsCase c → (cuts : List ℤ) → CutsFlight c cuts → AreCuts (InRootPiece c) cuts
case_cuts c i cuts h = cuts_are c (flight_times c i) cuts h

-- the rule of the root piece of two neighbours
neighbour_rule : (rule : ℤ → ℤ → Type 0) (before : List ℤ) (from next : ℤ) (after : List ℤ) (first : ℤ) (cuts : List ℤ) → first ∷ cuts ≡ before ++ from ∷ next ∷ after → AreCutsFrom rule first cuts → rule from (next -ℤ pos 1)
neighbour_rule rule [] from next after first [] e h = absurd (cc)
neighbour_rule rule [] from next after first (x ∷ cuts) e h =
    let a : first ≡ from = cc in let b : x ≡ next = cc in
    subst (λ u. rule u (next -ℤ pos 1)) a (subst (λ u. rule first (u -ℤ pos 1)) b h.2)
neighbour_rule rule (y ∷ before) from next after first [] e h = absurd (no_more before (let f : [] ≡ before ++ from ∷ next ∷ after = cc in f))
  where
    no_more : (xs : List ℤ) → [] ≡ xs ++ from ∷ next ∷ after → ⊥
    no_more [] f = cc
    no_more (z ∷ zs) f = cc
neighbour_rule rule (y ∷ before) from next after first (x ∷ cuts) e h = neighbour_rule rule before from next after x cuts (cc) h.3

are_rule : (rule : ℤ → ℤ → Type 0) (cuts : List ℤ) → AreCuts rule cuts → (before : List ℤ) (from next : ℤ) (after : List ℤ) → cuts ≡ before ++ from ∷ next ∷ after → rule from (next -ℤ pos 1)
are_rule rule [] h before from next after e = absurd h
are_rule rule (only ∷ []) h before from next after e = absurd h
are_rule rule (first ∷ x ∷ cuts) h before from next after e = neighbour_rule rule before from next after first (x ∷ cuts) e h

-- a piece between two neighbouring cuts is inside a root piece
pub between_in_root : (c : Case) → IsCase c → (cuts : List ℤ) → CutsFlight c cuts → (first last : ℤ) → IsBetweenNeighbours cuts first last → InRootPiece c first last
between_in_root c i cuts h first last b =
    let r : InRootPiece c b.from (b.next -ℤ pos 1) = are_rule (InRootPiece c) cuts (case_cuts c i cuts h) b.before b.from b.next b.after b.neighbours in
    let o : last <ℤ b.next = b.not_over in
    inside_root c b.from (b.next -ℤ pos 1) first last r b.started (omega (arith, ints))

-- the neighbours that a millisecond lies between
pub record Around (first : ℤ) (cuts : List ℤ) (t : ℤ) : Type 0 where
  pub before : List ℤ
  pub from : ℤ
  pub next : ℤ
  pub after : List ℤ
  pub neighbours : first ∷ cuts ≡ before ++ from ∷ next ∷ after
  pub started : from ≤ℤ t
  pub over : t <ℤ next

around : (first : ℤ) (cuts : List ℤ) (t : ℤ) → first ≤ℤ t → t <ℤ last_from first cuts → Around first cuts t
around first [] t low high = absurd (omega (arith, ints))
around first (next ∷ cuts) t low high = by_lt_z t next
    (λ h. record { before = []; from = first; next = next; after = cuts; neighbours = refl; started = low; over = h })
    (λ h. let a : Around next cuts t = around next cuts t h high in
    record { before = first ∷ a.before; from = a.from; next = a.next; after = a.after; neighbours = ap (λ xs. first ∷ xs) a.neighbours; started = a.started; over = a.over })

around_cuts : (cuts : List ℤ) (t : ℤ) → first_cut cuts ≤ℤ t → t <ℤ last_cut cuts → (first : ℤ) × (rest : List ℤ) × (cuts ≡ first ∷ rest) × Around first rest t
around_cuts [] t low high = absurd (omega (arith, ints))
around_cuts (first ∷ cuts) t low high = (first, cuts, refl, around first cuts t low high)

contains_next : (before : List ℤ) (from next : ℤ) (after : List ℤ) → Contains (before ++ from ∷ next ∷ after) next
contains_next [] from next after = (1, omega arith, refl)
contains_next (x ∷ xs) from next after = let m : Contains (xs ++ from ∷ next ∷ after) next = contains_next xs from next after in (suc m.0, (let lt = m.1 in omega arith), m.2)

-- and a piece inside a root piece lies between two neighbouring cuts
pub root_between : (c : Case) → (cuts : List ℤ) → CutsFlight c cuts → (first last : ℤ) → first ≤ℤ last → InRootPiece c first last → IsBetweenNeighbours cuts first last
root_between c cuts h first last ordered p =
    let low : first_cut cuts ≤ℤ first = subst (λ t. t ≤ℤ first) (sym h.first) p.started in
    let o : last <ℤ (flight_of c.route).end = p.not_over in
    let high : first <ℤ last_cut cuts = subst (λ t. first <ℤ t) (sym h.last) (omega (arith, ints)) in
    let a = around_cuts cuts first low high in
    let b : Around a.0 a.1 first = a.3 in
    let e : cuts ≡ b.before ++ b.from ∷ b.next ∷ b.after = a.2 ∙ b.neighbours in
    let m : Contains cuts b.next = subst (λ xs. Contains xs b.next) (sym e) (contains_next b.before b.from b.next b.after) in
    let s : (flight_of c.route).first ≤ℤ first = p.started in
    let over : first <ℤ b.next = b.over in
    record {
      before = b.before;
      from = b.from;
      next = b.next;
      after = b.after;
      neighbours = e;
      started = b.started;
      not_over = by_lt_z b.next (flight_of c.route).end (λ q. p.uncut b.next ((h.between b.next (omega (arith, ints)) q).0 m) over) (λ q. omega (arith, ints));
    }

-- a rule that follows from another
from_weaker : (rule weaker : ℤ → ℤ → Type 0) → ((a b : ℤ) → rule a b → weaker a b) → (first : ℤ) (cuts : List ℤ) → AreCutsFrom rule first cuts → AreCutsFrom weaker first cuts
from_weaker rule weaker each first [] h = h
from_weaker rule weaker each first (next ∷ cuts) h = (h.0, h.1, each first (next -ℤ pos 1) h.2, from_weaker rule weaker each next cuts h.3)

cuts_weaker : (rule weaker : ℤ → ℤ → Type 0) → ((a b : ℤ) → rule a b → weaker a b) → (cuts : List ℤ) → AreCuts rule cuts → AreCuts weaker cuts
cuts_weaker rule weaker each [] h = h
cuts_weaker rule weaker each (only ∷ []) h = h
cuts_weaker rule weaker each (first ∷ next ∷ cuts) h = from_weaker rule weaker each first (next ∷ cuts) h

pub judged_cuts : (c : Case) → IsCase c → (cuts : List ℤ) → CutsFlight c cuts → AreCuts (MayBeJudged c) cuts
judged_cuts c i cuts h = cuts_weaker (InRootPiece c) (MayBeJudged c) (λ a b p. record { case = i; piece = p }) cuts (case_cuts c i cuts h)
