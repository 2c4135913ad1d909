-- The leg of a millisecond by the place of its first waypoint.
use Rattle.std.specs.Prelude.{◌≡◌, ℕ, zero, suc, ◌+◌, ◌<◌, ℤ, ◌≤ℤ◌, ◌<ℤ◌, List, [], ◌∷◌, ◌++◌, take, drop, length, slice_index_or, Some, true, false, refl}
use lib.Signed.{le_z}
use Rattle.std.proofs.lemmas.Int.{ints, by_lt_z}
use Rattle.std.proofs.Common.{arith, ap, sym, subst, ◌∙◌}
use Rattle.raim_model.specs.declared.waypoint.Waypoint.{Waypoint}
use Rattle.raim_model.specs.Ranges.{IsRoute}
use Rattle.raim_model.specs.Receiver.{OnLeg}
use Rattle.raim_model.specs.Route.{time_at}
use Rattle.flight_laws.specs.Legs.{leg_at}
use Rattle.raim_model.specs.Solution.{Case}
use Rattle.raim_model.specs.CaseCuts.{InRootPiece}
use Rattle.flight_laws.proofs.Legs.{leg_at_is, leg_through}

-- the time of a waypoint by its place
at_index : (ws : List Waypoint) (k : ℕ) (d : Waypoint) → k < length ws → time_at ws k ≡ (slice_index_or ws k d).at
at_index [] k d p = absurd (omega arith)
at_index (w ∷ ws) zero d p = refl
at_index (w ∷ ws) (suc k) d p = at_index ws k d (omega arith)

-- a route cut at two neighbours
parted : (ws : List Waypoint) (k : ℕ) (d : Waypoint) → suc k < length ws → ws ≡ take k ws ++ slice_index_or ws k d ∷ slice_index_or ws (suc k) d ∷ drop (suc (suc k)) ws
parted [] k d p = absurd (omega arith)
parted (w ∷ []) k d p = absurd (omega arith)
parted (w ∷ v ∷ vs) zero d p = refl
parted (w ∷ v ∷ vs) (suc k) d p = ap (λ xs. w ∷ xs) (parted (v ∷ vs) k d (omega arith))

-- a millisecond between two neighbours lies on their leg
pub on_leg : (ws : List Waypoint) (k : ℕ) (t : ℤ) (d : Waypoint) → k + 1 < length ws → time_at ws k ≤ℤ t → t <ℤ time_at ws (k + 1) → OnLeg ws t
on_leg ws k t d p low high =
    let e : k + 1 ≡ suc k = omega arith in
    let q : suc k < length ws = omega arith in
    let r : k < length ws = omega arith in
    let h : t <ℤ time_at ws (suc k) = subst (λ n. t <ℤ time_at ws n) e high in
    record {
      before = take k ws;
      start = slice_index_or ws k d;
      stop = slice_index_or ws (suc k) d;
      after = drop (suc (suc k)) ws;
      neighbours = parted ws k d q;
      started = subst (λ x. x ≤ℤ t) (at_index ws k d r) low;
      not_over = subst (λ x. t <ℤ x) (at_index ws (suc k) d q) h;
    }

-- and that is the leg that is found
pub leg_by_index : (ws : List Waypoint) → IsRoute ws → (k : ℕ) (t : ℤ) (d : Waypoint) → k + 1 < length ws → time_at ws k ≤ℤ t → t <ℤ time_at ws (k + 1)
    → leg_at ws t ≡ Some record { start = slice_index_or ws k d; stop = slice_index_or ws (k + 1) d }
unfolding on_leg
leg_by_index ws r k t d p low high =
    let e : suc k ≡ k + 1 = omega arith in
    leg_at_is ws r.points.rising t (on_leg ws k t d p low high) ∙ ap (λ n. Some record { start = slice_index_or ws k d; stop = slice_index_or ws n d }) e

-- not at most is above
pub not_le : (y z : ℤ) → le_z y z ≡ false → z <ℤ y
not_le y z e = by_lt_z z y (λ h. h) (λ h. absurd (let f : le_z y z ≡ true = grind (arith, ints) in let g : true ≡ false = sym f ∙ e in cc))

-- some waypoint of a route that has one
pub some_point : (ws : List Waypoint) (k : ℕ) → k + 1 < length ws → Waypoint
some_point [] k p = absurd (omega arith)
some_point (w ∷ ws) k p = w

-- the leg of a piece's first millisecond goes on to its last
pub through : (c : Case) (first last : ℤ) → InRootPiece c first last → first ≤ℤ last → (k : ℕ) → k + 1 < length c.route → time_at c.route k ≤ℤ first → first <ℤ time_at c.route (k + 1) → last <ℤ time_at c.route (k + 1)
unfolding on_leg
through c first last p o k q low high =
    let d : Waypoint = some_point c.route k q in
    let e : k + 1 ≡ suc k = omega arith in
    let r : suc k < length c.route = omega arith in
    let h : last <ℤ (slice_index_or c.route (suc k) d).at = leg_through c first last last p o (omega (arith, ints)) (on_leg c.route k first d q low high) in
    subst (λ n. last <ℤ time_at c.route n) (sym e) (subst (λ x. last <ℤ x) (sym (at_index c.route (suc k) d r)) h)
