-- The verdict on a piece of time: it is that of each piece inside, and that of each solution.
use Rattle.std.specs.Prelude.{◌≡◌, ℕ, ◌≤◌, ℤ, ◌≤ℤ◌, true, List, [], ◌∷◌, None}
use Rattle.std.specs.List.{AllByRecursion}
use Rattle.std.proofs.Common.{arith, ap, sym, subst, ◌∙◌}
use Rattle.std.proofs.lemmas.Int.{ints}
use Rattle.raim_model.specs.declared.almanac.AlmRecord.{AlmRecord}
use Rattle.raim_model.specs.Level.{Level}
use Rattle.raim_model.specs.Judgements.{is_certain}
use Rattle.raim_model.specs.Receiver.{OnLeg, place_on, ReceiverSolution, site}
use Rattle.raim_model.specs.Solution.{Case, Sightings, usable, rows_of, HasVerdictFor}
use Rattle.slope_laws.specs.Slopes.{SlopeTest}
use Rattle.verdict_laws.specs.Sights.{Sight, sighted_over, first_straddling}
use Rattle.verdict_laws.specs.PieceVerdict.{seen_over, verdict_by, piece_verdict_by}
use Rattle.raim_model.specs.CaseRanges.{IsListed}
use Rattle.raim_model.specs.CaseCuts.{InRootPiece}
use Rattle.slope_laws.specs.Hold.{HoldsSlopes}
use Rattle.verdict_laws.specs.Hold.{HoldsSights}
use Rattle.verdict_laws.proofs.Seen.{AllLeave, SameSeen, same_seen, verdict_left}
use Rattle.verdict_laws.proofs.Shown.{AllShow, rows_shown, verdict_shown}
use Rattle.flight_laws.proofs.Usable.{usable_same, usable_recorded}
use Rattle.raim_model.specs.Geometry.{SquaredShift}

-- the sights of a list of records leave themselves to a piece inside
pub all_leave : (c : Case) (sight : AlmRecord → ℤ → ℤ → Sight) → HoldsSights c sight → (first last a b : ℤ) → InRootPiece c first last → first ≤ℤ a → a ≤ℤ b → b ≤ℤ last
    → (recs : List AlmRecord) → AllByRecursion (λ rec. IsListed c rec) recs → AllLeave (λ rec. sight rec first last) (λ rec. sight rec a b) recs
all_leave c sight holds first last a b p low ordered high [] h = tt
all_leave c sight holds first last a b p low ordered high (rec ∷ recs) h =
    (holds.isotone first last a b p low ordered high rec h.0, all_leave c sight holds first last a b p low ordered high recs h.1)

-- where none straddles over a piece, the same are visible over each piece inside
pub seen_inside : (c : Case) (sight : AlmRecord → ℤ → ℤ → Sight) → HoldsSights c sight → (first last a b : ℤ) → InRootPiece c first last → first ≤ℤ a → a ≤ℤ b → b ≤ℤ last
    → first_straddling (seen_over sight c first last) ≡ None → SameSeen (seen_over sight c first last) (seen_over sight c a b)
seen_inside c sight sights first last a b p low ordered high none =
    let f : AlmRecord → Sight = λ rec. sight rec first last in
    let g : AlmRecord → Sight = λ rec. sight rec a b in
    let e : usable c a ≡ usable c first = usable_same c first last a p low (omega (arith, ints)) in
    let l : AllLeave f g (usable c first) = all_leave c sight sights first last a b p low ordered high (usable c first) (usable_recorded c first) in
    subst (λ recs. SameSeen (sighted_over f (usable c first)) (sighted_over g recs)) (sym e) (same_seen f g (usable c first) l none)

-- a certain verdict is that on each piece inside
pub piece_settles : {shift : SquaredShift} (test : SlopeTest) → HoldsSlopes shift test → (c : Case) (alert_mm : ℕ) → 1 ≤ alert_mm → (sight : AlmRecord → ℤ → ℤ → Sight) → HoldsSights c sight
    → (first last a b : ℤ) → InRootPiece c first last → is_certain (piece_verdict_by test alert_mm sight c first last) ≡ true → first ≤ℤ a → a ≤ℤ b → b ≤ℤ last
    → piece_verdict_by test alert_mm sight c a b ≡ piece_verdict_by test alert_mm sight c first last
unfolding piece_verdict_by
piece_settles test slopes c alert_mm alert sight sights first last a b p certain low ordered high =
    let e : usable c a ≡ usable c first = usable_same c first last a p low (omega (arith, ints)) in
    let l : AllLeave (λ rec. sight rec first last) (λ rec. sight rec a b) (usable c first) = all_leave c sight sights first last a b p low ordered high (usable c first) (usable_recorded c first) in
    ap (λ recs. verdict_by test c.limits alert_mm (sighted_over (λ rec. sight rec a b) recs)) e
    ∙ verdict_left test slopes c.limits alert_mm alert (λ rec. sight rec first last) (λ rec. sight rec a b) (usable c first) l certain

-- the sights of a list of records show its sightings
pub all_show : (c : Case) (sight : AlmRecord → ℤ → ℤ → Sight) → HoldsSights c sight → (first last t : ℤ) → InRootPiece c first last → first ≤ℤ t → t ≤ℤ last
    → (N : Level) (leg : OnLeg c.route t) (receiver : ReceiverSolution N (place_on leg))
    → (recs : List AlmRecord) → AllByRecursion (λ rec. IsListed c rec) recs → (s : Sightings N c t (site receiver) recs) → AllShow N c t (site receiver) (λ rec. sight rec first last) recs s
all_show c sight holds first last t p low high N leg receiver [] h s = tt
all_show c sight holds first last t p low high N leg receiver (rec ∷ recs) h s =
    (holds.encloses first last t p low high N leg receiver rec h.0 s.0, all_show c sight holds first last t p low high N leg receiver recs h.1 s.1)

-- a certain verdict is that of every solution
pub piece_is_right : (shift : SquaredShift) (test : SlopeTest) → HoldsSlopes shift test → (c : Case) (alert_mm : ℕ) → 1 ≤ alert_mm → (sight : AlmRecord → ℤ → ℤ → Sight) → HoldsSights c sight
    → (first last t : ℤ) → InRootPiece c first last → is_certain (piece_verdict_by test alert_mm sight c first last) ≡ true → first ≤ℤ t → t ≤ℤ last
    → HasVerdictFor shift alert_mm c t (piece_verdict_by test alert_mm sight c first last)
unfolding piece_verdict_by
piece_is_right shift test slopes c alert_mm alert sight sights first last t p certain low high =
    let f : AlmRecord → Sight = λ rec. sight rec first last in
    let e : usable c t ≡ usable c first = usable_same c first last t p low high in
    let w : verdict_by test c.limits alert_mm (sighted_over f (usable c t)) ≡ verdict_by test c.limits alert_mm (sighted_over f (usable c first)) = ap (λ recs. verdict_by test c.limits alert_mm (sighted_over f recs)) e in
    record {
      always = λ N s.
          verdict_shown shift test slopes c.limits alert_mm alert (sighted_over f (usable c t)) (rows_of s)
          (rows_shown N c t (site s.receiver) f (usable c t) s.sightings (all_show c sight sights first last t p low high N s.leg s.receiver (usable c t) (usable_recorded c t) s.sightings))
          (ap is_certain w ∙ certain)
          ∙ w;
    }
