-- What forms tell of a piece of a case is the written verdict of each of its milliseconds.
use Rattle.std.specs.Prelude.{◌≡◌, ℕ, ℤ, pos, ◌≤ℤ◌, ◌<ℤ◌, List, [], ◌∷◌, length, map, Some, refl}
use Rattle.std.specs.List.{AllByRecursion}
use Rattle.std.proofs.Common.{arith, sym, subst}
use Rattle.std.proofs.lemmas.Int.{ints}
use Rattle.raim_model.specs.declared.almanac.AlmRecord.{AlmRecord}
use Rattle.raim_model.specs.CaseCuts.{InRootPiece}
use Rattle.raim_model.specs.CaseRanges.{IsCase, IsListed}
use Rattle.raim_model.specs.Receiver.{OnLeg}
use Rattle.raim_model.specs.Solution.{Case, usable}
use Rattle.flight_laws.proofs.Usable.{usable_same, usable_recorded, inside_root}
use Rattle.fix_interval.specs.Ends.{Ends, IsInside}
use Rattle.fix_interval.specs.Vectors.{VectorInside}
use Rattle.orbit_laws.specs.Positions.{position_of}
use Rattle.orbit_laws.proofs.Positions.{position_isotone}
use Rattle.site_laws.specs.Places.{PlaceEnds, IsNearEarth}
use Rattle.site_laws.specs.Frames.{frame_of}
use Rattle.site_laws.proofs.PlaceOver.{place_over_near_earth}
use Rattle.site_laws.proofs.LookIsotone.{direction_ordered}
use Rattle.slope_laws.specs.declared.shift.Shift.{Shift}
use Rattle.slope_laws.specs.ShiftSlopes.{slopes_for}
use Rattle.verdict_laws.specs.Sights.{Sight, sighted_over}
use Rattle.case_laws.specs.SightOver.{mask_of, weight_over, box_over, sight_on, sight_over}
use Rattle.case_laws.specs.PieceVerdict.{seen_of, verdict_by_test}
use Rattle.case_laws.proofs.Weights.{weight_bounded}
use Rattle.case_laws.proofs.Masks.{mask_full}
use Rattle.case_laws.proofs.Records.{record_of}
use Rattle.case_laws.proofs.Stretches.{leg_found, leg_points}
use Rattle.time_forms.specs.Forms.{Form, IsTime}
use Rattle.orbit_forms.specs.Positions.{VectorForm, VectorHolds}
use Rattle.look_forms.specs.Frames.{FrameForm, FrameHolds}
use Rattle.verdict_forms.specs.Sights.{SightTold, SightHolds, SeenHold, sight_form, form_rows}
use Rattle.slope_forms.specs.Told.{TellsVerdict}
use Rattle.verdict_forms.specs.Verdicts.{verdict_told, AreSafe}
use Rattle.verdict_forms.proofs.Sights.{sight_held}
use Rattle.verdict_forms.proofs.Verdicts.{flight_tells}
use Rattle.verdict_forms.proofs.Small.{seen_small}

-- where the forms of a frame hold the written frame at t, and those of a place the written place of the satellite, what they tell of
-- the satellite is so of what is seen at t
pub sight_over_held : {h : ℕ} {d : ℤ} (c : Case) → IsCase c → (t : ℤ) (rec : AlmRecord) → IsListed c rec → (leg : OnLeg c.route t) (f : FrameForm) (fs : VectorForm) → IsTime h d
    → FrameHolds h d f (frame_of (box_over record { start = leg.start; stop = leg.stop } t t)) → VectorHolds h d fs (position_of rec t t)
    → SightHolds h d (sight_form f fs (mask_of c.limits) (weight_over c.limits.weights.items rec.prn)) (sight_over c rec t t)
sight_over_held {h} {d} c i t rec m leg f fs time v w =
    let p = leg_points c i t leg in
    let box : PlaceEnds = box_over record { start = leg.start; stop = leg.stop } t t in
    let o : t ≤ℤ t = omega (arith, ints) in
    let near : IsNearEarth box = place_over_near_earth leg.start leg.stop t t p.0 p.1 leg.started o leg.not_over in
    let self : VectorInside (position_of rec t t) (position_of rec t t) = position_isotone rec t t t t (record_of c i rec m) o o o in
    let mask = mask_full c.limits in
    subst (λ x. SightHolds h d (sight_form f fs (mask_of c.limits) (weight_over c.limits.weights.items rec.prn)) (sight_on c.limits x rec t t)) (sym (leg_found c i t leg))
    (sight_held f (frame_of box) fs (position_of rec t t) (mask_of c.limits) (weight_over c.limits.weights.items rec.prn) time mask.ordered (weight_bounded c.limits.weights.items rec.prn i.limits.weights.each).ordered v w
    (λ far. direction_ordered {mask = mask_of c.limits} near self mask.ordered far))

-- satellite by satellite
seen_held : (h : ℕ) (d : ℤ) (c : Case) (told : AlmRecord → SightTold) (sight : AlmRecord → Sight) → ((rec : AlmRecord) → IsListed c rec → SightHolds h d (told rec) (sight rec))
    → (recs : List AlmRecord) → AllByRecursion (λ rec. IsListed c rec) recs → SeenHold h d (map told recs) (sighted_over sight recs)
seen_held h d c told sight each [] l = tt
seen_held h d c told sight each (rec ∷ recs) l = (each rec l.0, seen_held h d c told sight each recs l.1)

-- what forms tell of the satellites that are usable at the first millisecond of a piece inside a root piece tells the written verdict
-- of each of its milliseconds
pub piece_tells : {h : ℕ} {d : ℤ} (shift : Shift) (alert_mm : ℕ) (c : Case) → IsCase c → (first last t : ℤ) → InRootPiece c first last → first ≤ℤ t → t ≤ℤ last
    → (told : AlmRecord → SightTold) → IsTime h d → AreSafe c.limits alert_mm (length (form_rows (map told (usable c first)))) → ((rec : AlmRecord) → IsListed c rec → SightHolds h d (told rec) (sight_over c rec t t))
    → TellsVerdict (verdict_told shift c.limits alert_mm (map told (usable c first))) (verdict_by_test (slopes_for shift) alert_mm c t t)
piece_tells {h} {d} shift alert_mm c i first last t p low high told time quick each =
    let same = usable_same c first last t p low high in
    subst (λ recs. TellsVerdict (verdict_told shift c.limits alert_mm (map told recs)) (verdict_by_test (slopes_for shift) alert_mm c t t)) same
    (flight_tells shift alert_mm c t (map told (usable c t)) time (subst (λ recs. AreSafe c.limits alert_mm (length (form_rows (map told recs)))) (sym same) quick) (seen_held h d c told (λ rec. sight_over c rec t t) each (usable c t) (usable_recorded c t)) (seen_small c i t (inside_root c first last t t p low high)))
