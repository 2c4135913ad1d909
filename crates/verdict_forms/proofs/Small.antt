-- The rows that are seen at a time are few, and their parts are at most 1 and a unit.
use Rattle.std.specs.Prelude.{◌≡◌, ℕ, ◌+◌, ◌^◌, ◌≤◌, ℤ, pos, ◌≤ℤ◌, ◌<ℤ◌, Bool, not, List, [], ◌∷◌, length, All, refl, Some}
use Rattle.std.specs.List.{AllByRecursion, filter}
use Rattle.std.proofs.Common.{arith, ap, sym, subst, ◌∙◌}
use Rattle.std.proofs.lemmas.Int.{ints}
use Rattle.std.proofs.lemmas.List.Elements.{All-cons, All-nil}
use Rattle.std.proofs.lemmas.List.Filters.{length-filter_both}
use Rattle.raim_model.specs.declared.almanac.AlmRecord.{AlmRecord}
use Rattle.raim_model.specs.AlmanacInForce.{in_force}
use Rattle.raim_model.specs.CaseCuts.{InRootPiece}
use Rattle.raim_model.specs.CaseRanges.{IsCase, IsListed}
use Rattle.raim_model.specs.Receiver.{OnLeg}
use Rattle.raim_model.specs.Solution.{Case, usable}
use Rattle.raim_model.specs.Usable.{is_usable}
use Rattle.flight_laws.proofs.Legs.{flight_leg}
use Rattle.flight_laws.proofs.Usable.{usable_recorded, records_in_force}
use Rattle.fix_interval.specs.Ends.{Ends, IsInside}
use Rattle.fix_interval.specs.Ranges.{around, unit_ends}
use Rattle.fix_interval.specs.Vectors.{VectorInside}
use Rattle.orbit_laws.specs.Positions.{position_of}
use Rattle.orbit_laws.proofs.Positions.{position_isotone}
use Rattle.geom_laws.specs.Rows.{RowEnds, RowWithin, weighed_of}
use Rattle.geom_laws.proofs.Rows.{weighed_within}
use Rattle.site_laws.specs.Places.{PlaceEnds, IsNearEarth}
use Rattle.site_laws.specs.Frames.{frame_of}
use Rattle.site_laws.specs.Sights.{SightEnds, DirectionEnds, visible, hidden, straddle, DirectionInside, widest_direction, look_of}
use Rattle.site_laws.proofs.PlaceOver.{place_over_near_earth}
use Rattle.site_laws.proofs.LookIsotone.{look_bounds}
use Rattle.slope_laws.specs.Rows.{NamedRow}
use Rattle.slope_laws.specs.ShiftSlopes.{ends_of}
use Rattle.verdict_laws.specs.Sights.{Sight, Visible, Hidden, Straddles, Sighted, sighted_over, with_row, rows_seen}
use Rattle.case_laws.specs.SightOver.{mask_of, weight_over, box_over, sight_given, sight_on, sight_over}
use Rattle.case_laws.specs.PieceVerdict.{seen_of}
use Rattle.case_laws.proofs.Weights.{weight_bounded}
use Rattle.case_laws.proofs.Masks.{mask_full}
use Rattle.case_laws.proofs.Records.{record_of}
use Rattle.case_laws.proofs.Stretches.{leg_found, leg_points}
use Rattle.slope_forms.specs.Slopes.{AreSmall}

-- ---- one row
same_row : (a b : RowEnds) → Visible a ≡ Visible b → a ≡ b
same_row a b e = cc

given_small : (k : Ends) → IsInside k unit_ends → (w : SightEnds) → ((a : DirectionEnds) → w ≡ visible a → DirectionInside a widest_direction) → (r : RowEnds) → sight_given k w ≡ Visible r → RowWithin r (2 ^ 38 + 1)
given_small k i (visible a) v r e = let d = v a refl in subst (λ s. RowWithin s (2 ^ 38 + 1)) (same_row (weighed_of a.east a.north a.up k) r e) (weighed_within d.east d.north d.up i)
given_small k i hidden v r e = absurd (cc)
given_small k i straddle v r e = absurd (cc)

sight_small : (c : Case) → IsCase c → (t : ℤ) → InRootPiece c t t → (rec : AlmRecord) → IsListed c rec → (r : RowEnds) → sight_over c rec t t ≡ Visible r → RowWithin r (2 ^ 38 + 1)
sight_small c i t p rec m r e =
    let leg : OnLeg c.route t = flight_leg c t (record { started = p.started; not_over = p.not_over }) in
    let w = leg_points c i t leg in
    let box : PlaceEnds = box_over record { start = leg.start; stop = leg.stop } t t in
    let o : t ≤ℤ t = omega (arith, ints) in
    let near : IsNearEarth box = place_over_near_earth leg.start leg.stop t t w.0 w.1 leg.started o leg.not_over in
    let self : VectorInside (position_of rec t t) (position_of rec t t) = position_isotone rec t t t t (record_of c i rec m) o o o in
    given_small (weight_over c.limits.weights.items rec.prn) (weight_bounded c.limits.weights.items rec.prn i.limits.weights.each) (look_of (frame_of box) (position_of rec t t) (mask_of c.limits))
    (λ a q. look_bounds near self (mask_full c.limits).ordered q) r
    (ap (λ x. sight_on c.limits x rec t t) (sym (leg_found c i t leg)) ∙ e)

-- ---- all rows
abbrev IsSmallRow : RowEnds → Type 0
IsSmallRow r = RowWithin r (2 ^ 38 + 1)

front_small : (prn : ℕ) (w : Sight) (rows : List NamedRow) → ((r : RowEnds) → w ≡ Visible r → IsSmallRow r) → All IsSmallRow (ends_of rows) → All IsSmallRow (ends_of (with_row prn w rows))
front_small prn (Visible r) rows v h = All-cons IsSmallRow r (ends_of rows) (v r refl) h
front_small prn Hidden rows v h = h
front_small prn Straddles rows v h = h

rows_small : (sight : AlmRecord → Sight) (recs : List AlmRecord) → AllByRecursion (λ rec. (r : RowEnds) → sight rec ≡ Visible r → IsSmallRow r) recs → All IsSmallRow (ends_of (rows_seen (sighted_over sight recs)))
rows_small sight [] h = All-nil IsSmallRow
rows_small sight (rec ∷ recs) h = front_small rec.prn (sight rec) (rows_seen (sighted_over sight recs)) h.0 (rows_small sight recs h.1)

each_small : (c : Case) → IsCase c → (t : ℤ) → InRootPiece c t t → (recs : List AlmRecord) → AllByRecursion (λ rec. IsListed c rec) recs → AllByRecursion (λ rec. (r : RowEnds) → sight_over c rec t t ≡ Visible r → IsSmallRow r) recs
each_small c i t p [] h = tt
each_small c i t p (rec ∷ recs) h = (sight_small c i t p rec h.0, each_small c i t p recs h.1)

-- ---- their number
front_few : (prn : ℕ) (w : Sight) (rows : List NamedRow) (n : ℕ) → length (ends_of rows) ≤ n → length (ends_of (with_row prn w rows)) ≤ 1 + n
front_few prn (Visible r) rows n h = omega arith
front_few prn Hidden rows n h = omega arith
front_few prn Straddles rows n h = omega arith

rows_few : (sight : AlmRecord → Sight) (recs : List AlmRecord) → length (ends_of (rows_seen (sighted_over sight recs))) ≤ length recs
rows_few sight [] = omega arith
rows_few sight (rec ∷ recs) = let p = front_few rec.prn (sight rec) (rows_seen (sighted_over sight recs)) (length recs) (rows_few sight recs) in omega arith

usable_few : (c : Case) → IsCase c → (t : ℤ) → length (usable c t) ≤ 32
usable_few c i t =
    let n = length-filter_both (is_usable c.outages t) (λ x. not (is_usable c.outages t x)) (λ x. refl) (in_force t c.almanacs) in
    let m = (records_in_force c i t).few in
    omega arith

pub seen_small : (c : Case) → IsCase c → (t : ℤ) → InRootPiece c t t → AreSmall (rows_seen (seen_of c t t))
seen_small c i t p =
    let n = rows_few (λ rec. sight_over c rec t t) (usable c t) in let m = usable_few c i t in
    record {
      few = omega arith;
      within = rows_small (λ rec. sight_over c rec t t) (usable c t) (each_small c i t p (usable c t) (usable_recorded c t));
    }
