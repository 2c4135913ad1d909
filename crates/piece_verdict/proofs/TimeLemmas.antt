-- The times of a case's almanacs and of its flight are times that a cut may have.
use Rattle.std.specs.Prelude.{◌≡◌, zero, suc, ◌≤◌, ℤ, ◌≤ℤ◌, List, [], ◌∷◌, length, map, All}
use Rattle.std.proofs.Common.{arith, subst}
use Rattle.std.proofs.lemmas.Int.{ints}
use Rattle.std.proofs.lemmas.List.{length-map}
use Rattle.raim_model.specs.declared.almanac.AlmRecord.{AlmRecord}
use Rattle.raim_model.specs.declared.span.Span.{Span}
use Rattle.raim_model.specs.AlmanacInForce.{time_of}
use Rattle.raim_model.specs.AlmanacRanges.{IsApplicable, AreRecords}
use Rattle.raim_model.specs.CaseCuts.{InRootPiece}
use Rattle.raim_model.specs.CaseRanges.{IsCase}
use Rattle.raim_model.specs.Cuts.{IsCutTime}
use Rattle.raim_model.specs.Route.{flight_of}
use Rattle.raim_model.specs.Solution.{Case}
use Rattle.raim_model.specs.Span.{IsFlight}
use Rattle.route_interp.proofs.Times.{is_flight}

-- that of an almanac, within 90 days of a flight
almanac_time : (flight : Span) → IsFlight flight → (records : List AlmRecord) → AreRecords flight records → IsCutTime (time_of records)
almanac_time flight f [] r = let s = r.some in absurd (omega arith)
almanac_time flight f (rec ∷ recs) r =
    let a : IsApplicable rec flight.first = r.at_first 0 rec (omega arith) in
    let l = f.after_epoch in let s = f.some in let h = f.before_end in
    let p = a.not_before in let q = a.not_after in
    (omega (arith, ints), omega (arith, ints))

-- those of several
almanac_times : (flight : Span) → IsFlight flight → (almanacs : List (List AlmRecord)) → All (AreRecords flight) almanacs → All IsCutTime (map time_of almanacs)
almanac_times flight f [] r = λ k d p. absurd (omega arith)
almanac_times flight f (a ∷ rest) r = step a rest (almanac_time flight f a (r 0 a (omega arith))) (almanac_times flight f rest (λ j e q. r (suc j) e (omega arith)))
  where
    step : (b : List AlmRecord) (bs : List (List AlmRecord)) → IsCutTime (time_of b) → All IsCutTime (map time_of bs) → All IsCutTime (map time_of (b ∷ bs))
    step b bs h k zero d p = h
    step b bs h k (suc i) d p = k i d (omega arith)

-- those of the almanacs of a case
pub case_times : (c : Case) → IsCase c → All IsCutTime (map time_of c.almanacs)
case_times c i = almanac_times (flight_of c.route) (is_flight c.route i.route) c.almanacs i.almanacs.each

-- and of them there is one at least
pub some_times : (c : Case) → IsCase c → (times : List ℤ) → map time_of c.almanacs ≡ times → 1 ≤ length times
some_times c i times e = let s = i.almanacs.some in subst (λ ts. 1 ≤ length ts) e (let n : length (map time_of c.almanacs) ≡ length c.almanacs = length-map c.almanacs time_of in omega arith)

-- a millisecond of a piece
pub piece_time : (c : Case) → IsCase c → (first last : ℤ) → InRootPiece c first last → first ≤ℤ last → IsCutTime first
piece_time c i first last p o =
    let f : IsFlight (flight_of c.route) = is_flight c.route i.route in
    let a = f.after_epoch in let b = f.before_end in
    let s = p.started in let e = p.not_over in
    (omega (arith, ints), omega (arith, ints))
