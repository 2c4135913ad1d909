-- A single millisecond is undecided by the mask only where each solution has the satellite near it.
use Rattle.std.specs.Prelude.{◌≡◌, ◌≢◌, ℕ, ◌<◌, ℤ, List, [], ◌∷◌, Some, None}
use Rattle.std.specs.List.{AllByRecursion}
use Rattle.std.specs.declared.option.Option.{Option}
use Rattle.std.proofs.Common.{ap, sym, ◌∙◌, inl, inr}
use Rattle.std.proofs.lemmas.List.Kept.{AllPairs-filter}
use Rattle.raim_model.specs.declared.almanac.AlmRecord.{AlmRecord}
use Rattle.raim_model.specs.declared.limits.Limits.{Limits}
use Rattle.raim_model.specs.declared.verdict.Why.TheVariants.{Few}
use Rattle.raim_model.specs.declared.verdict.Cmp.TheVariants.{Mask}
use Rattle.raim_model.specs.declared.verdict.Verdict.{Verdict}
use Rattle.raim_model.specs.declared.verdict.Verdict.TheVariants as verdict
use Rattle.raim_model.specs.AlmanacInForce.{in_force}
use Rattle.raim_model.specs.Level.{Level}
use Rattle.raim_model.specs.Receiver.{OnLeg, place_on, ReceiverSolution, site}
use Rattle.raim_model.specs.Usable.{is_usable}
use Rattle.raim_model.specs.Solution.{Case, Sightings, usable}
use Rattle.raim_model.specs.CaseRanges.{IsCase, IsListed}
use Rattle.raim_model.specs.CaseCuts.{InRootPiece}
use Rattle.flight_laws.proofs.Usable.{usable_recorded, records_in_force}
use Rattle.slope_laws.specs.Slopes.{SlopeTest}
use Rattle.verdict_laws.specs.Sights.{Sight, Sighted, sighted_over, first_straddling, rows_seen}
use Rattle.verdict_laws.specs.PieceVerdict.{test_by, unless_straddling, verdict_by, piece_verdict_by}
use Rattle.verdict_laws.specs.NearMask.{AreNearMask, IsNearMaskAlways}
use Rattle.verdict_laws.specs.Hold.{HoldsSights}
use Rattle.verdict_laws.proofs.Seen.{few_or_enough}
use Rattle.verdict_laws.proofs.Straddling.{Straddling, Distinct, FoundStraddling, distinct_rising, found}
use Rattle.verdict_laws.proofs.NoMask.{test_no_mask}

-- only a satellite that straddles makes a verdict undecided by the mask
mask_straddles : (o : Option ℕ) (v : Verdict) (prn : ℕ) → v ≢ verdict.Undecided (Mask prn) → unless_straddling o v ≡ verdict.Undecided (Mask prn) → o ≡ Some prn
mask_straddles (Some p) v prn n e = let f : p ≡ prn = cc in ap Some f
mask_straddles None v prn n e = absurd (n e)

-- a verdict undecided by the mask names the first satellite that straddles
undecided_straddles : (test : SlopeTest) (limits : Limits) (alert_mm : ℕ) (seen : List Sighted) (prn : ℕ) → verdict_by test limits alert_mm seen ≡ verdict.Undecided (Mask prn) → first_straddling seen ≡ Some prn
undecided_straddles test limits alert_mm seen prn h = elim (few_or_enough test limits alert_mm seen) [
  | inl f ↦ absurd (not_few (sym f.1 ∙ h))
  | inr f ↦ mask_straddles (first_straddling seen) (test_by test limits alert_mm (rows_seen seen)) prn (test_no_mask test limits alert_mm (rows_seen seen) prn) (sym f.1 ∙ h)
]
  where
    not_few : verdict.Unavailable Few ≢ verdict.Undecided (Mask prn)
    not_few e = cc

-- each sighting of a satellite that straddles over one millisecond is near
all_near : (c : Case) (sight : AlmRecord → ℤ → ℤ → Sight) → HoldsSights c sight → (t : ℤ) → InRootPiece c t t → (prn : ℕ) (N : Level) (leg : OnLeg c.route t) (receiver : ReceiverSolution N (place_on leg))
    → (recs : List AlmRecord) → AllByRecursion (λ rec. IsListed c rec) recs → Straddling (λ rec. sight rec t t) prn recs → (s : Sightings N c t (site receiver) recs) → AreNearMask N c t (site receiver) prn recs s
all_near c sight holds t p prn N leg receiver [] m h s = tt
all_near c sight holds t p prn N leg receiver (rec ∷ recs) m h s =
    (λ e. holds.narrow t p rec m.0 (h.0 e) N leg receiver s.0, all_near c sight holds t p prn N leg receiver recs m.1 h.1 s.1)

-- so the satellite that is named is near in every solution
pub undecided_is_near : (test : SlopeTest) (alert_mm : ℕ) (c : Case) → IsCase c → (sight : AlmRecord → ℤ → ℤ → Sight) → HoldsSights c sight
    → (t : ℤ) → InRootPiece c t t → (prn : ℕ) → piece_verdict_by test alert_mm sight c t t ≡ verdict.Undecided (Mask prn) → IsNearMaskAlways c t prn
unfolding piece_verdict_by
undecided_is_near test alert_mm c i sight holds t p prn h =
    let f : AlmRecord → Sight = λ rec. sight rec t t in
    let d : Distinct (usable c t) = distinct_rising (usable c t) (AllPairs-filter (λ before after. before.prn < after.prn) (is_usable c.outages t) (in_force t c.almanacs) (records_in_force c i t).rising) in
    let g : FoundStraddling f prn (usable c t) = found f prn (usable c t) d (undecided_straddles test c.limits alert_mm (sighted_over f (usable c t)) prn h) in
    record { counts = g.there; always = λ N s. all_near c sight holds t p prn N s.leg s.receiver (usable c t) (usable_recorded c t) g.each s.sightings }
