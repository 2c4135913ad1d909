-- Where fewer satellites are usable than the test asks for, every solution has too few.
use Rattle.std.specs.Prelude.{◌≡◌, ℕ, ◌≤◌, ◌<◌, ℤ, Bool, true, false, nat_lt, if◌then◌else◌, List, [], ◌∷◌, length, refl}
use Rattle.std.proofs.Common.{arith}
use Rattle.fractions.specs.Fraction.{Fraction}
use Rattle.raim_model.specs.declared.almanac.AlmRecord.{AlmRecord}
use Rattle.raim_model.specs.declared.verdict.Why.TheVariants.{Few}
use Rattle.raim_model.specs.declared.verdict.Verdict.TheVariants.{Unavailable}
use Rattle.raim_model.specs.Geometry.{Row, SquaredShift, weighed}
use Rattle.raim_model.specs.Level.{Level}
use Rattle.raim_model.specs.Look.{direction_row}
use Rattle.raim_model.specs.Orbit.{satellite_position}
use Rattle.raim_model.specs.PointVerdict.{least_count, reason_of, kappa_of, verdict_for}
use Rattle.raim_model.specs.Receiver.{Site, site}
use Rattle.raim_model.specs.Solution.{Case, Sightings, HasVerdictFor, usable, is_seen, visible_rows, rows_of}
use Rattle.raim_model.specs.Weights.{weight_of}

-- no more satellites are visible than are looked at
visible_few : (N : Level) (c : Case) (t : ℤ) (from : Site) (recs : List AlmRecord) (s : Sightings N c t from recs) → length (visible_rows N c t from recs s) ≤ length recs
unfolding visible_rows
visible_few N c t from [] s = omega arith
visible_few N c t from (rec ∷ recs) s = by_test (visible_few N c t from recs s.1) (is_seen s.0)
  where
    by_test : length (visible_rows N c t from recs s.1) ≤ length recs → (seen : Bool) → length (if seen then weighed (weight_of c.limits.weights.items rec.prn) (direction_row from (satellite_position s.0.orbit) s.0.range) ∷ visible_rows N c t from recs s.1 else visible_rows N c t from recs s.1) ≤ length (rec ∷ recs)
    by_test h true = omega arith
    by_test h false = omega arith

-- a list that is too short has the verdict Few
pub few_reason : (shift : SquaredShift) (exclude : Bool) (k k_less : Fraction) (gs : List Row) → length gs < least_count exclude → verdict_for (reason_of shift exclude k k_less gs) ≡ Unavailable Few
unfolding reason_of
few_reason shift exclude k k_less gs h = let e : nat_lt (length gs) (least_count exclude) ≡ true = grind arith in rw e refl

pub few_everywhere : (shift : SquaredShift) (alert_mm : ℕ) (c : Case) (t : ℤ) → length (usable c t) < least_count c.limits.exclude → HasVerdictFor shift alert_mm c t (Unavailable Few)
few_everywhere shift alert_mm c t h = record {
  always = λ N s.
      let few = visible_few N c t (site s.receiver) (usable c t) s.sightings in
      few_reason shift c.limits.exclude (kappa_of c.limits alert_mm (length (rows_of s))) _ (rows_of s) (omega arith);
}
