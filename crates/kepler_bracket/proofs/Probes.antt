-- The tests at the two ends of the bracket, and at neighbours.
use Rattle.std.specs.Prelude.{◌≡◌, ℤ, pos, ◌^◌, neg_ℤ, ◌+ℤ◌, ◌-ℤ◌, ◌≤ℤ◌, ◌<ℤ◌, Bool, true, false, not}
use Rattle.std.proofs.Common.{arith, ap}
use Rattle.std.proofs.lemmas.Int.{ints}
use Rattle.fix_interval.specs.Ends.{Ends}
use Rattle.fix_interval.specs.Searches.{IsLastPassing}
use Rattle.fix_interval.proofs.EndSums.{same_ends}
use Rattle.kepler_laws.specs.Anomalies.{IsEccentricityInTurns, mean_of, is_below, is_above, bracket, IsGreatest, IsLeast, IsWithinHalfTurn, anomalies_of}
use Rattle.kepler_laws.proofs.Halvings.{is_greatest, is_least, greatest_is, least_is}
use Rattle.kepler_laws.proofs.Rising.{mean_near, below_falls, above_rises}
use Rattle.kepler_laws.proofs.Anomalies.{passes, fails, lower_is, upper_is}
use Rattle.kepler_bracket.specs.declared.eccentricity.EccentricityInTurns.{EccentricityInTurns}
use Rattle.kepler_bracket.specs.Eccentricities.{eccentricity_ends}

pub is_eccentric : (e : EccentricityInTurns) → IsEccentricityInTurns (eccentricity_ends e)
is_eccentric e = let o = e.ordered in let s = e.small in record { low = omega (arith, ints); ordered = omega (arith, ints); high = omega (arith, ints) }

pub negated : {b c : Bool} → b ≡ c → not b ≡ not c
negated e = ap not e

pub below_first : (e : EccentricityInTurns) (p : ℤ) → neg_ℤ (pos (2 ^ 37)) ≤ℤ p → is_below (eccentricity_ends e) p (neg_ℤ bracket) ≡ true
below_first e p h =
    let a = mean_near (eccentricity_ends e) (neg_ℤ bracket) (is_eccentric e) in
    let first : (mean_of (eccentricity_ends e) (neg_ℤ bracket)).hi ≤ℤ p = omega (arith, ints, a.high) in
    passes _ _ first

pub below_last : (e : EccentricityInTurns) (p : ℤ) → p ≤ℤ pos (2 ^ 37) → is_below (eccentricity_ends e) p bracket ≡ false
below_last e p h =
    let b = mean_near (eccentricity_ends e) bracket (is_eccentric e) in
    let last : p <ℤ (mean_of (eccentricity_ends e) bracket).hi = omega (arith, ints, b.low, b.ordered) in
    fails _ _ last

pub above_first : (e : EccentricityInTurns) (p : ℤ) → neg_ℤ (pos (2 ^ 37)) ≤ℤ p → is_above (eccentricity_ends e) p (neg_ℤ bracket) ≡ false
above_first e p h =
    let a = mean_near (eccentricity_ends e) (neg_ℤ bracket) (is_eccentric e) in
    let first : (mean_of (eccentricity_ends e) (neg_ℤ bracket)).lo <ℤ p = omega (arith, ints, a.high, a.ordered) in
    fails _ _ first

pub above_last : (e : EccentricityInTurns) (p : ℤ) → p ≤ℤ pos (2 ^ 37) → is_above (eccentricity_ends e) p bracket ≡ true
above_last e p h =
    let b = mean_near (eccentricity_ends e) bracket (is_eccentric e) in
    let last : p ≤ℤ (mean_of (eccentricity_ends e) bracket).lo = omega (arith, ints, b.low) in
    passes _ _ last

-- the last that passes is the greatest
pub greatest : (e : EccentricityInTurns) (p r : ℤ) → IsLastPassing (is_below (eccentricity_ends e) p) (neg_ℤ bracket) bracket r → IsGreatest (is_below (eccentricity_ends e) p) (neg_ℤ bracket) bracket r
greatest e p r h = is_greatest _ _ _ _ (below_falls (eccentricity_ends e) p (is_eccentric e)) h

-- the number after the last that is not certainly at least p is the least that is
pub least : (e : EccentricityInTurns) (p r : ℤ) → IsLastPassing (λ k. not (is_above (eccentricity_ends e) p k)) (neg_ℤ bracket) bracket r → IsLeast (is_above (eccentricity_ends e) p) (neg_ℤ bracket) bracket (r +ℤ pos 1)
least e p r h = is_least _ _ _ _ (above_rises (eccentricity_ends e) p (is_eccentric e)) h

-- the greatest and the least, a unit outward, are the ends of the anomalies
pub ends-are : (eps m : Ends) (l h : ℤ) → IsEccentricityInTurns eps → IsWithinHalfTurn m → IsGreatest (is_below eps m.lo) (neg_ℤ bracket) bracket l → IsLeast (is_above eps m.hi) (neg_ℤ bracket) bracket h
    → record { lo = l -ℤ pos 1; hi = h +ℤ pos 1 } ≡ anomalies_of eps m
unfolding anomalies_of
ends-are eps m l h i n g k = same_ends
    (ap (λ z. z -ℤ pos 1) (greatest_is _ _ _ l _ g (lower_is eps m i n)))
    (ap (λ z. z +ℤ pos 1) (least_is _ _ _ h _ k (upper_is eps m i n)))
