use Rattle.std.proofs.Common.{rules, arith, ap, sym, ◌∙◌, ◌≡◌, ℤ, pos, neg_ℤ, ◌+ℤ◌, ◌-ℤ◌, ◌≤ℤ◌, to_z, of_z, subst}
use mir.Val.{SFits}
use mir.Syntax.{w64, w128}
use Rattle.std.proofs.lemmas.Int.{ints}
use Rattle.whole_numbers.proofs.Casts.{plain}
use Rattle.trig_enclose.proofs.Casts.{plain as plain64}
use Rattle.fix_interval.specs.Ends.{Ends}
use Rattle.fix_interval.specs.Intervals.{ends}
use Rattle.fix_interval.proofs.EndSums.{same_ends}
use Rattle.kepler_laws.specs.Anomalies.{IsEccentricityInTurns, IsWithinHalfTurn, anomalies_of, is_below, is_above, bracket, IsGreatest, IsLeast}
use Rattle.kepler_laws.proofs.Anomalies.{anomalies_enclose, anomalies_isotone}
use Rattle.kepler_laws.proofs.Wraps.{anomalies_ordered}
use Rattle.kepler_bracket.proofs.Probes.{ends-are}
use Rattle.kepler_bracket.proofs.ends.anomalies.Goals as goal

from_low : {a b : Ends} {p q l : ℤ} → a ≡ b → p ≡ q → IsGreatest (is_below a p) (neg_ℤ bracket) bracket l → IsGreatest (is_below b q) (neg_ℤ bracket) bracket l
from_low {a} {b} {p} {q} {l} e f g = subst (λ (t : Ends). IsGreatest (is_below t q) (neg_ℤ bracket) bracket l) e (subst (λ z. IsGreatest (is_below a z) (neg_ℤ bracket) bracket l) f g)

from_high : {a b : Ends} {p q l : ℤ} → a ≡ b → p ≡ q → IsLeast (is_above a p) (neg_ℤ bracket) bracket l → IsLeast (is_above b q) (neg_ℤ bracket) bracket l
from_high {a} {b} {p} {q} {l} e f g = subst (λ (t : Ends). IsLeast (is_above t q) (neg_ℤ bracket) bracket l) e (subst (λ z. IsLeast (is_above a z) (neg_ℤ bracket) bracket l) f g)

-- the eccentricity and the mean anomalies, as the laws ask for them
eccentric : (c : goal.After-least_above-high) → IsEccentricityInTurns (ends c.args.eps)
eccentric c = record { low = c.requires.eps_low; ordered = c.args.eps.ordered; high = c.requires.eps_high }

half : (c : goal.After-least_above-high) → IsWithinHalfTurn (ends c.args.m)
half c = record { low = c.requires.half.low; ordered = c.args.m.ordered; high = c.requires.half.high }

-- what was found
lowest : (c : goal.After-least_above-high) → IsGreatest (is_below (ends c.args.eps) c.args.m.lo) (neg_ℤ bracket) bracket c.greatest_below-low.result
lowest c =
    let lo : SFits w128 c.args.m.lo = search rules in
    let h = c.requires.half in
    let o = c.args.m.ordered in
    let lo64 : SFits w64 c.args.m.lo = omega (arith, ints, h.low, h.high) in
    from_low c.eccentricity_of-eccentricity.ensures (ap (λ z. to_z w64 (of_z w64 z)) (plain lo) ∙ plain64 lo64) c.greatest_below-low.ensures

highest : (c : goal.After-least_above-high) → IsLeast (is_above (ends c.args.eps) c.args.m.hi) (neg_ℤ bracket) bracket c.least_above-high.result
highest c =
    let hi : SFits w128 c.args.m.hi = search rules in
    let h = c.requires.half in
    let o = c.args.m.ordered in
    let hi64 : SFits w64 c.args.m.hi = omega (arith, ints, h.low, h.high) in
    from_high c.eccentricity_of-eccentricity.ensures (ap (λ z. to_z w64 (of_z w64 z)) (plain hi) ∙ plain64 hi64) c.least_above-high.ensures

-- a unit outward, the ends of the definition
outward : (c : goal.After-least_above-high) → record { lo = c.greatest_below-low.result -ℤ pos 1; hi = c.least_above-high.result +ℤ pos 1 } ≡ anomalies_of (ends c.args.eps) (ends c.args.m)
outward c = ends-are (ends c.args.eps) (ends c.args.m) c.greatest_below-low.result c.least_above-high.result (eccentric c) (half c) (lowest c) (highest c)

less_more : (z : ℤ) → (z -ℤ pos 1) +ℤ pos 1 ≡ z
less_more z = omega (arith, ints)

more_less : (z : ℤ) → (z +ℤ pos 1) -ℤ pos 1 ≡ z
more_less z = omega (arith, ints)

pub unit_outward-requires : goal.unit_outward-requires
unit_outward-requires c =
    let l : SFits w64 c.greatest_below-low.result = search rules in
    let u : SFits w64 c.least_above-high.result = search rules in
    let e = outward c in
    let o : (c.greatest_below-low.result -ℤ pos 1) ≤ℤ (c.least_above-high.result +ℤ pos 1) = subst (λ (t : Ends). t.lo ≤ℤ t.hi) (sym e) (anomalies_ordered (ends c.args.eps) (ends c.args.m) (eccentric c) (half c)) in
    rw (plain64 l, plain64 u) o

pub returns-clause-lower : goal.returns-clause-lower
returns-clause-lower c =
    let l : SFits w64 c.greatest_below-low.result = search rules in
    let e = c.unit_outward.ensures.lo ∙ ap (λ z. z -ℤ pos 1) (plain64 l) in
    subst (λ z. IsGreatest (is_below (ends c.args.eps) c.args.m.lo) (neg_ℤ bracket) bracket z) (sym (ap (λ z. z +ℤ pos 1) e ∙ less_more c.greatest_below-low.result)) (lowest c.before)

pub returns-clause-upper : goal.returns-clause-upper
returns-clause-upper c =
    let u : SFits w64 c.least_above-high.result = search rules in
    let e = c.unit_outward.ensures.hi ∙ ap (λ z. z +ℤ pos 1) (plain64 u) in
    subst (λ z. IsLeast (is_above (ends c.args.eps) c.args.m.hi) (neg_ℤ bracket) bracket z) (sym (ap (λ z. z -ℤ pos 1) e ∙ more_less c.least_above-high.result)) (highest c.before)

pub returns-clause-exact : goal.returns-clause-exact
returns-clause-exact c =
    let l : SFits w64 c.greatest_below-low.result = search rules in
    let u : SFits w64 c.least_above-high.result = search rules in
    same_ends (c.unit_outward.ensures.lo ∙ ap (λ z. z -ℤ pos 1) (plain64 l)) (c.unit_outward.ensures.hi ∙ ap (λ z. z +ℤ pos 1) (plain64 u)) ∙ outward c.before

pub returns-clause-encloses : goal.returns-clause-encloses
returns-clause-encloses c = anomalies_enclose (returns-clause-exact c) (eccentric c.before) (half c.before)

pub returns-clause-isotone : goal.returns-clause-isotone
returns-clause-isotone c d f h i p q = anomalies_isotone (returns-clause-exact c) f d i h q p
