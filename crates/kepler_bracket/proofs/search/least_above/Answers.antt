use Rattle.std.proofs.Common.{rules, arith, pos, neg_ℤ, ◌+ℤ◌, to_z, of_z}
use mir.Val.{SFits}
use mir.Syntax.{w64}
use Rattle.std.proofs.lemmas.Int.{ints}
use Rattle.trig_enclose.proofs.Casts.{plain}
use Rattle.kepler_laws.specs.Anomalies.{bracket, is_above, IsLeast}
use Rattle.kepler_bracket.specs.Eccentricities.{eccentricity_ends}
use Rattle.kepler_bracket.proofs.Probes.{above_first, above_last, least, negated}
use Rattle.kepler_bracket.proofs.search.least_above.Goals as goal

pub last_passing-requires-clause-passes : goal.last_passing-requires-clause-passes
last_passing-requires-clause-passes c =
    let p : SFits w64 c.args.mean = search rules in
    rw (plain p) (negated (above_first c.args.eps c.args.mean c.requires.low))

pub last_passing-requires-clause-fails : goal.last_passing-requires-clause-fails
last_passing-requires-clause-fails c =
    let p : SFits w64 c.args.mean = search rules in
    rw (plain p) (negated (above_last c.args.eps c.args.mean c.requires.high))

pub returns : goal.returns
returns c =
    let p : SFits w64 c.args.mean = search rules in
    let r : SFits w64 c.last_passing.result = search rules in
    let h = c.last_passing.ensures in
    let low = h.low in
    let high = h.high in
    let n : SFits w64 (c.last_passing.result +ℤ pos 1) = omega (arith, ints) in
    let found : IsLeast (is_above (eccentricity_ends c.args.eps) (to_z w64 (of_z w64 c.args.mean))) (neg_ℤ bracket) bracket (c.last_passing.result +ℤ pos 1) = least c.args.eps (to_z w64 (of_z w64 c.args.mean)) c.last_passing.result h in
    rw (plain r, plain n) (rw (plain p) at found)
