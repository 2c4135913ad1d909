use Rattle.std.proofs.Common.{rules, arith, ap, ◌∙◌, pos, ◌*ℤ◌, ◌^◌}
use mir.Val.{SFits}
use mir.Syntax.{w64}
use Rattle.std.proofs.lemmas.Int.{ints, clamps}
use Rattle.trig_enclose.proofs.Casts.{plain}
use Rattle.fix_interval.specs.Ends.{Ends}
use Rattle.fix_interval.specs.Bounds.{clamp_of}
use Rattle.fix_interval.specs.Sums.{sub_of}
use Rattle.fix_interval.specs.Intervals.{ends}
use Rattle.fix_interval.specs.Ranges.{point}
use Rattle.kepler_laws.specs.EccentricSine.{wrapped_of}
use Rattle.kepler_bracket.proofs.wraps.wrapped.Goals as goal

pub returns-clause-exact : goal.returns-clause-exact
unfolding wrapped_of
returns-clause-exact c =
    let f : SFits w64 c.args.w = search rules in
    let e = c.whole_turns.ensures.exact ∙ ap (λ z. point (z *ℤ pos (2 ^ 38))) (plain f) in
    c.clamp.ensures.exact ∙ ap (λ (a : Ends). clamp_of a (pos (2 ^ 37))) (c.sub.ensures.exact ∙ ap (λ (a : Ends). sub_of (ends c.args.m) a) e)

pub returns-clause-half : goal.returns-clause-half
returns-clause-half c = record { low = omega (arith, ints, clamps, c.clamp.ensures.lo); high = omega (arith, ints, clamps, c.clamp.ensures.hi) }
