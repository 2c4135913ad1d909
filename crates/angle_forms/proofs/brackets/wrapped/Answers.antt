use Rattle.std.proofs.Common.{rules, arith, ap, ap₂, ◌∙◌, pos, ◌*ℤ◌, ◌^◌}
use mir.Val.{SFits}
use mir.Syntax.{w128}
use Rattle.std.proofs.lemmas.Int.{ints, clamps}
use Rattle.whole_numbers.proofs.Casts.{plain}
use Rattle.fix_interval.specs.Ends.{Ends}
use Rattle.fix_interval.specs.Bounds.{clamp_of}
use Rattle.fix_interval.specs.Sums.{sub_of}
use Rattle.fix_interval.specs.Ranges.{point}
use Rattle.kepler_laws.specs.EccentricSine.{wrapped_of}
use Rattle.angle_forms.proofs.brackets.wrapped.Goals as goal

pub returns-clause-exact : goal.returns-clause-exact
unfolding wrapped_of
returns-clause-exact c =
    let t : SFits w128 c.whole_turns.result = search rules in
    let w = plain t ∙ c.whole_turns.ensures.value ∙ ap (λ z. z *ℤ pos (2 ^ 38)) (plain c.ranges.w) in
    c.clamp.ensures.exact ∙ ap (λ (a : Ends). clamp_of a (pos (2 ^ 37))) (c.sub.ensures.exact ∙ ap₂ sub_of (c.point.ensures ∙ ap point (plain c.ranges.z)) (c.point-2.ensures ∙ ap point w))

pub returns-clause-half : goal.returns-clause-half
returns-clause-half c = record { low = omega (arith, ints, clamps, c.clamp.ensures.lo); high = omega (arith, ints, clamps, c.clamp.ensures.hi) }
