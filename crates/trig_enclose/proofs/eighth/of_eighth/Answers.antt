use Rattle.std.proofs.Common.{rules, ap, ◌∙◌, ◌≡◌, ℤ, to_z, of_z, true, false}
use mir.Val.{SFits}
use mir.Syntax.{w64}
use Rattle.fix_interval.specs.Ends.{Ends}
use Rattle.fix_interval.proofs.EndSums.{same_ends}
use Rattle.trig_laws.specs.Quarter.{sine_of, cosine_of, sine_divisors}
use Rattle.trig_laws.specs.Chains.{nest_end, eighth_sine_low_of, eighth_sine_high_of}
use Rattle.trig_laws.proofs.Isotones.{sine_full, cosine_full}
use Rattle.fix_interval.specs.Intervals.{ends_64}
use Rattle.trig_enclose.proofs.Casts.{plain}
use Rattle.trig_enclose.proofs.Eighths.{sine-is, cosine-is}
use Rattle.trig_enclose.proofs.eighth.of_eighth.Goals as goal

pub invariant_of-result : goal.invariant_of-result
invariant_of-result c =
    let lo : SFits w64 c.in_radians-x.result.lo = search rules in
    let hi : SFits w64 c.in_radians-x.result.hi = search rules in
    let down : SFits w64 c.eighth_sine_low.result = search rules in
    let up : SFits w64 c.eighth_sine_high.result = search rules in
    let y = c.square-y.result in
    let e = sine-is (ends_64 c.args.r) c.in_radians-x.result y c.requires c.in_radians-x.ensures.exact c.square-y.ensures in
    let l : to_z w64 (of_z w64 c.eighth_sine_low.result) ≡ (sine_of (ends_64 c.args.r)).lo = plain down ∙ c.eighth_sine_low.ensures ∙ ap (λ (z : ℤ). eighth_sine_low_of z (nest_end false y.lo y.hi sine_divisors) (nest_end true y.lo y.hi sine_divisors)) (plain lo) ∙ ap (λ (t : Ends). t.lo) e in
    let h : to_z w64 (of_z w64 c.eighth_sine_high.result) ≡ (sine_of (ends_64 c.args.r)).hi = plain up ∙ c.eighth_sine_high.ensures.value ∙ ap (λ (z : ℤ). eighth_sine_high_of z (nest_end false y.lo y.hi sine_divisors) (nest_end true y.lo y.hi sine_divisors)) (plain hi) ∙ ap (λ (t : Ends). t.hi) e in
    record { ordered = rw (l, h) (sine_full (ends_64 c.args.r) c.requires).ordered }

pub invariant_of-result-2 : goal.invariant_of-result-2
invariant_of-result-2 c =
    let down : SFits w64 c.eighth_cosine_low.result = search rules in
    let up : SFits w64 c.eighth_cosine_high.result = search rules in
    let e = cosine-is (ends_64 c.args.r) c.in_radians-x.result c.square-y.result c.in_radians-x.ensures.exact c.square-y.ensures in
    let l : to_z w64 (of_z w64 c.eighth_cosine_low.result) ≡ (cosine_of (ends_64 c.args.r)).lo = plain down ∙ c.eighth_cosine_low.ensures ∙ ap (λ (t : Ends). t.lo) e in
    let h : to_z w64 (of_z w64 c.eighth_cosine_high.result) ≡ (cosine_of (ends_64 c.args.r)).hi = plain up ∙ c.eighth_cosine_high.ensures ∙ ap (λ (t : Ends). t.hi) e in
    record { ordered = rw (l, h) (cosine_full (ends_64 c.args.r) c.requires).ordered }

pub returns-clause-sine : goal.returns-clause-sine
returns-clause-sine c =
    let lo : SFits w64 c.in_radians-x.result.lo = search rules in
    let hi : SFits w64 c.in_radians-x.result.hi = search rules in
    let down : SFits w64 c.eighth_sine_low.result = search rules in
    let up : SFits w64 c.eighth_sine_high.result = search rules in
    let y = c.square-y.result in
    same_ends
    (plain down ∙ c.eighth_sine_low.ensures ∙ ap (λ (z : ℤ). eighth_sine_low_of z (nest_end false y.lo y.hi sine_divisors) (nest_end true y.lo y.hi sine_divisors)) (plain lo))
    (plain up ∙ c.eighth_sine_high.ensures.value ∙ ap (λ (z : ℤ). eighth_sine_high_of z (nest_end false y.lo y.hi sine_divisors) (nest_end true y.lo y.hi sine_divisors)) (plain hi))
    ∙ sine-is (ends_64 c.args.r) c.in_radians-x.result y c.requires c.in_radians-x.ensures.exact c.square-y.ensures

pub returns-clause-cosine : goal.returns-clause-cosine
returns-clause-cosine c =
    let down : SFits w64 c.eighth_cosine_low.result = search rules in
    let up : SFits w64 c.eighth_cosine_high.result = search rules in
    same_ends (plain down ∙ c.eighth_cosine_low.ensures) (plain up ∙ c.eighth_cosine_high.ensures)
    ∙ cosine-is (ends_64 c.args.r) c.in_radians-x.result c.square-y.result c.in_radians-x.ensures.exact c.square-y.ensures

pub returns-clause-sine_full : goal.returns-clause-sine_full
returns-clause-sine_full c = rw (returns-clause-sine c) (sine_full (ends_64 c.args.r) c.requires)

pub returns-clause-cosine_full : goal.returns-clause-cosine_full
returns-clause-cosine_full c = rw (returns-clause-cosine c) (cosine_full (ends_64 c.args.r) c.requires)
