use Rattle.std.proofs.Common.{rules, ◌∙◌, ap, pos, ◌*ℤ◌, ◌^◌}
use mir.Val.{SFits}
use mir.Syntax.{w64}
use Rattle.whole_numbers.specs.Rounding.{floor_of, ceil_of}
use Rattle.fix_interval.proofs.EndSums.{same_ends}
use Rattle.fix_interval.specs.Quotients.{scale_of}
use Rattle.trig_laws.specs.Quarter.{turn_parts}
use Rattle.trig_laws.proofs.Points.{radians_within}
use Rattle.fix_interval.specs.Intervals.{ends_64}
use Rattle.trig_enclose.proofs.Casts.{plain}
use Rattle.trig_enclose.proofs.radians.in_radians.Goals as goal

pub returns-clause-exact : goal.returns-clause-exact
unfolding scale_of
returns-clause-exact c =
    let lo : SFits w64 c.args.r.lo = search rules in
    let hi : SFits w64 c.args.r.hi = search rules in
    let down : SFits w64 c.radians_down.result = search rules in
    let up : SFits w64 c.radians_up.result = search rules in
    same_ends
    (plain down ∙ c.radians_down.ensures ∙ ap (λ z. floor_of (z *ℤ pos turn_parts) (10 ^ 13)) (plain lo))
    (plain up ∙ c.radians_up.ensures ∙ ap (λ z. ceil_of (z *ℤ pos turn_parts) (10 ^ 13)) (plain hi))

pub returns-clause-small : goal.returns-clause-small
returns-clause-small c = rw (returns-clause-exact c) (radians_within (ends_64 c.args.r) c.requires)
