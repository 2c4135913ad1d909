use Rattle.std.proofs.Common.{rules, ap, ◌∙◌, pos, ◌+ℤ◌, ◌*ℤ◌}
use mir.Syntax.{w128}
use mir.Val.{SFits}
use Rattle.whole_numbers.proofs.Casts.{plain}
use Rattle.orbit_forms.specs.Lines.{bend_of}
use Rattle.angle_forms.proofs.lines.missed_of.Goals as goal

pub returns-clause-value : goal.returns-clause-value
returns-clause-value c =
    let u = c.args.u in
    let ur : SFits w128 u.remainder = search rules in
    let m : SFits w128 c.missed.result = search rules in
    let b : SFits w128 c.bend.result = search rules in
    let r : SFits w128 c.reach.result = search rules in
    plain m ∙ (rw (plain ur, plain b, plain c.ranges.slack) at c.missed.ensures.value)
    ∙ ap (λ z. ((pos 7 *ℤ u.remainder +ℤ z) +ℤ c.args.slack) +ℤ pos 3) (c.bend.ensures.value ∙ ap bend_of (plain r ∙ c.reach.ensures.value))
