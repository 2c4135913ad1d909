use Rattle.std.proofs.Common.{rules, ap, ◌∙◌, ◌^◌, ◌*ℤ◌}
use mir.Syntax.{w128}
use mir.Val.{SFits}
use Rattle.whole_numbers.specs.Rounding.{floor_of}
use Rattle.whole_numbers.proofs.Casts.{plain}
use Rattle.angle_forms.proofs.Fits.{product-plain, quotient_within}
use Rattle.angle_forms.proofs.numbers.scaled.Goals as goal

pub returns-clause-small : goal.returns-clause-small
returns-clause-small c n p =
    let r : SFits w128 c.floor_shift.result = search rules in
    rw (plain r ∙ c.floor_shift.ensures ∙ ap (λ z. floor_of z (2 ^ 38)) (product-plain c.args.x c.args.y c.ranges.x c.ranges.y c.requires.fits)) (quotient_within (c.args.x *ℤ c.args.y) n p)
