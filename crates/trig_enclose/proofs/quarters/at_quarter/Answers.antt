use Rattle.std.proofs.Common.{rules, ap, ap₂, ◌∙◌, pos}
use Rattle.std.specs.Int.{int_rem_euclid}
use mir.Val.{SFits}
use mir.Syntax.{w64}
use Rattle.trig_laws.specs.Quarter.{sine_of, cosine_of, left_of}
use Rattle.trig_laws.specs.SinCos.{pair_at, turn_of}
use Rattle.fix_interval.specs.Intervals.{ends_64}
use Rattle.trig_enclose.proofs.Casts.{plain}
use Rattle.trig_enclose.proofs.quarters.at_quarter.Goals as goal

pub returns : goal.returns
unfolding pair_at
returns c =
    let f : SFits w64 c.args.q = search rules in
    let k = ap (λ z. int_rem_euclid z (pos 4)) (plain f) in
    let l = c.left.ensures.exact ∙ ap (λ z. left_of (ends_64 c.args.u) z) (plain f) in
    let s = c.of_eighth.ensures.sine ∙ ap sine_of l in
    let g = c.of_eighth.ensures.cosine ∙ ap cosine_of l in
    c.turned.ensures ∙ ap (λ z. turn_of z (ends_64 c.of_eighth.result.sine) (ends_64 c.of_eighth.result.cosine)) k ∙ ap₂ (λ a b. turn_of (int_rem_euclid c.args.q (pos 4)) a b) s g
