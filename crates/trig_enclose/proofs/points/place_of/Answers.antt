use Rattle.std.proofs.Common.{rules, ap, ap₂, sym, ◌∙◌, pos}
use Rattle.std.specs.Int.{int_rem_euclid}
use mir.Val.{SFits}
use mir.Syntax.{w64}
use Rattle.fix_interval.specs.Ends.{Ends}
use Rattle.fix_interval.specs.Ranges.{point}
use Rattle.trig_laws.specs.Chains.{sine_ends, cosine_ends}
use Rattle.trig_laws.specs.Quarter.{left_of, sine_of, cosine_of}
use Rattle.trig_laws.specs.SinCos.{turn_of, pair_at, nearest_quarter_of}
use Rattle.trig_laws.proofs.Points.{sin_cos_point}
use Rattle.fix_interval.specs.Intervals.{ends_64}
use Rattle.trig_enclose.proofs.Casts.{plain}
use Rattle.trig_enclose.proofs.Eighths.{sine-is, cosine-is}
use Rattle.trig_enclose.proofs.points.place_of.Goals as goal

pub returns-clause-pair : goal.returns-clause-pair
unfolding pair_at
returns-clause-pair c =
    let k : SFits w64 c.args.k = search rules in
    let q : SFits w64 c.nearest_quarter-quarter.result = search rules in
    let r : SFits w64 c.rem_euclid.result = search rules in
    let quarter = c.nearest_quarter-quarter.ensures.value ∙ ap nearest_quarter_of (plain k) in
    let remainder = plain r ∙ c.rem_euclid.ensures.value ∙ ap (λ z. int_rem_euclid z (pos 4)) (plain q ∙ quarter) in
    let l = c.left.ensures.exact ∙ ap₂ (λ z t. left_of (point z) t) (plain k) (plain q ∙ quarter) in
    let s = sine-is (ends_64 c.left.result) c.in_radians-radians.result c.square.result c.left.ensures.eighth c.in_radians-radians.ensures.exact c.square.ensures ∙ ap sine_of l in
    let g = cosine-is (ends_64 c.left.result) c.in_radians-radians.result c.square.result c.in_radians-radians.ensures.exact c.square.ensures ∙ ap cosine_of l in
    let y = c.square.result in
    let a : Ends = sine_ends (ends_64 c.in_radians-radians.result) y.lo y.hi in
    let b : Ends = cosine_ends y.lo y.hi in
    sin_cos_point c.args.k ∙ sym (ap₂ (λ t u. turn_of (int_rem_euclid (nearest_quarter_of c.args.k) (pos 4)) t u) s g) ∙ sym (ap (λ z. turn_of z a b) remainder)
