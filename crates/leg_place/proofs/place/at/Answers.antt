use Rattle.std.proofs.Common.{rules, ap, ap₂, ◌∙◌, ◌≡◌, ◌-ℤ◌, unsigned_abs, to_z, of_z}
use mir.Val.{SFits}
use mir.Syntax.{w64, w128}
use Rattle.fix_interval.specs.Intervals.{ends}
use Rattle.fix_interval.specs.Sums.{add_of}
use Rattle.fix_interval.specs.Quotients.{div_int_of}
use Rattle.site_laws.specs.Places.{times_of}
use Rattle.leg_place.proofs.Pieces.{plain, widened, at-weights}
use Rattle.leg_place.proofs.place.at.Goals as goal

pub returns : goal.returns
returns c =
    let p = c.args.piece.now in
    let s : SFits w64 p.start = search rules in
    let e : SFits w64 p.stop = search rules in
    let b : SFits w64 c.apart-before.result = search rules in
    let a : SFits w64 c.apart-after.result = search rules in
    let l : SFits w64 c.apart-long.result = search rules in
    let before : to_z w64 (of_z w64 c.apart-before.result) ≡ p.stop -ℤ c.args.t = plain b ∙ rw (plain e, plain c.ranges.t) at c.apart-before.ensures in
    let after : to_z w64 (of_z w64 c.apart-after.result) ≡ c.args.t -ℤ p.start = plain a ∙ rw (plain s, plain c.ranges.t) at c.apart-after.ensures in
    let long : to_z w128 (of_z w128 (to_z w64 (of_z w64 c.apart-long.result))) ≡ p.stop -ℤ p.start = widened l ∙ rw (plain s, plain e) at c.apart-long.ensures in
    c.div_int.ensures.exact
    ∙ ap₂ div_int_of (c.add.ensures.exact ∙ ap₂ add_of (c.times.ensures.exact ∙ ap (times_of (ends c.args.a)) before) (c.times-2.ensures.exact ∙ ap (times_of (ends c.args.b)) after)) (ap unsigned_abs long)
    ∙ at-weights p.start p.stop c.args.t (ends c.args.a) (ends c.args.b)
