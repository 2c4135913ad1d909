use Rattle.std.proofs.Common.{arith, rules, ◌∙◌, unsigned_abs}
use mir.Val.{SFits}
use mir.Syntax.{w128}
use Rattle.std.proofs.lemmas.Int.{ints}
use Rattle.whole_numbers.proofs.Casts.{plain}
use Rattle.whole_numbers.proofs.Divisions.{floor_of-at_most-ceil_of}
use Rattle.fix_interval.proofs.quotients.outward.Goals as goal

pub invariant_of-result : goal.invariant_of-result
invariant_of-result c =
    let num : SFits w128 c.args.num = search rules in
    let den : SFits w128 c.args.den = search rules in
    let rl : SFits w128 c.floor_by.result = search rules in
    let rh : SFits w128 c.ceil_by.result = search rules in
    let low = rw (plain num, plain den) at c.floor_by.ensures in
    let high = rw (plain num, plain den) at c.ceil_by.ensures in
    record { ordered = rw (plain rl ∙ low, plain rh ∙ high) (floor_of-at_most-ceil_of c.args.num (unsigned_abs c.args.den) (omega (arith, ints))) }
