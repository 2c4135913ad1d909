use Rattle.std.proofs.Common.{arith, rules, ap₂, sym, ◌∙◌}
use mir.Val.{SFits}
use mir.Syntax.{w128}
use Rattle.std.proofs.lemmas.Int.{ints}
use Rattle.std.specs.Int.RustNames.{unsigned_abs}
use Rattle.whole_numbers.specs.Rounding.{floor_of}
use Rattle.whole_numbers.proofs.Casts.{plain}
use Rattle.fix_interval.proofs.EndQuotients.{floor-negative, floor-not_negative}
use Rattle.fix_interval.proofs.quotients.least_quotient.Goals as goal

pub returns-then-z-lt0 : goal.returns-then-z-lt0
returns-then-z-lt0 c =
    let z : SFits w128 c.args.z = search rules in
    let k : SFits w128 c.args.low = search rules in
    let r : SFits w128 c.floor_by.result = search rules in
    plain r ∙ c.floor_by.ensures ∙ ap₂ (λ z k. floor_of z (unsigned_abs k)) (plain z) (plain k)
    ∙ sym (floor-negative c.args.z (unsigned_abs c.args.low) (unsigned_abs c.args.high) (omega (arith, ints)) (omega (arith, ints)) (omega (arith, ints)))

pub returns-else-z-lt0 : goal.returns-else-z-lt0
returns-else-z-lt0 c =
    let z : SFits w128 c.args.z = search rules in
    let k : SFits w128 c.args.high = search rules in
    let r : SFits w128 c.floor_by-else-z-lt0.result = search rules in
    plain r ∙ c.floor_by-else-z-lt0.ensures ∙ ap₂ (λ z k. floor_of z (unsigned_abs k)) (plain z) (plain k)
    ∙ sym (floor-not_negative c.args.z (unsigned_abs c.args.low) (unsigned_abs c.args.high) (omega (arith, ints)) (omega (arith, ints)) (omega (arith, ints)))
