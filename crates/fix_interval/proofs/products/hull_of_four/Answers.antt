use Rattle.std.proofs.Common.{rules, ap₂, ◌∙◌}
use mir.Val.{SFits}
use mir.Syntax.{w128}
use Rattle.std.specs.Int.{int_min, int_max}
use Rattle.whole_numbers.proofs.Casts.{plain}
use Rattle.fix_interval.proofs.SmallProducts.{spans}
use Rattle.fix_interval.proofs.products.hull_of_four.Goals as goal

pub invariant_of-result : goal.invariant_of-result
invariant_of-result c =
    let m : SFits w128 c.min.result = search rules in
    let m3 : SFits w128 c.min-3.result = search rules in
    let n : SFits w128 c.max.result = search rules in
    let n3 : SFits w128 c.max-3.result = search rules in
    rw (plain m3, plain n3) record { ordered = spans c.min-3.ensures.self_bound (plain m) c.min.ensures.self_bound c.max.ensures.self_bound (plain n) c.max-3.ensures.self_bound }

pub returns-clause-lo : goal.returns-clause-lo
returns-clause-lo c =
    let p : SFits w128 c.args.p = search rules in
    let q : SFits w128 c.args.q = search rules in
    let r : SFits w128 c.args.r = search rules in
    let t : SFits w128 c.args.t = search rules in
    let m1 : SFits w128 c.min.result = search rules in
    let m2 : SFits w128 c.min-2.result = search rules in
    let m3 : SFits w128 c.min-3.result = search rules in
    plain m3 ∙ c.min-3.ensures.value ∙ ap₂ int_min (plain m1 ∙ c.min.ensures.value ∙ ap₂ int_min (plain p) (plain q)) (plain m2 ∙ c.min-2.ensures.value ∙ ap₂ int_min (plain r) (plain t))

pub returns-clause-hi : goal.returns-clause-hi
returns-clause-hi c =
    let p : SFits w128 c.args.p = search rules in
    let q : SFits w128 c.args.q = search rules in
    let r : SFits w128 c.args.r = search rules in
    let t : SFits w128 c.args.t = search rules in
    let n1 : SFits w128 c.max.result = search rules in
    let n2 : SFits w128 c.max-2.result = search rules in
    let n3 : SFits w128 c.max-3.result = search rules in
    plain n3 ∙ c.max-3.ensures.value ∙ ap₂ int_max (plain n1 ∙ c.max.ensures.value ∙ ap₂ int_max (plain p) (plain q)) (plain n2 ∙ c.max-2.ensures.value ∙ ap₂ int_max (plain r) (plain t))
