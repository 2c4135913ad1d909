use Rattle.std.proofs.Common.{ap, ◌∙◌, ◌^◌, rules}
use mir.Val.{SFits}
use mir.Syntax.{w128}
use Rattle.whole_numbers.specs.Rounding.{floor_of, ceil_of}
use Rattle.whole_numbers.proofs.Casts.{plain}
use Rattle.fix_interval.specs.Products.{narrow76_of}
use Rattle.fix_interval.proofs.EndSums.{same_ends}
use Rattle.fix_interval.proofs.EndProducts.{narrow76_encloses, narrow76_isotone}
use Rattle.fix_interval.proofs.products.narrow76.Goals as goal

pub returns-clause-exact : goal.returns-clause-exact
unfolding narrow76_of
returns-clause-exact c =
    let lo : SFits w128 c.args.a.lo = search rules in
    let hi : SFits w128 c.args.a.hi = search rules in
    let down : SFits w128 c.floor_shift.result = search rules in
    let up : SFits w128 c.ceil_shift.result = search rules in
    same_ends (plain down ∙ c.floor_shift.ensures ∙ ap (λ z. floor_of z (2 ^ 38)) (plain lo)) (plain up ∙ c.ceil_shift.ensures ∙ ap (λ z. ceil_of z (2 ^ 38)) (plain hi))

pub returns-clause-encloses : goal.returns-clause-encloses
returns-clause-encloses c = narrow76_encloses (returns-clause-exact c)

pub returns-clause-isotone : goal.returns-clause-isotone
returns-clause-isotone c = narrow76_isotone (returns-clause-exact c)
