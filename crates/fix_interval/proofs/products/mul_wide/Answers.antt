use Rattle.std.proofs.Common.{rules, ◌∙◌, refl}
use mir.Val.{SFits}
use mir.Syntax.{w128}
use Rattle.whole_numbers.proofs.Casts.{plain}
use Rattle.fix_interval.specs.Intervals.{ends}
use Rattle.fix_interval.specs.Products.{mul_wide_of}
use Rattle.fix_interval.proofs.EndInsides.{inside_self}
use Rattle.fix_interval.proofs.EndProducts.{mul_wide_encloses, mul_wide_isotone}
use Rattle.fix_interval.proofs.EndSums.{same_ends}
use Rattle.fix_interval.proofs.products.mul_wide.Goals as goal

pub invariant_of-result : goal.invariant_of-result
unfolding mul_wide_of
invariant_of-result c =
    let l : SFits w128 c.least_product.result = search rules in
    let h : SFits w128 c.greatest_product.result = search rules in
    record { ordered = rw (plain l ∙ c.least_product.ensures, plain h ∙ c.greatest_product.ensures) (mul_wide_isotone refl (ends c.args.a) (ends c.args.b) (inside_self (ends c.args.a) c.args.a.ordered) (inside_self (ends c.args.b) c.args.b.ordered)).ordered }

pub returns-clause-exact : goal.returns-clause-exact
unfolding mul_wide_of
returns-clause-exact c =
    let l : SFits w128 c.least_product.result = search rules in
    let h : SFits w128 c.greatest_product.result = search rules in
    same_ends (plain l ∙ c.least_product.ensures) (plain h ∙ c.greatest_product.ensures)

pub returns-clause-encloses : goal.returns-clause-encloses
returns-clause-encloses c = mul_wide_encloses (returns-clause-exact c)

pub returns-clause-isotone : goal.returns-clause-isotone
returns-clause-isotone c = mul_wide_isotone (returns-clause-exact c)
