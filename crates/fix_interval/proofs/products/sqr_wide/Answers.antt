use Rattle.std.proofs.Common.{arith, rules, ◌∙◌, ◌*ℤ◌}
use mir.Val.{SFits}
use mir.Syntax.{w128}
use Rattle.whole_numbers.proofs.Casts.{plain}
use Rattle.fix_interval.specs.Products.{sqr_wide_of}
use Rattle.fix_interval.specs.Intervals.{ends, mag_of}
use Rattle.fix_interval.proofs.SmallProducts.{product_fits, square_fits}
use Rattle.fix_interval.proofs.EndSums.{same_ends}
use Rattle.fix_interval.proofs.EndSquares.{sqr_wide_encloses, sqr_wide_isotone, sqr_wide_ordered}
use Rattle.fix_interval.proofs.products.sqr_wide.Goals as goal

pub overflow_mul-low : goal.overflow_mul-low
overflow_mul-low c = product_fits c.args.a.lo c.args.a.lo (mag_of c.args.a) (mag_of c.args.a) (search rules) (search rules) (omega arith) (omega arith) c.requires

pub overflow_mul-high : goal.overflow_mul-high
overflow_mul-high c = product_fits c.args.a.hi c.args.a.hi (mag_of c.args.a) (mag_of c.args.a) (search rules) (search rules) (omega arith) (omega arith) c.requires

pub invariant_of-result : goal.invariant_of-result
unfolding sqr_wide_of
invariant_of-result c =
    let al : SFits w128 c.args.a.lo = search rules in
    let ah : SFits w128 c.args.a.hi = search rules in
    let fl : SFits w128 (c.args.a.lo *ℤ c.args.a.lo) = square_fits c.args.a.lo (mag_of c.args.a) (omega arith) c.requires in
    let fh : SFits w128 (c.args.a.hi *ℤ c.args.a.hi) = square_fits c.args.a.hi (mag_of c.args.a) (omega arith) c.requires in
    let rl : SFits w128 c.least_square.result = search rules in
    let rm : SFits w128 c.max.result = search rules in
    let low = rw (plain al, plain ah, plain fl, plain fh) at c.least_square.ensures in
    let high = rw (plain al, plain ah, plain fl, plain fh) at c.max.ensures.value in
    record { ordered = rw (plain rl ∙ low, plain rm ∙ high) (sqr_wide_ordered (ends c.args.a) c.args.a.ordered) }

pub returns-clause-exact : goal.returns-clause-exact
unfolding sqr_wide_of
returns-clause-exact c =
    let al : SFits w128 c.args.a.lo = search rules in
    let ah : SFits w128 c.args.a.hi = search rules in
    let fl : SFits w128 (c.args.a.lo *ℤ c.args.a.lo) = square_fits c.args.a.lo (mag_of c.args.a) (omega arith) c.requires in
    let fh : SFits w128 (c.args.a.hi *ℤ c.args.a.hi) = square_fits c.args.a.hi (mag_of c.args.a) (omega arith) c.requires in
    let rl : SFits w128 c.least_square.result = search rules in
    let rm : SFits w128 c.max.result = search rules in
    let low = rw (plain al, plain ah, plain fl, plain fh) at c.least_square.ensures in
    let high = rw (plain al, plain ah, plain fl, plain fh) at c.max.ensures.value in
    same_ends (plain rl ∙ low) (plain rm ∙ high)

pub returns-clause-encloses : goal.returns-clause-encloses
returns-clause-encloses c = sqr_wide_encloses (returns-clause-exact c)

pub returns-clause-isotone : goal.returns-clause-isotone
returns-clause-isotone c = sqr_wide_isotone (returns-clause-exact c)
