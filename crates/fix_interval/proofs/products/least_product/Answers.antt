use Rattle.std.proofs.Common.{arith, rules, ap₂, ◌∙◌}
use mir.Val.{SFits}
use mir.Syntax.{w128}
use Rattle.std.proofs.lemmas.Int.{ints}
use Rattle.std.specs.Int.{int_min}
use Rattle.whole_numbers.proofs.Casts.{plain}
use Rattle.fix_interval.specs.Intervals.{mag_of}
use Rattle.fix_interval.proofs.SmallProducts.{product_fits, small_product}
use Rattle.fix_interval.proofs.EndCorners.{least-not_negative, least-not_negative_below, least-not_positive, least-not_positive_below, least-mixed}
use Rattle.fix_interval.proofs.products.least_product.Goals as goal

pub overflow_mul-result-else-b-ge0 : goal.overflow_mul-result-else-b-ge0
overflow_mul-result-else-b-ge0 c = product_fits c.args.a.hi c.args.b.lo (mag_of c.args.a) (mag_of c.args.b) (search rules) (search rules) (omega arith) (omega arith) c.requires

pub overflow_mul-result-then-b-ge0-2 : goal.overflow_mul-result-then-b-ge0-2
overflow_mul-result-then-b-ge0-2 c = product_fits c.args.a.lo c.args.b.hi (mag_of c.args.a) (mag_of c.args.b) (search rules) (search rules) (omega arith) (omega arith) c.requires

pub overflow_mul-result-else-b-ge0-2 : goal.overflow_mul-result-else-b-ge0-2
overflow_mul-result-else-b-ge0-2 c = product_fits c.args.a.hi c.args.b.hi (mag_of c.args.a) (mag_of c.args.b) (search rules) (search rules) (omega arith) (omega arith) c.requires

pub overflow_mul-a : goal.overflow_mul-a
overflow_mul-a c = product_fits c.args.a.lo c.args.b.hi (mag_of c.args.a) (mag_of c.args.b) (search rules) (search rules) (omega arith) (omega arith) c.requires

pub overflow_mul-a-else-a-le0 : goal.overflow_mul-a-else-a-le0
overflow_mul-a-else-a-le0 c = product_fits c.args.a.hi c.args.b.lo (mag_of c.args.a) (mag_of c.args.b) (search rules) (search rules) (omega arith) (omega arith) c.requires

pub returns-then-b-ge0 : goal.returns-then-b-ge0
returns-then-b-ge0 c = small_product c.args.a.lo c.args.b.lo (mag_of c.args.a) (mag_of c.args.b) (search rules) (search rules) (omega arith) (omega arith) c.requires ∙ least-not_negative c.args.a.lo c.args.a.hi c.args.b.lo c.args.b.hi (omega (arith, ints)) c.args.a.ordered (omega (arith, ints)) c.args.b.ordered

pub returns-else-b-ge0 : goal.returns-else-b-ge0
returns-else-b-ge0 c = small_product c.args.a.hi c.args.b.lo (mag_of c.args.a) (mag_of c.args.b) (search rules) (search rules) (omega arith) (omega arith) c.requires ∙ least-not_negative_below c.args.a.lo c.args.a.hi c.args.b.lo c.args.b.hi (omega (arith, ints)) c.args.a.ordered (omega (arith, ints)) c.args.b.ordered

pub returns-then-b-ge0-2 : goal.returns-then-b-ge0-2
returns-then-b-ge0-2 c = small_product c.args.a.lo c.args.b.hi (mag_of c.args.a) (mag_of c.args.b) (search rules) (search rules) (omega arith) (omega arith) c.requires ∙ least-not_positive c.args.a.lo c.args.a.hi c.args.b.lo c.args.b.hi (omega (arith, ints)) c.args.a.ordered (omega (arith, ints)) c.args.b.ordered

pub returns-else-b-ge0-2 : goal.returns-else-b-ge0-2
returns-else-b-ge0-2 c = small_product c.args.a.hi c.args.b.hi (mag_of c.args.a) (mag_of c.args.b) (search rules) (search rules) (omega arith) (omega arith) c.requires ∙ least-not_positive_below c.args.a.lo c.args.a.hi c.args.b.lo c.args.b.hi (omega (arith, ints)) c.args.a.ordered (omega (arith, ints)) c.args.b.ordered

pub returns-else-a-le0 : goal.returns-else-a-le0
returns-else-a-le0 c =
    let m : SFits w128 c.min.result = search rules in
    plain m ∙ c.min.ensures.value ∙ ap₂ int_min (small_product c.args.a.lo c.args.b.hi (mag_of c.args.a) (mag_of c.args.b) (search rules) (search rules) (omega arith) (omega arith) c.requires) (small_product c.args.a.hi c.args.b.lo (mag_of c.args.a) (mag_of c.args.b) (search rules) (search rules) (omega arith) (omega arith) c.requires) ∙ least-mixed c.args.a.lo c.args.a.hi c.args.b.lo c.args.b.hi (omega (arith, ints)) (omega (arith, ints)) c.args.b.ordered
