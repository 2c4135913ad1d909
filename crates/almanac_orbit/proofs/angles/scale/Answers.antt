use Rattle.std.proofs.Common.{arith, rules, ap, ap₂, sym, ◌∙◌, ◌*ℤ◌, ℤ}
use mir.Val.{SFits}
use mir.Syntax.{w128}
use Rattle.std.proofs.lemmas.Int.{ints}
use Rattle.std.specs.Int.RustNames.{unsigned_abs}
use Rattle.whole_numbers.specs.Rounding.{floor_of, ceil_of}
use Rattle.whole_numbers.proofs.Casts.{plain}
use Rattle.fix_interval.specs.Intervals.{ends, mag_of}
use Rattle.fix_interval.proofs.EndSums.{same_ends}
use Rattle.fix_interval.proofs.SmallProducts.{product_fits, small_product}
use Rattle.fix_interval.specs.Quotients.{scale_of}
use Rattle.orbit_laws.proofs.Motions.{plain_abs}
use Rattle.almanac_orbit.proofs.Rounded.{scale_ordered}
use Rattle.almanac_orbit.proofs.angles.scale.Goals as goal

pub overflow_mul-a : goal.overflow_mul-a
overflow_mul-a c = product_fits c.args.a.lo c.args.num (mag_of c.args.a) (unsigned_abs c.args.num) (search rules) (search rules) (omega arith) (omega arith) c.requires.small

pub overflow_mul-a-2 : goal.overflow_mul-a-2
overflow_mul-a-2 c = product_fits c.args.a.hi c.args.num (mag_of c.args.a) (unsigned_abs c.args.num) (search rules) (search rules) (omega arith) (omega arith) c.requires.small

pub invariant_of-result : goal.invariant_of-result
unfolding scale_of
invariant_of-result c =
    let al : SFits w128 c.args.a.lo = search rules in
    let ah : SFits w128 c.args.a.hi = search rules in
    let n : SFits w128 c.args.num = search rules in
    let d : SFits w128 c.args.den = search rules in
    let rl : SFits w128 c.floor_by.result = search rules in
    let rh : SFits w128 c.ceil_by.result = search rules in
    let np = plain_abs c.args.num (omega (arith, ints)) in
    let l = small_product c.args.a.lo c.args.num (mag_of c.args.a) (unsigned_abs c.args.num) al n (omega arith) (omega arith) c.requires.small in
    let h = small_product c.args.a.hi c.args.num (mag_of c.args.a) (unsigned_abs c.args.num) ah n (omega arith) (omega arith) c.requires.small in
    let low = plain rl ∙ c.floor_by.ensures ∙ ap₂ (λ z k. floor_of z (unsigned_abs k)) l (plain d) ∙ ap (λ (p : ℤ). floor_of (c.args.a.lo *ℤ p) (unsigned_abs c.args.den)) (sym np) in
    let high = plain rh ∙ c.ceil_by.ensures ∙ ap₂ (λ z k. ceil_of z (unsigned_abs k)) h (plain d) ∙ ap (λ (p : ℤ). ceil_of (c.args.a.hi *ℤ p) (unsigned_abs c.args.den)) (sym np) in
    record { ordered = rw (low, high) (scale_ordered (ends c.args.a) (unsigned_abs c.args.num) (unsigned_abs c.args.den) (omega (arith, ints)) c.args.a.ordered) }

pub returns : goal.returns
unfolding scale_of
returns c =
    let al : SFits w128 c.args.a.lo = search rules in
    let ah : SFits w128 c.args.a.hi = search rules in
    let n : SFits w128 c.args.num = search rules in
    let d : SFits w128 c.args.den = search rules in
    let rl : SFits w128 c.floor_by.result = search rules in
    let rh : SFits w128 c.ceil_by.result = search rules in
    let np = plain_abs c.args.num (omega (arith, ints)) in
    let l = small_product c.args.a.lo c.args.num (mag_of c.args.a) (unsigned_abs c.args.num) al n (omega arith) (omega arith) c.requires.small in
    let h = small_product c.args.a.hi c.args.num (mag_of c.args.a) (unsigned_abs c.args.num) ah n (omega arith) (omega arith) c.requires.small in
    same_ends
    (plain rl ∙ c.floor_by.ensures ∙ ap₂ (λ z k. floor_of z (unsigned_abs k)) l (plain d) ∙ ap (λ (p : ℤ). floor_of (c.args.a.lo *ℤ p) (unsigned_abs c.args.den)) (sym np))
    (plain rh ∙ c.ceil_by.ensures ∙ ap₂ (λ z k. ceil_of z (unsigned_abs k)) h (plain d) ∙ ap (λ (p : ℤ). ceil_of (c.args.a.hi *ℤ p) (unsigned_abs c.args.den)) (sym np))
