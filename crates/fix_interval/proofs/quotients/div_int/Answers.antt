use Rattle.std.proofs.Common.{ap₂, ◌∙◌, rules, arith}
use mir.Val.{SFits}
use mir.Syntax.{w128}
use Rattle.std.proofs.lemmas.Int.{ints}
use Rattle.std.specs.Int.RustNames.{unsigned_abs}
use Rattle.fix_interval.specs.Quotients.{div_int_of}
use Rattle.whole_numbers.specs.Rounding.{floor_of, ceil_of}
use Rattle.whole_numbers.proofs.Casts.{plain}
use Rattle.fix_interval.proofs.EndSums.{same_ends}
use Rattle.fix_interval.proofs.EndProducts.{rounded_ordered}
use Rattle.fix_interval.proofs.EndQuotients.{div_int_encloses, div_int_isotone}
use Rattle.fix_interval.proofs.quotients.div_int.Goals as goal

pub returns-clause-exact : goal.returns-clause-exact
unfolding div_int_of
returns-clause-exact c =
    let lo : SFits w128 c.args.a.lo = search rules in
    let hi : SFits w128 c.args.a.hi = search rules in
    let k : SFits w128 c.args.k = search rules in
    let down : SFits w128 c.floor_by.result = search rules in
    let up : SFits w128 c.ceil_by.result = search rules in
    same_ends (plain down ∙ c.floor_by.ensures ∙ ap₂ (λ z k. floor_of z (unsigned_abs k)) (plain lo) (plain k)) (plain up ∙ c.ceil_by.ensures ∙ ap₂ (λ z k. ceil_of z (unsigned_abs k)) (plain hi) (plain k))

pub returns-clause-encloses : goal.returns-clause-encloses
returns-clause-encloses c = div_int_encloses (unsigned_abs c.args.k) (returns-clause-exact c) (omega (arith, ints))

pub returns-clause-isotone : goal.returns-clause-isotone
returns-clause-isotone c = div_int_isotone (unsigned_abs c.args.k) (returns-clause-exact c) (omega (arith, ints))

pub invariant_of-result : goal.invariant_of-result
invariant_of-result c =
    let lo : SFits w128 c.args.a.lo = search rules in
    let hi : SFits w128 c.args.a.hi = search rules in
    let k : SFits w128 c.args.k = search rules in
    let down : SFits w128 c.floor_by.result = search rules in
    let up : SFits w128 c.ceil_by.result = search rules in
    record { ordered = rw (plain down ∙ c.floor_by.ensures ∙ ap₂ (λ z k. floor_of z (unsigned_abs k)) (plain lo) (plain k), plain up ∙ c.ceil_by.ensures ∙ ap₂ (λ z k. ceil_of z (unsigned_abs k)) (plain hi) (plain k)) (rounded_ordered c.args.a.lo c.args.a.hi (unsigned_abs c.args.k) (omega (arith, ints)) c.args.a.ordered) }
