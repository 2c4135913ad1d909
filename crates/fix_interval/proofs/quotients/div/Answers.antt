use Rattle.std.proofs.Common.{arith, rules, ◌∙◌, pos, ◌*ℤ◌, ◌^◌}
use mir.Val.{SFits}
use mir.Syntax.{w128}
use Rattle.std.proofs.lemmas.Int.{ints, fits_signed_mul}
use Rattle.whole_numbers.proofs.Casts.{plain}
use Rattle.fix_interval.specs.Quotients.{div_of}
use Rattle.fix_interval.specs.Intervals.{ends}
use Rattle.fix_interval.proofs.EndSums.{same_ends}
use Rattle.fix_interval.proofs.EndQuotients.{div_encloses, div_isotone, div_ordered}
use Rattle.fix_interval.proofs.quotients.div.Goals as goal

pub invariant_of-result : goal.invariant_of-result
unfolding div_of
invariant_of-result c =
    let al : SFits w128 c.args.a.lo = search rules in
    let ah : SFits w128 c.args.a.hi = search rules in
    let bl : SFits w128 c.args.b.lo = search rules in
    let bh : SFits w128 c.args.b.hi = search rules in
    let fl : SFits w128 (c.args.a.lo *ℤ pos (2 ^ 38)) = fits_signed_mul w128 c.args.a.lo (pos (2 ^ 38)) (2 ^ 88) (2 ^ 38) (omega (arith, ints)) (omega (arith, ints)) (omega arith) in
    let fh : SFits w128 (c.args.a.hi *ℤ pos (2 ^ 38)) = fits_signed_mul w128 c.args.a.hi (pos (2 ^ 38)) (2 ^ 88) (2 ^ 38) (omega (arith, ints)) (omega (arith, ints)) (omega arith) in
    let rl : SFits w128 c.least_quotient.result = search rules in
    let rh : SFits w128 c.greatest_quotient.result = search rules in
    let low = rw (plain al, plain bl, plain bh, plain fl) at c.least_quotient.ensures in
    let high = rw (plain ah, plain bl, plain bh, plain fh) at c.greatest_quotient.ensures in
    record { ordered = rw (plain rl ∙ low, plain rh ∙ high) (div_ordered (ends c.args.a) (ends c.args.b) c.requires.positive c.args.a.ordered) }

pub returns-clause-exact : goal.returns-clause-exact
unfolding div_of
returns-clause-exact c =
    let al : SFits w128 c.args.a.lo = search rules in
    let ah : SFits w128 c.args.a.hi = search rules in
    let bl : SFits w128 c.args.b.lo = search rules in
    let bh : SFits w128 c.args.b.hi = search rules in
    let fl : SFits w128 (c.args.a.lo *ℤ pos (2 ^ 38)) = fits_signed_mul w128 c.args.a.lo (pos (2 ^ 38)) (2 ^ 88) (2 ^ 38) (omega (arith, ints)) (omega (arith, ints)) (omega arith) in
    let fh : SFits w128 (c.args.a.hi *ℤ pos (2 ^ 38)) = fits_signed_mul w128 c.args.a.hi (pos (2 ^ 38)) (2 ^ 88) (2 ^ 38) (omega (arith, ints)) (omega (arith, ints)) (omega arith) in
    let rl : SFits w128 c.least_quotient.result = search rules in
    let rh : SFits w128 c.greatest_quotient.result = search rules in
    let low = rw (plain al, plain bl, plain bh, plain fl) at c.least_quotient.ensures in
    let high = rw (plain ah, plain bl, plain bh, plain fh) at c.greatest_quotient.ensures in
    same_ends (plain rl ∙ low) (plain rh ∙ high)

pub returns-clause-encloses : goal.returns-clause-encloses
returns-clause-encloses c = div_encloses (returns-clause-exact c) c.requires.positive c.args.b.ordered

pub returns-clause-isotone : goal.returns-clause-isotone
returns-clause-isotone c = div_isotone (returns-clause-exact c)
