use Rattle.std.proofs.Common.{arith, rules, ◌∙◌, ◌≡◌, ◌≤◌, ◌<◌, ℤ, pos, neg_ℤ, ◌*ℤ◌, ◌≤ℤ◌, ◌*◌, ◌^◌, unsigned_abs, to_z, of_z, sym, subst}
use mir.Val.{SFits}
use mir.Syntax.{w128}
use Rattle.std.proofs.lemmas.Int.{ints}
use Rattle.whole_numbers.specs.Rounding.{floor_of}
use Rattle.whole_numbers.proofs.Casts.{plain}
use Rattle.whole_numbers.proofs.Divisions.{floor_of-at_most-ceil_of}
use Rattle.fix_interval.proofs.LongDivision.{rest_of, finer_floor, finer_ceil, StepsFit, steps_fit}
use Rattle.fix_interval.proofs.decimals.twelve_more_places.Goals as goal

-- `steps_fit` by a positive integer
steps : (z d : ℤ) → pos 1 ≤ℤ d → d ≤ℤ pos (10 ^ 30) → unsigned_abs z ≤ 2 ^ 124 → neg_ℤ (pos (10 * 2 ^ 64) *ℤ d) ≤ℤ z → z ≤ℤ (pos (10 * 2 ^ 64) *ℤ d) → StepsFit z (unsigned_abs d)
steps z d p h zs l u =
    let e : d ≡ pos (unsigned_abs d) = omega (arith, ints) in
    steps_fit z (unsigned_abs d) (omega (arith, ints)) (omega (arith, ints)) zs (subst (λ (t : ℤ). neg_ℤ (pos (10 * 2 ^ 64) *ℤ t) ≤ℤ z) e l) (subst (λ (t : ℤ). z ≤ℤ (pos (10 * 2 ^ 64) *ℤ t)) e u)

pub overflow_mul-multiple : goal.overflow_mul-multiple
overflow_mul-multiple c =
    let n : SFits w128 c.args.num = search rules in
    let fits : SFits w128 c.args.den = search rules in
    let fq : SFits w128 c.floor_by-quotient.result = search rules in
    let natural : c.args.den ≡ pos (unsigned_abs c.args.den) = omega (arith, ints) in
    let d : to_z w128 (of_z w128 c.args.den) ≡ pos (unsigned_abs c.args.den) = plain fits ∙ natural in
    let q : to_z w128 (of_z w128 c.floor_by-quotient.result) ≡ floor_of c.args.num (unsigned_abs c.args.den) = plain fq ∙ (rw (plain n, plain fits) at c.floor_by-quotient.ensures) in
    let s = steps c.args.num c.args.den c.requires.positive c.requires.den_small c.requires.num_small c.requires.low c.requires.high in
    rw (q, d) s.multiple

pub overflow_sub-rest : goal.overflow_sub-rest
overflow_sub-rest c =
    let n : SFits w128 c.args.num = search rules in
    let fits : SFits w128 c.args.den = search rules in
    let fq : SFits w128 c.floor_by-quotient.result = search rules in
    let natural : c.args.den ≡ pos (unsigned_abs c.args.den) = omega (arith, ints) in
    let d : to_z w128 (of_z w128 c.args.den) ≡ pos (unsigned_abs c.args.den) = plain fits ∙ natural in
    let q : to_z w128 (of_z w128 c.floor_by-quotient.result) ≡ floor_of c.args.num (unsigned_abs c.args.den) = plain fq ∙ (rw (plain n, plain fits) at c.floor_by-quotient.ensures) in
    let s = steps c.args.num c.args.den c.requires.positive c.requires.den_small c.requires.num_small c.requires.low c.requires.high in
    rw (plain n, q, d, plain s.multiple) s.rest

pub overflow_mul-rest : goal.overflow_mul-rest
overflow_mul-rest c =
    let n : SFits w128 c.args.num = search rules in
    let fits : SFits w128 c.args.den = search rules in
    let fq : SFits w128 c.floor_by-quotient.result = search rules in
    let natural : c.args.den ≡ pos (unsigned_abs c.args.den) = omega (arith, ints) in
    let d : to_z w128 (of_z w128 c.args.den) ≡ pos (unsigned_abs c.args.den) = plain fits ∙ natural in
    let q : to_z w128 (of_z w128 c.floor_by-quotient.result) ≡ floor_of c.args.num (unsigned_abs c.args.den) = plain fq ∙ (rw (plain n, plain fits) at c.floor_by-quotient.ensures) in
    let s = steps c.args.num c.args.den c.requires.positive c.requires.den_small c.requires.num_small c.requires.low c.requires.high in
    rw (plain n, q, d, plain s.multiple, plain s.rest) s.scaled

pub overflow_mul-shifted : goal.overflow_mul-shifted
overflow_mul-shifted c =
    let n : SFits w128 c.args.num = search rules in
    let fits : SFits w128 c.args.den = search rules in
    let fq : SFits w128 c.floor_by-quotient.result = search rules in
    let natural : c.args.den ≡ pos (unsigned_abs c.args.den) = omega (arith, ints) in
    let d : to_z w128 (of_z w128 c.args.den) ≡ pos (unsigned_abs c.args.den) = plain fits ∙ natural in
    let q : to_z w128 (of_z w128 c.floor_by-quotient.result) ≡ floor_of c.args.num (unsigned_abs c.args.den) = plain fq ∙ (rw (plain n, plain fits) at c.floor_by-quotient.ensures) in
    let s = steps c.args.num c.args.den c.requires.positive c.requires.den_small c.requires.num_small c.requires.low c.requires.high in
    rw q s.shifted

pub overflow_add-result : goal.overflow_add-result
overflow_add-result c =
    let n : SFits w128 c.args.num = search rules in
    let fits : SFits w128 c.args.den = search rules in
    let fq : SFits w128 c.floor_by-quotient.result = search rules in
    let natural : c.args.den ≡ pos (unsigned_abs c.args.den) = omega (arith, ints) in
    let d : to_z w128 (of_z w128 c.args.den) ≡ pos (unsigned_abs c.args.den) = plain fits ∙ natural in
    let q : to_z w128 (of_z w128 c.floor_by-quotient.result) ≡ floor_of c.args.num (unsigned_abs c.args.den) = plain fq ∙ (rw (plain n, plain fits) at c.floor_by-quotient.ensures) in
    let s = steps c.args.num c.args.den c.requires.positive c.requires.den_small c.requires.num_small c.requires.low c.requires.high in
    let fl : SFits w128 c.outward-more.result.lo = search rules in
    let fh : SFits w128 c.outward-more.result.hi = search rules in
    let low = plain fl ∙ (rw (plain n, q, d, plain s.multiple, plain s.rest, plain s.scaled) at c.outward-more.ensures.lo) in
    let high = plain fh ∙ (rw (plain n, q, d, plain s.multiple, plain s.rest, plain s.scaled) at c.outward-more.ensures.hi) in
    rw (low, q, plain s.shifted) s.low

pub overflow_add-result-2 : goal.overflow_add-result-2
overflow_add-result-2 c =
    let n : SFits w128 c.args.num = search rules in
    let fits : SFits w128 c.args.den = search rules in
    let fq : SFits w128 c.floor_by-quotient.result = search rules in
    let natural : c.args.den ≡ pos (unsigned_abs c.args.den) = omega (arith, ints) in
    let d : to_z w128 (of_z w128 c.args.den) ≡ pos (unsigned_abs c.args.den) = plain fits ∙ natural in
    let q : to_z w128 (of_z w128 c.floor_by-quotient.result) ≡ floor_of c.args.num (unsigned_abs c.args.den) = plain fq ∙ (rw (plain n, plain fits) at c.floor_by-quotient.ensures) in
    let s = steps c.args.num c.args.den c.requires.positive c.requires.den_small c.requires.num_small c.requires.low c.requires.high in
    let fl : SFits w128 c.outward-more.result.lo = search rules in
    let fh : SFits w128 c.outward-more.result.hi = search rules in
    let low = plain fl ∙ (rw (plain n, q, d, plain s.multiple, plain s.rest, plain s.scaled) at c.outward-more.ensures.lo) in
    let high = plain fh ∙ (rw (plain n, q, d, plain s.multiple, plain s.rest, plain s.scaled) at c.outward-more.ensures.hi) in
    rw (high, q, plain s.shifted) s.high

pub invariant_of-result : goal.invariant_of-result
invariant_of-result c =
    let n : SFits w128 c.args.num = search rules in
    let fits : SFits w128 c.args.den = search rules in
    let fq : SFits w128 c.floor_by-quotient.result = search rules in
    let natural : c.args.den ≡ pos (unsigned_abs c.args.den) = omega (arith, ints) in
    let d : to_z w128 (of_z w128 c.args.den) ≡ pos (unsigned_abs c.args.den) = plain fits ∙ natural in
    let q : to_z w128 (of_z w128 c.floor_by-quotient.result) ≡ floor_of c.args.num (unsigned_abs c.args.den) = plain fq ∙ (rw (plain n, plain fits) at c.floor_by-quotient.ensures) in
    let s = steps c.args.num c.args.den c.requires.positive c.requires.den_small c.requires.num_small c.requires.low c.requires.high in
    let fl : SFits w128 c.outward-more.result.lo = search rules in
    let fh : SFits w128 c.outward-more.result.hi = search rules in
    let low = plain fl ∙ (rw (plain n, q, d, plain s.multiple, plain s.rest, plain s.scaled) at c.outward-more.ensures.lo) in
    let high = plain fh ∙ (rw (plain n, q, d, plain s.multiple, plain s.rest, plain s.scaled) at c.outward-more.ensures.hi) in
    let some : 0 < unsigned_abs c.args.den = omega (arith, ints) in
    let ordered = floor_of-at_most-ceil_of (rest_of c.args.num (unsigned_abs c.args.den) *ℤ pos 4096) (unsigned_abs c.args.den) some in
    rw (low, high, q, plain s.shifted, plain s.low, plain s.high) record { ordered = omega (arith, ints) }

pub returns-clause-lo : goal.returns-clause-lo
returns-clause-lo c =
    let n : SFits w128 c.args.num = search rules in
    let fits : SFits w128 c.args.den = search rules in
    let fq : SFits w128 c.floor_by-quotient.result = search rules in
    let natural : c.args.den ≡ pos (unsigned_abs c.args.den) = omega (arith, ints) in
    let d : to_z w128 (of_z w128 c.args.den) ≡ pos (unsigned_abs c.args.den) = plain fits ∙ natural in
    let q : to_z w128 (of_z w128 c.floor_by-quotient.result) ≡ floor_of c.args.num (unsigned_abs c.args.den) = plain fq ∙ (rw (plain n, plain fits) at c.floor_by-quotient.ensures) in
    let s = steps c.args.num c.args.den c.requires.positive c.requires.den_small c.requires.num_small c.requires.low c.requires.high in
    let fl : SFits w128 c.outward-more.result.lo = search rules in
    let fh : SFits w128 c.outward-more.result.hi = search rules in
    let low = plain fl ∙ (rw (plain n, q, d, plain s.multiple, plain s.rest, plain s.scaled) at c.outward-more.ensures.lo) in
    let high = plain fh ∙ (rw (plain n, q, d, plain s.multiple, plain s.rest, plain s.scaled) at c.outward-more.ensures.hi) in
    rw (low, q, plain s.shifted, plain s.low) (sym (finer_floor c.args.num (unsigned_abs c.args.den) 4096 (omega (arith, ints))))

pub returns-clause-hi : goal.returns-clause-hi
returns-clause-hi c =
    let n : SFits w128 c.args.num = search rules in
    let fits : SFits w128 c.args.den = search rules in
    let fq : SFits w128 c.floor_by-quotient.result = search rules in
    let natural : c.args.den ≡ pos (unsigned_abs c.args.den) = omega (arith, ints) in
    let d : to_z w128 (of_z w128 c.args.den) ≡ pos (unsigned_abs c.args.den) = plain fits ∙ natural in
    let q : to_z w128 (of_z w128 c.floor_by-quotient.result) ≡ floor_of c.args.num (unsigned_abs c.args.den) = plain fq ∙ (rw (plain n, plain fits) at c.floor_by-quotient.ensures) in
    let s = steps c.args.num c.args.den c.requires.positive c.requires.den_small c.requires.num_small c.requires.low c.requires.high in
    let fl : SFits w128 c.outward-more.result.lo = search rules in
    let fh : SFits w128 c.outward-more.result.hi = search rules in
    let low = plain fl ∙ (rw (plain n, q, d, plain s.multiple, plain s.rest, plain s.scaled) at c.outward-more.ensures.lo) in
    let high = plain fh ∙ (rw (plain n, q, d, plain s.multiple, plain s.rest, plain s.scaled) at c.outward-more.ensures.hi) in
    rw (high, q, plain s.shifted, plain s.high) (sym (finer_ceil c.args.num (unsigned_abs c.args.den) 4096 (omega (arith, ints))))
