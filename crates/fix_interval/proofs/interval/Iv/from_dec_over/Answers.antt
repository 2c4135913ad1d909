use Rattle.std.proofs.Common.{arith, rules, ◌∙◌, ◌≡◌, ◌<◌, pos, ◌*ℤ◌, ◌^◌, to_z, of_z, mul-pos}
use mir.Val.{SFits}
use mir.Syntax.{w128}
use Rattle.std.proofs.lemmas.Int.{ints, fits_signed_mul, to_z_pos}
use Rattle.whole_numbers.proofs.Casts.{plain}
use Rattle.raim_model.specs.Decimal.{signed}
use Rattle.fix_interval.specs.Quotients.{outward_of}
use Rattle.fix_interval.specs.Decimals.{from_dec_over_of}
use Rattle.fix_interval.proofs.EndSums.{same_ends}
use Rattle.fix_interval.proofs.EndDecimals.{signed_abs, from_dec_over_encloses}
use Rattle.fix_interval.proofs.Powers.{ten_positive, ten_small}
use Rattle.fix_interval.proofs.interval.Iv.from_dec_over.Goals as goal

pub overflow_mul-ten_to : goal.overflow_mul-ten_to
overflow_mul-ten_to c =
    let raw : SFits w128 c.ten_to.result = search rules in
    let ten : to_z w128 (of_z w128 c.ten_to.result) ≡ pos (10 ^ c.args.d.now.places) = plain raw ∙ c.ten_to.ensures in
    let small : c.args.k < 2 ^ 127 = omega (arith, c.requires.small) in
    let by : to_z w128 c.args.k ≡ pos c.args.k = to_z_pos w128 c.args.k small in
    let den : SFits w128 (pos (10 ^ c.args.d.now.places) *ℤ pos c.args.k) = fits_signed_mul w128 (pos (10 ^ c.args.d.now.places)) (pos c.args.k) (10 ^ 30) 1000000 (ten_small c.args.d.now.places c.requires.canonical.few_places) c.requires.small (omega arith) in
    rw (ten, by) den

pub outward-requires : goal.outward-requires
outward-requires c =
    let raw : SFits w128 c.ten_to.result = search rules in
    let ten : to_z w128 (of_z w128 c.ten_to.result) ≡ pos (10 ^ c.args.d.now.places) = plain raw ∙ c.ten_to.ensures in
    let small : c.args.k < 2 ^ 127 = omega (arith, c.requires.small) in
    let by : to_z w128 c.args.k ≡ pos c.args.k = to_z_pos w128 c.args.k small in
    let den : SFits w128 (pos (10 ^ c.args.d.now.places) *ℤ pos c.args.k) = fits_signed_mul w128 (pos (10 ^ c.args.d.now.places)) (pos c.args.k) (10 ^ 30) 1000000 (ten_small c.args.d.now.places c.requires.canonical.few_places) c.requires.small (omega arith) in
    rw (ten, by, plain den) (omega (arith, ints, mul-pos (ten_positive c.args.d.now.places) c.requires.positive))

pub returns-clause-exact : goal.returns-clause-exact
unfolding from_dec_over_of outward_of
returns-clause-exact c =
    let raw : SFits w128 c.ten_to.result = search rules in
    let ten : to_z w128 (of_z w128 c.ten_to.result) ≡ pos (10 ^ c.args.d.now.places) = plain raw ∙ c.ten_to.ensures in
    let small : c.args.k < 2 ^ 127 = omega (arith, c.requires.small) in
    let by : to_z w128 c.args.k ≡ pos c.args.k = to_z_pos w128 c.args.k small in
    let den : SFits w128 (pos (10 ^ c.args.d.now.places) *ℤ pos c.args.k) = fits_signed_mul w128 (pos (10 ^ c.args.d.now.places)) (pos c.args.k) (10 ^ 30) 1000000 (ten_small c.args.d.now.places c.requires.canonical.few_places) c.requires.small (omega arith) in
    let raw_digits : SFits w128 c.signed_digits.result = search rules in
    let digits : to_z w128 (of_z w128 c.signed_digits.result) ≡ signed c.args.d.now.neg c.args.d.now.digits = plain raw_digits ∙ c.signed_digits.ensures in
    let num : SFits w128 (signed c.args.d.now.neg c.args.d.now.digits *ℤ pos (2 ^ 38)) = fits_signed_mul w128 (signed c.args.d.now.neg c.args.d.now.digits) (pos (2 ^ 38)) (10 ^ 18) (2 ^ 38) (omega (arith, c.requires.canonical.few_digits, signed_abs c.args.d.now.neg c.args.d.now.digits)) (omega (arith, ints)) (omega arith) in
    same_ends (rw (ten, by, plain den, digits, plain num) at c.outward.ensures.lo) (rw (ten, by, plain den, digits, plain num) at c.outward.ensures.hi)

pub returns-clause-encloses : goal.returns-clause-encloses
returns-clause-encloses c = from_dec_over_encloses c.args.d.now c.args.k (returns-clause-exact c) c.requires.positive
