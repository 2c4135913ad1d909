use Rattle.std.proofs.Common.{arith, rules, ap, ◌∙◌, ◌≡◌, ℤ, pos, ◌*ℤ◌, ◌*◌, ◌^◌, to_z, of_z}
use mir.Val.{SFits}
use mir.Syntax.{w128}
use Rattle.std.proofs.lemmas.Int.{ints, fits_signed_mul, unsigned_abs-mul}
use Rattle.whole_numbers.specs.Rounding.{floor_of, ceil_of}
use Rattle.whole_numbers.proofs.Casts.{plain}
use Rattle.whole_numbers.proofs.Integers.{*ℤ_assoc}
use Rattle.raim_model.specs.Decimal.{signed}
use Rattle.fix_interval.specs.Ends.{Ends}
use Rattle.fix_interval.specs.Quotients.{outward_of}
use Rattle.fix_interval.specs.Decimals.{dec76_of}
use Rattle.fix_interval.proofs.EndSums.{same_ends}
use Rattle.fix_interval.proofs.EndDecimals.{signed_abs, dec76_encloses}
use Rattle.fix_interval.proofs.LongDivision.{numerator_within, numerator_finer, floor_within}
use Rattle.fix_interval.proofs.Powers.{ten_positive, ten_small}
use Rattle.fix_interval.proofs.decimals.dec76.Goals as goal

pub twelve_more_places-requires : goal.twelve_more_places-requires
twelve_more_places-requires c =
    let raw : SFits w128 c.ten_to.result = search rules in
    let ten : to_z w128 (of_z w128 c.ten_to.result) ≡ pos (10 ^ c.args.d.now.places) = plain raw ∙ c.ten_to.ensures in
    let raw_digits : SFits w128 c.signed_digits.result = search rules in
    let digits : to_z w128 (of_z w128 c.signed_digits.result) ≡ signed c.args.d.now.neg c.args.d.now.digits = plain raw_digits ∙ c.signed_digits.ensures in
    let num : SFits w128 (signed c.args.d.now.neg c.args.d.now.digits *ℤ pos (2 ^ 64)) = fits_signed_mul w128 (signed c.args.d.now.neg c.args.d.now.digits) (pos (2 ^ 64)) (10 ^ 18) (2 ^ 64) (omega (arith, c.requires.canonical.few_digits, signed_abs c.args.d.now.neg c.args.d.now.digits)) (omega (arith, ints)) (omega arith) in
    let within = numerator_within (signed c.args.d.now.neg c.args.d.now.digits) (10 ^ c.args.d.now.places) 10 (ten_positive c.args.d.now.places) c.requires.small in
    let finer = numerator_finer (signed c.args.d.now.neg c.args.d.now.digits) (10 ^ c.args.d.now.places) 10 (2 ^ 64) within.0 within.1 in
    rw (ten, digits, plain num) record {
      positive = omega (arith, ints, ten_positive c.args.d.now.places);
      den_small = omega (arith, ints, ten_small c.args.d.now.places c.requires.canonical.few_places);
      num_small = omega (arith, unsigned_abs-mul (signed c.args.d.now.neg c.args.d.now.digits) (pos (2 ^ 64)), c.requires.canonical.few_digits, signed_abs c.args.d.now.neg c.args.d.now.digits);
      low = finer.0;
      high = finer.1;
    }

pub returns-clause-exact : goal.returns-clause-exact
unfolding dec76_of outward_of
returns-clause-exact c =
    let raw : SFits w128 c.ten_to.result = search rules in
    let ten : to_z w128 (of_z w128 c.ten_to.result) ≡ pos (10 ^ c.args.d.now.places) = plain raw ∙ c.ten_to.ensures in
    let raw_digits : SFits w128 c.signed_digits.result = search rules in
    let digits : to_z w128 (of_z w128 c.signed_digits.result) ≡ signed c.args.d.now.neg c.args.d.now.digits = plain raw_digits ∙ c.signed_digits.ensures in
    let num : SFits w128 (signed c.args.d.now.neg c.args.d.now.digits *ℤ pos (2 ^ 64)) = fits_signed_mul w128 (signed c.args.d.now.neg c.args.d.now.digits) (pos (2 ^ 64)) (10 ^ 18) (2 ^ 64) (omega (arith, c.requires.canonical.few_digits, signed_abs c.args.d.now.neg c.args.d.now.digits)) (omega (arith, ints)) (omega arith) in
    let scale = *ℤ_assoc (signed c.args.d.now.neg c.args.d.now.digits) (pos (2 ^ 64)) (pos 4096) in
    same_ends
    ((rw (ten, digits, plain num) at c.twelve_more_places.ensures.lo) ∙ ap (λ (t : ℤ). floor_of t (10 ^ c.args.d.now.places)) scale)
    ((rw (ten, digits, plain num) at c.twelve_more_places.ensures.hi) ∙ ap (λ (t : ℤ). ceil_of t (10 ^ c.args.d.now.places)) scale)

pub returns-clause-within : goal.returns-clause-within
unfolding dec76_of outward_of
returns-clause-within c =
    let within = numerator_within (signed c.args.d.now.neg c.args.d.now.digits) (10 ^ c.args.d.now.places) 10 (ten_positive c.args.d.now.places) c.requires.small in
    let finer = numerator_finer (signed c.args.d.now.neg c.args.d.now.digits) (10 ^ c.args.d.now.places) 10 (2 ^ 76) within.0 within.1 in
    let bounds = floor_within (signed c.args.d.now.neg c.args.d.now.digits *ℤ pos (2 ^ 76)) (10 * 2 ^ 76) (10 ^ c.args.d.now.places) (ten_positive c.args.d.now.places) finer.0 finer.1 in
    let exact = returns-clause-exact c in
    record { low = rw (ap (λ (e : Ends). e.lo) exact) bounds.0; high = rw (ap (λ (e : Ends). e.hi) exact) bounds.1 }

pub returns-clause-encloses : goal.returns-clause-encloses
returns-clause-encloses c = dec76_encloses c.args.d.now (returns-clause-exact c)
