use Rattle.std.proofs.Common.{arith, rules, pos, ◌*ℤ◌, ◌^◌, unsigned_abs}
use mir.Val.{SFits}
use mir.Syntax.{w128}
use Rattle.std.proofs.lemmas.Int.{ints, fits_signed_mul}
use Rattle.whole_numbers.proofs.Casts.{plain}
use Rattle.fix_interval.specs.Quotients.{outward_of, from_ratio_of}
use Rattle.fix_interval.proofs.EndSums.{same_ends}
use Rattle.fix_interval.proofs.EndQuotients.{from_ratio_encloses}
use Rattle.fix_interval.proofs.interval.Iv.from_ratio.Goals as goal

pub returns-clause-exact : goal.returns-clause-exact
unfolding from_ratio_of outward_of
returns-clause-exact c =
    let num : SFits w128 c.args.num = search rules in
    let den : SFits w128 c.args.den = search rules in
    let scaled : SFits w128 (c.args.num *ℤ pos (2 ^ 38)) = fits_signed_mul w128 c.args.num (pos (2 ^ 38)) (2 ^ 88) (2 ^ 38) c.requires.small (omega (arith, ints)) (omega arith) in
    same_ends (rw (plain num, plain den, plain scaled) at c.outward.ensures.lo) (rw (plain num, plain den, plain scaled) at c.outward.ensures.hi)

pub returns-clause-encloses : goal.returns-clause-encloses
returns-clause-encloses c = from_ratio_encloses c.args.num (unsigned_abs c.args.den) (returns-clause-exact c) (omega (arith, ints))
