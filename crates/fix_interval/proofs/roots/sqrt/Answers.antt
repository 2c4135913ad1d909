use Rattle.std.proofs.Common.{arith, ap, rules, ℤ, pos, ◌≤ℤ◌, ◌≤◌, ◌^◌}
use mir.Val.{SFits}
use mir.Syntax.{w128}
use Rattle.std.proofs.lemmas.Int.{ints, clamps}
use Rattle.fix_interval.specs.Roots.{sqrt_of}
use Rattle.whole_numbers.specs.Root.{root_of}
use Rattle.whole_numbers.proofs.Casts.{plain}
use Rattle.fix_interval.proofs.EndSums.{same_ends}
use Rattle.whole_numbers.proofs.Roots.{root_of_mono, root_of_small}
use Rattle.fix_interval.proofs.EndRoots.{sqrt_encloses, sqrt_isotone}
use Rattle.fix_interval.proofs.roots.sqrt.Goals as goal

-- the root of the upper end leaves room
top : (z : ℤ) (l : ℤ) → pos 0 ≤ℤ l → l ≤ℤ z → z ≤ℤ pos (2 ^ 126) → root_of z ≤ 2 ^ 63
top z l n o h = root_of_small z (omega (arith, ints)) h

pub overflow_add-result : goal.overflow_add-result
overflow_add-result c =
    let hi : SFits w128 c.args.wide.hi = search rules in
    let small = top c.args.wide.hi c.args.wide.lo c.requires.not_negative c.args.wide.ordered c.requires.small in
    omega (arith, ints, ap root_of (plain hi))

pub invariant_of-result : goal.invariant_of-result
invariant_of-result c =
    let lo : SFits w128 c.args.wide.lo = search rules in
    let hi : SFits w128 c.args.wide.hi = search rules in
    let small = top c.args.wide.hi c.args.wide.lo c.requires.not_negative c.args.wide.ordered c.requires.small in
    omega (arith, ints, clamps, root_of_mono c.args.wide.lo c.args.wide.hi c.requires.not_negative c.args.wide.ordered, ap root_of (plain lo), ap root_of (plain hi))

pub returns-clause-exact : goal.returns-clause-exact
unfolding sqrt_of
returns-clause-exact c =
    let lo : SFits w128 c.args.wide.lo = search rules in
    let hi : SFits w128 c.args.wide.hi = search rules in
    let small = top c.args.wide.hi c.args.wide.lo c.requires.not_negative c.args.wide.ordered c.requires.small in
    same_ends (omega (arith, ints, clamps, ap root_of (plain lo))) (omega (arith, ints, ap root_of (plain hi)))

pub returns-clause-encloses : goal.returns-clause-encloses
returns-clause-encloses c N x w p n r = sqrt_encloses (returns-clause-exact c) c.requires.not_negative N x w p r

pub returns-clause-isotone : goal.returns-clause-isotone
returns-clause-isotone c = sqrt_isotone (returns-clause-exact c)
