use Rattle.std.proofs.Common.{arith, ℤ, ℕ, ◌≤◌, ◌*◌, ◌^◌, ◌≡◌, to_z, of_z}
use mir.Val.{SFits}
use mir.Syntax.{w64, w128}
use Rattle.std.proofs.lemmas.Int.{ints, to_z-of_z}
use Rattle.std.proofs.Math.Nat.{mul-le-mul}
use Rattle.whole_numbers.proofs.Casts.{plain}
use Rattle.fix_interval.specs.Intervals.{mag_of}
use Rattle.fix_interval.specs.Products.{scale_int_of}
use Rattle.fix_interval.proofs.EndProducts.{scale_int_encloses, scale_int_isotone}
use Rattle.fix_interval.proofs.products.scale_int.Goals as goal

-- an i64 is an i128
widens : (z : ℤ) → SFits w64 z → SFits w128 z
widens z f = let g = f in omega (arith, ints)

-- and is read as it was
widened : (z : ℤ) → SFits w64 z → to_z w128 (of_z w128 (to_z w64 (of_z w64 z))) ≡ z
widened z f = rw (to_z-of_z w64 z f) (plain (widens z f))

-- a magnitude of 60 bits times one of 63 has at most 126
bounded : (m n : ℕ) → m ≤ 2 ^ 60 → n ≤ 2 ^ 63 → m * n ≤ 2 ^ 126
bounded m n h k = omega (arith, mul-le-mul h k)

pub mul_wide-requires : goal.mul_wide-requires
mul_wide-requires c =
    let e = widened c.args.first c.ranges.first in
    let f = widened c.args.last c.ranges.last in
    rw (e, f) (bounded (mag_of c.args.a) _ (omega (arith, ints)) (omega (arith, ints)))

pub returns-clause-exact : goal.returns-clause-exact
unfolding scale_int_of
returns-clause-exact c =
    let e = widened c.args.first c.ranges.first in
    let f = widened c.args.last c.ranges.last in
    rw (e, f) at c.mul_wide.ensures.exact

pub returns-clause-encloses : goal.returns-clause-encloses
returns-clause-encloses c = scale_int_encloses c.args.first c.args.last (returns-clause-exact c)

pub returns-clause-isotone : goal.returns-clause-isotone
returns-clause-isotone c = scale_int_isotone c.args.first c.args.last (returns-clause-exact c) c.requires.ordered
