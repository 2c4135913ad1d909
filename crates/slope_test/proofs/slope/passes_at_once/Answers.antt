use Rattle.std.proofs.Common.{rules, ◌≡◌, arith, ℤ, ◌*ℤ◌, ◌≤ℤ◌, true}
use mir.Val.{SFits}
use mir.Syntax.{w64, w128}
use lib.Signed.{le_z}
use Rattle.std.proofs.lemmas.Int.{ints}
use Rattle.whole_numbers.proofs.Casts.{plain}
use Rattle.fix_interval.specs.Intervals.{ends, ends_64}
use Rattle.geom_inverse.proofs.Casts.{short_plain}
use Rattle.slope_test.proofs.Products.{passes_by_two}
use Rattle.slope_test.proofs.slope.passes_at_once.Goals as goal

at_most : (x y : ℤ) → le_z x y ≡ true → x ≤ℤ y
at_most x y e = omega (arith, ints)

pub returns : goal.returns
returns c = λ e.
    let k : SFits w128 c.args.kappa.hi = search rules in
    let q : SFits w128 c.args.squared.hi = search rules in
    let a : SFits w64 c.args.all.lo = search rules in
    let b : SFits w64 c.args.less.lo = search rules in
    let s : SFits w128 c.times.result = search rules in
    let w : SFits w128 c.wide.result = search rules in
    let left : c.times.result ≡ c.args.kappa.hi *ℤ c.args.squared.hi = rw (plain k, plain q) at c.times.ensures in
    let right : c.wide.result ≡ c.args.all.lo *ℤ c.args.less.lo = rw (short_plain a, short_plain b) at c.wide.ensures in
    let h : le_z c.times.result c.wide.result ≡ true = rw (plain s, plain w) at e in
    let o : (c.args.kappa.hi *ℤ c.args.squared.hi) ≤ℤ (c.args.all.lo *ℤ c.args.less.lo) = rw (left, right) at (at_most c.times.result c.wide.result h) in
    passes_by_two (ends c.args.kappa) (ends c.args.squared) (ends_64 c.args.all) (ends_64 c.args.less) c.args.kappa.ordered c.args.squared.ordered c.args.all.ordered c.args.less.ordered
    (omega (arith, ints)) (omega (arith, ints)) c.requires (omega (arith, ints)) (omega (arith, ints)) (omega (arith, ints)) o
