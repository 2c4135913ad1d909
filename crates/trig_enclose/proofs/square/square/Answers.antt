use Rattle.std.proofs.Common.{rules, arith, sym, ◌∙◌, ◌≡◌, pos, ◌-ℤ◌, max, unsigned_abs}
use mir.Val.{SFits}
use mir.Syntax.{w64}
use Rattle.std.proofs.lemmas.Int.{ints}
use Rattle.trig_laws.proofs.Chains.{sqr-naturals, sqr-negatives, sqr-mixed}
use Rattle.fix_interval.specs.Intervals.{ends_64}
use Rattle.trig_enclose.proofs.Casts.{plain}
use Rattle.trig_enclose.proofs.square.square.Goals as goal

pub returns-then-x-ge0 : goal.returns-then-x-ge0
returns-then-x-ge0 c =
    let lo : SFits w64 c.args.x.lo = search rules in
    let hi : SFits w64 c.args.x.hi = search rules in
    let e = rw (plain lo, plain hi) at c.squares.ensures in
    let some = rw (plain lo) at c.if-x-ge0.true in
    let o = c.args.x.ordered in
    e ∙ sym (sqr-naturals (ends_64 c.args.x) (unsigned_abs c.args.x.lo) (unsigned_abs c.args.x.hi) (omega (arith, ints)) (omega (arith, ints)) (omega (arith, ints)))

pub returns-then-x-le0 : goal.returns-then-x-le0
returns-then-x-le0 c =
    let lo : SFits w64 c.args.x.lo = search rules in
    let hi : SFits w64 c.args.x.hi = search rules in
    let down : SFits w64 (pos 0 -ℤ c.args.x.hi) = omega (arith, ints) in
    let up : SFits w64 (pos 0 -ℤ c.args.x.lo) = omega (arith, ints) in
    let e = rw (plain lo, plain hi, plain down, plain up) at c.squares-then-x-le0.ensures in
    let some = rw (plain hi) at c.if-x-le0.true in
    let o = c.args.x.ordered in
    e ∙ sym (sqr-negatives (ends_64 c.args.x) (unsigned_abs (pos 0 -ℤ c.args.x.hi)) (unsigned_abs (pos 0 -ℤ c.args.x.lo)) (omega (arith, ints)) (omega (arith, ints)) (omega (arith, ints)))

pub returns-else-x-le0 : goal.returns-else-x-le0
returns-else-x-le0 c =
    let lo : SFits w64 c.args.x.lo = search rules in
    let hi : SFits w64 c.args.x.hi = search rules in
    let up : SFits w64 (pos 0 -ℤ c.args.x.lo) = omega (arith, ints) in
    let below = rw (plain lo) at c.if-x-ge0.false in
    let above = rw (plain hi) at c.if-x-le0.false in
    let m : c.max.result ≡ max (unsigned_abs (pos 0 -ℤ c.args.x.lo)) (unsigned_abs c.args.x.hi) = rw (plain lo, plain hi, plain up) at c.max.ensures in
    c.squares-else-x-le0.ensures ∙ sym (sqr-mixed (ends_64 c.args.x) (unsigned_abs (pos 0 -ℤ c.args.x.lo)) (unsigned_abs c.args.x.hi) c.max.result (omega (arith, ints)) (omega (arith, ints)) m)
