use Rattle.std.proofs.Common.{◌≡◌, rules, arith, sym, ◌∙◌, ◌*ℤ◌, pos, ◌≤ℤ◌}
use mir.Val.{SFits}
use mir.Syntax.{w64}
use Rattle.std.proofs.lemmas.Int.{ints}
use Rattle.fix_interval.specs.Intervals.{ends, ends_64}
use Rattle.geom_inverse.proofs.Casts.{short_plain}
use Rattle.geom_inverse.proofs.Squares.{square_up, square_down}
use Rattle.geom_inverse.proofs.products.wide_square.Goals as goal

pub returns-then-a-ge0 : goal.returns-then-a-ge0
returns-then-a-ge0 c =
    let al : SFits w64 c.args.a.lo = search rules in
    let ah : SFits w64 c.args.a.hi = search rules in
    let n : pos 0 ≤ℤ c.args.a.lo = omega (arith, ints) in
    let e : ends c.squares.result ≡ record { lo = c.args.a.lo *ℤ c.args.a.lo; hi = c.args.a.hi *ℤ c.args.a.hi } = rw (short_plain al, short_plain ah) at c.squares.ensures in
    e ∙ sym (square_up (ends_64 c.args.a) n c.args.a.ordered)

pub returns-then-a-le0 : goal.returns-then-a-le0
returns-then-a-le0 c =
    let al : SFits w64 c.args.a.lo = search rules in
    let ah : SFits w64 c.args.a.hi = search rules in
    let n : c.args.a.hi ≤ℤ pos 0 = omega (arith, ints) in
    let e : ends c.squares-then-a-le0.result ≡ record { lo = c.args.a.hi *ℤ c.args.a.hi; hi = c.args.a.lo *ℤ c.args.a.lo } = rw (short_plain al, short_plain ah) at c.squares-then-a-le0.ensures in
    e ∙ sym (square_down (ends_64 c.args.a) n c.args.a.ordered)
