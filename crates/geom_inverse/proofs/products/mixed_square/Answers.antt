use Rattle.std.proofs.Common.{◌≡◌, rules, ap₂, sym, ◌∙◌, ◌*ℤ◌, refl}
use mir.Val.{SFits}
use mir.Syntax.{w64, w128}
use Rattle.std.specs.Int.{int_max}
use Rattle.whole_numbers.proofs.Casts.{plain}
use Rattle.fix_interval.proofs.EndSums.{same_ends}
use Rattle.fix_interval.specs.Intervals.{ends_64}
use Rattle.geom_inverse.proofs.Casts.{short_plain}
use Rattle.geom_inverse.proofs.Squares.{square_mixed}
use Rattle.geom_inverse.proofs.products.mixed_square.Goals as goal

pub returns : goal.returns
returns c =
    let al : SFits w64 c.args.a.lo = search rules in
    let ah : SFits w64 c.args.a.hi = search rules in
    let f1 : SFits w128 c.wide.result = search rules in
    let f2 : SFits w128 c.wide-2.result = search rules in
    let m : SFits w128 c.max.result = search rules in
    let w1 : c.wide.result ≡ c.args.a.lo *ℤ c.args.a.lo = rw (short_plain al) at c.wide.ensures in
    let w2 : c.wide-2.result ≡ c.args.a.hi *ℤ c.args.a.hi = rw (short_plain ah) at c.wide-2.ensures in
    same_ends refl (plain m ∙ c.max.ensures.value ∙ ap₂ int_max (plain f1 ∙ w1) (plain f2 ∙ w2)) ∙ sym (square_mixed (ends_64 c.args.a) c.requires.low c.requires.high)
