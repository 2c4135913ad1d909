use Rattle.std.proofs.Common.{◌≡◌, rules, ap, ap₂, sym, ◌∙◌, ◌*ℤ◌, to_z, of_z}
use mir.Val.{SFits}
use mir.Syntax.{w64, w128}
use Rattle.std.specs.Int.{int_min, int_max}
use Rattle.whole_numbers.proofs.Casts.{plain}
use Rattle.fix_interval.specs.Ends.{Ends}
use Rattle.fix_interval.specs.Products.{mul_wide_of}
use Rattle.fix_interval.proofs.EndSums.{same_ends}
use Rattle.fix_interval.specs.Intervals.{ends_64}
use Rattle.geom_inverse.proofs.Casts.{short_plain}
use Rattle.geom_inverse.proofs.Corners.{product_mixed, product_ordered}
use Rattle.geom_inverse.proofs.products.times_mixed.Goals as goal

pub invariant_of-result : goal.invariant_of-result
invariant_of-result c =
    let al : SFits w64 c.args.a.lo = search rules in
    let ah : SFits w64 c.args.a.hi = search rules in
    let bl : SFits w64 c.args.b.lo = search rules in
    let bh : SFits w64 c.args.b.hi = search rules in
    let f1 : SFits w128 c.wide.result = search rules in
    let f2 : SFits w128 c.wide-2.result = search rules in
    let f3 : SFits w128 c.wide-3.result = search rules in
    let f4 : SFits w128 c.wide-4.result = search rules in
    let m1 : SFits w128 c.min.result = search rules in
    let m2 : SFits w128 c.max.result = search rules in
    let w1 : c.wide.result ≡ c.args.a.lo *ℤ c.args.b.hi = rw (short_plain al, short_plain bh) at c.wide.ensures in
    let w2 : c.wide-2.result ≡ c.args.a.hi *ℤ c.args.b.lo = rw (short_plain ah, short_plain bl) at c.wide-2.ensures in
    let w3 : c.wide-3.result ≡ c.args.a.lo *ℤ c.args.b.lo = rw (short_plain al, short_plain bl) at c.wide-3.ensures in
    let w4 : c.wide-4.result ≡ c.args.a.hi *ℤ c.args.b.hi = rw (short_plain ah, short_plain bh) at c.wide-4.ensures in
    let e : record { lo = to_z w128 (of_z w128 c.min.result); hi = to_z w128 (of_z w128 c.max.result) } ≡ mul_wide_of (ends_64 c.args.a) (ends_64 c.args.b) =
    same_ends (plain m1 ∙ c.min.ensures.value ∙ ap₂ int_min (plain f1 ∙ w1) (plain f2 ∙ w2)) (plain m2 ∙ c.max.ensures.value ∙ ap₂ int_max (plain f3 ∙ w3) (plain f4 ∙ w4))
    ∙ sym (product_mixed (ends_64 c.args.a) (ends_64 c.args.b) c.args.a.ordered c.requires.low c.requires.high) in
    record { ordered = rw (ap (λ (t : Ends). t.lo) e, ap (λ (t : Ends). t.hi) e) (product_ordered (ends_64 c.args.a) (ends_64 c.args.b) c.args.a.ordered c.args.b.ordered) }

pub returns : goal.returns
returns c =
    let al : SFits w64 c.args.a.lo = search rules in
    let ah : SFits w64 c.args.a.hi = search rules in
    let bl : SFits w64 c.args.b.lo = search rules in
    let bh : SFits w64 c.args.b.hi = search rules in
    let f1 : SFits w128 c.wide.result = search rules in
    let f2 : SFits w128 c.wide-2.result = search rules in
    let f3 : SFits w128 c.wide-3.result = search rules in
    let f4 : SFits w128 c.wide-4.result = search rules in
    let m1 : SFits w128 c.min.result = search rules in
    let m2 : SFits w128 c.max.result = search rules in
    let w1 : c.wide.result ≡ c.args.a.lo *ℤ c.args.b.hi = rw (short_plain al, short_plain bh) at c.wide.ensures in
    let w2 : c.wide-2.result ≡ c.args.a.hi *ℤ c.args.b.lo = rw (short_plain ah, short_plain bl) at c.wide-2.ensures in
    let w3 : c.wide-3.result ≡ c.args.a.lo *ℤ c.args.b.lo = rw (short_plain al, short_plain bl) at c.wide-3.ensures in
    let w4 : c.wide-4.result ≡ c.args.a.hi *ℤ c.args.b.hi = rw (short_plain ah, short_plain bh) at c.wide-4.ensures in
    same_ends (plain m1 ∙ c.min.ensures.value ∙ ap₂ int_min (plain f1 ∙ w1) (plain f2 ∙ w2)) (plain m2 ∙ c.max.ensures.value ∙ ap₂ int_max (plain f3 ∙ w3) (plain f4 ∙ w4))
    ∙ sym (product_mixed (ends_64 c.args.a) (ends_64 c.args.b) c.args.a.ordered c.requires.low c.requires.high)
