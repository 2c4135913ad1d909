use Rattle.std.proofs.Common.{◌≡◌, rules, ap, sym, ◌∙◌, ◌*ℤ◌, pos, cond, to_z, of_z}
use mir.Val.{SFits}
use mir.Syntax.{w64, w128}
use lib.Signed.{le_z}
use Rattle.whole_numbers.proofs.Casts.{plain}
use Rattle.fix_interval.specs.Ends.{Ends}
use Rattle.fix_interval.specs.Products.{mul_wide_of}
use Rattle.fix_interval.proofs.EndSums.{same_ends}
use Rattle.fix_interval.specs.Intervals.{ends_64}
use Rattle.geom_inverse.proofs.Casts.{short_plain}
use Rattle.geom_inverse.proofs.Corners.{product_up, product_ordered}
use Rattle.geom_inverse.proofs.products.times_not_negative.Goals as goal

pub invariant_of-result : goal.invariant_of-result
invariant_of-result c =
    let al : SFits w64 c.args.a.lo = search rules in
    let ah : SFits w64 c.args.a.hi = search rules in
    let bl : SFits w64 c.args.b.lo = search rules in
    let bh : SFits w64 c.args.b.hi = search rules in
    let s1 : SFits w64 c.by_sign.result = search rules in
    let s2 : SFits w64 c.by_sign-2.result = search rules in
    let f1 : SFits w128 c.wide.result = search rules in
    let f2 : SFits w128 c.wide-2.result = search rules in
    let e1 : c.by_sign.result ≡ cond (le_z (pos 0) c.args.a.lo) c.args.b.lo c.args.b.hi = rw (short_plain al, short_plain bl, short_plain bh) at c.by_sign.ensures in
    let e2 : c.by_sign-2.result ≡ cond (le_z (pos 0) c.args.a.hi) c.args.b.hi c.args.b.lo = rw (short_plain ah, short_plain bl, short_plain bh) at c.by_sign-2.ensures in
    let w1 : c.wide.result ≡ c.args.a.lo *ℤ c.by_sign.result = rw (short_plain al, short_plain s1) at c.wide.ensures in
    let w2 : c.wide-2.result ≡ c.args.a.hi *ℤ c.by_sign-2.result = rw (short_plain ah, short_plain s2) at c.wide-2.ensures in
    let e : record { lo = to_z w128 (of_z w128 c.wide.result); hi = to_z w128 (of_z w128 c.wide-2.result) } ≡ mul_wide_of (ends_64 c.args.a) (ends_64 c.args.b) =
    same_ends (plain f1 ∙ w1 ∙ ap (λ t. c.args.a.lo *ℤ t) e1) (plain f2 ∙ w2 ∙ ap (λ t. c.args.a.hi *ℤ t) e2)
    ∙ sym (product_up (ends_64 c.args.a) (ends_64 c.args.b) c.args.a.ordered c.args.b.ordered c.requires) in
    record { ordered = rw (ap (λ (t : Ends). t.lo) e, ap (λ (t : Ends). t.hi) e) (product_ordered (ends_64 c.args.a) (ends_64 c.args.b) c.args.a.ordered c.args.b.ordered) }

pub returns : goal.returns
returns c =
    let al : SFits w64 c.args.a.lo = search rules in
    let ah : SFits w64 c.args.a.hi = search rules in
    let bl : SFits w64 c.args.b.lo = search rules in
    let bh : SFits w64 c.args.b.hi = search rules in
    let s1 : SFits w64 c.by_sign.result = search rules in
    let s2 : SFits w64 c.by_sign-2.result = search rules in
    let f1 : SFits w128 c.wide.result = search rules in
    let f2 : SFits w128 c.wide-2.result = search rules in
    let e1 : c.by_sign.result ≡ cond (le_z (pos 0) c.args.a.lo) c.args.b.lo c.args.b.hi = rw (short_plain al, short_plain bl, short_plain bh) at c.by_sign.ensures in
    let e2 : c.by_sign-2.result ≡ cond (le_z (pos 0) c.args.a.hi) c.args.b.hi c.args.b.lo = rw (short_plain ah, short_plain bl, short_plain bh) at c.by_sign-2.ensures in
    let w1 : c.wide.result ≡ c.args.a.lo *ℤ c.by_sign.result = rw (short_plain al, short_plain s1) at c.wide.ensures in
    let w2 : c.wide-2.result ≡ c.args.a.hi *ℤ c.by_sign-2.result = rw (short_plain ah, short_plain s2) at c.wide-2.ensures in
    same_ends (plain f1 ∙ w1 ∙ ap (λ t. c.args.a.lo *ℤ t) e1) (plain f2 ∙ w2 ∙ ap (λ t. c.args.a.hi *ℤ t) e2)
    ∙ sym (product_up (ends_64 c.args.a) (ends_64 c.args.b) c.args.a.ordered c.args.b.ordered c.requires)
