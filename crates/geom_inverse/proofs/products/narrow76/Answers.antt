use Rattle.std.proofs.Common.{◌≡◌, rules, arith, ap, ◌∙◌, ◌^◌, pos, neg_ℤ, ◌-ℤ◌, ℤ, to_z, of_z}
use mir.Val.{SFits}
use mir.Syntax.{w128}
use Rattle.std.proofs.lemmas.Int.{ints}
use Rattle.std.proofs.lemmas.Nat.{pow_pos}
use Rattle.whole_numbers.specs.Rounding.{floor_of, ceil_of}
use Rattle.whole_numbers.proofs.Casts.{plain}
use Rattle.fix_interval.specs.Products.{narrow76_of}
use Rattle.fix_interval.proofs.EndSums.{same_ends}
use Rattle.fix_interval.proofs.EndProducts.{rounded_ordered}
use Rattle.geom_inverse.proofs.products.narrow76.Goals as goal

-- the negation, as the program writes it
negated : (z : ℤ) → pos 0 -ℤ z ≡ neg_ℤ z
negated z = omega (arith, ints)

pub invariant_of-result : goal.invariant_of-result
unfolding narrow76_of
invariant_of-result c =
    let al : SFits w128 c.args.a.lo = search rules in
    let ah : SFits w128 c.args.a.hi = search rules in
    let l = c.down-2.ensures.low in
    let h = c.down-2.ensures.high in
    let m : SFits w128 (pos 0 -ℤ c.args.a.hi) = omega (arith, ints) in
    let d : SFits w128 c.down.result = search rules in
    let u : SFits w128 c.down-2.result = search rules in
    let v : SFits w128 (pos 0 -ℤ c.down-2.result) = omega (arith, ints) in
    let e1 : c.down.result ≡ floor_of c.args.a.lo (2 ^ 38) = c.down.ensures.value ∙ ap (λ z. floor_of z (2 ^ 38)) (plain al) in
    let e2 : c.down-2.result ≡ floor_of (pos 0 -ℤ c.args.a.hi) (2 ^ 38) = c.down-2.ensures.value ∙ ap (λ z. floor_of z (2 ^ 38)) (ap (λ z. to_z w128 (of_z w128 (pos 0 -ℤ z))) (plain ah) ∙ plain m) in
    let hi : pos 0 -ℤ c.down-2.result ≡ ceil_of c.args.a.hi (2 ^ 38) = negated c.down-2.result ∙ ap neg_ℤ (e2 ∙ ap (λ z. floor_of z (2 ^ 38)) (negated c.args.a.hi)) in
    let f = plain d ∙ e1 in
    let g = ap (λ z. to_z w128 (of_z w128 (pos 0 -ℤ z))) (plain u) ∙ plain v ∙ hi in
    record { ordered = rw (f, g) (rounded_ordered c.args.a.lo c.args.a.hi (2 ^ 38) (pow_pos 38) c.args.a.ordered) }

pub returns : goal.returns
unfolding narrow76_of
returns c =
    let al : SFits w128 c.args.a.lo = search rules in
    let ah : SFits w128 c.args.a.hi = search rules in
    let l = c.down-2.ensures.low in
    let h = c.down-2.ensures.high in
    let m : SFits w128 (pos 0 -ℤ c.args.a.hi) = omega (arith, ints) in
    let d : SFits w128 c.down.result = search rules in
    let u : SFits w128 c.down-2.result = search rules in
    let v : SFits w128 (pos 0 -ℤ c.down-2.result) = omega (arith, ints) in
    let e1 : c.down.result ≡ floor_of c.args.a.lo (2 ^ 38) = c.down.ensures.value ∙ ap (λ z. floor_of z (2 ^ 38)) (plain al) in
    let e2 : c.down-2.result ≡ floor_of (pos 0 -ℤ c.args.a.hi) (2 ^ 38) = c.down-2.ensures.value ∙ ap (λ z. floor_of z (2 ^ 38)) (ap (λ z. to_z w128 (of_z w128 (pos 0 -ℤ z))) (plain ah) ∙ plain m) in
    let hi : pos 0 -ℤ c.down-2.result ≡ ceil_of c.args.a.hi (2 ^ 38) = negated c.down-2.result ∙ ap neg_ℤ (e2 ∙ ap (λ z. floor_of z (2 ^ 38)) (negated c.args.a.hi)) in
    record { exact = same_ends (plain d ∙ e1) (ap (λ z. to_z w128 (of_z w128 (pos 0 -ℤ z))) (plain u) ∙ plain v ∙ hi) }
