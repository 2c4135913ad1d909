use Rattle.std.proofs.Common.{arith, rules, ap, ap₂, ◌∙◌, ◌*◌, ◌^◌, ℤ, pos, ◌-ℤ◌, ◌*ℤ◌, ◌≤ℤ◌, ◌≡◌, to_z, of_z, FitsSigned}
use Rattle.std.proofs.lemmas.Int.{ints}
use mir.Syntax.{w128}
use mir.Val.{SFits}
use lib.Dec.{lit≤}
use Rattle.whole_numbers.specs.Rounding.{floor_of}
use Rattle.whole_numbers.proofs.Casts.{plain}
use Rattle.time_forms.specs.Programs.{IsNumberWithin}
use Rattle.time_forms.proofs.Bits.{wider_bits}
use Rattle.orbit_forms.specs.Lines.{radians_of}
use Rattle.angle_forms.proofs.Fits.{product_bound}
use Rattle.angle_forms.proofs.anomalies.slope.Goals as goal

pub scaled-requires : goal.scaled-requires
scaled-requires c =
    let r : SFits w128 c.radians.result = search rules in
    record { fits = rw (plain c.ranges.cosine, plain r) (wider_bits (2 ^ 39 * (8 * 2 ^ 31)) (2 ^ 126) (lit≤ tt) (product_bound c.args.cosine c.radians.result (2 ^ 39) (8 * 2 ^ 31) c.requires.cosine_small (c.radians.ensures.small (2 ^ 31) (rw (plain c.ranges.eps) c.requires.eps_small)))) }

scaled_small : (c : goal.After-scaled) → IsNumberWithin c.scaled.result (2 ^ 35)
scaled_small c =
    let r : SFits w128 c.radians.result = search rules in
    c.scaled.ensures.small (2 ^ 35) (rw (plain c.ranges.cosine, plain r) (wider_bits (2 ^ 39 * (8 * 2 ^ 31)) (2 ^ 35 * 2 ^ 38) (lit≤ tt) (product_bound c.args.cosine c.radians.result (2 ^ 39) (8 * 2 ^ 31) c.requires.cosine_small (c.radians.ensures.small (2 ^ 31) (rw (plain c.ranges.eps) c.requires.eps_small)))))

less : (z : ℤ) → IsNumberWithin z (2 ^ 35) → to_z w128 (of_z w128 (pos (2 ^ 38) -ℤ to_z w128 (of_z w128 z))) ≡ pos (2 ^ 38) -ℤ z
less z p = let l = p.low in let h = p.high in omega (arith, ints)

less_fits : (z : ℤ) → IsNumberWithin z (2 ^ 35) → FitsSigned w128 (pos (2 ^ 38) -ℤ to_z w128 (of_z w128 z))
less_fits z p = let l = p.low in let h = p.high in omega (arith, ints)

less_positive : (z : ℤ) → IsNumberWithin z (2 ^ 35) → pos 1 ≤ℤ (pos (2 ^ 38) -ℤ z)
less_positive z p = let l = p.low in let h = p.high in omega (arith, ints)

pub overflow_sub-result : goal.overflow_sub-result
overflow_sub-result c = less_fits c.scaled.result (scaled_small c)

pub returns-clause-value : goal.returns-clause-value
returns-clause-value c =
    let r : SFits w128 c.radians.result = search rules in
    less c.scaled.result (scaled_small c) ∙ ap (λ z. pos (2 ^ 38) -ℤ z) (c.scaled.ensures.value ∙ ap₂ (λ x y. floor_of (x *ℤ y) (2 ^ 38)) (plain c.ranges.cosine) (plain r ∙ c.radians.ensures.value ∙ ap radians_of (plain c.ranges.eps)))

pub returns-clause-positive : goal.returns-clause-positive
returns-clause-positive c = rw (less c.scaled.result (scaled_small c)) (less_positive c.scaled.result (scaled_small c))
