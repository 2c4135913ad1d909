use Rattle.std.proofs.Common.{ap, ap₂, ◌∙◌, ◌+◌, ◌*◌, ◌^◌, ℤ, pos, ◌+ℤ◌, ◌*ℤ◌, ◌≡◌, to_z, of_z}
use mir.Syntax.{w128}
use lib.Dec.{lit≤}
use Rattle.whole_numbers.specs.Rounding.{floor_of}
use Rattle.whole_numbers.proofs.Casts.{plain}
use Rattle.time_forms.specs.Programs.{IsNumberWithin}
use Rattle.time_forms.proofs.Bits.{wider_bits}
use Rattle.angle_forms.proofs.Fits.{product_bound, plus-plain, plus_fits, plus_within, twenty_five-plain, times_within}
use Rattle.angle_forms.proofs.anomalies.mean_bend.Goals as goal

-- 25 q^2
squared_within : (q : ℤ) → IsNumberWithin q (2 ^ 60 + 2 ^ 44) → IsNumberWithin ((pos 25 *ℤ q) *ℤ q) (25 * (2 ^ 60 + 2 ^ 44) * (2 ^ 60 + 2 ^ 44))
squared_within q p = product_bound (pos 25 *ℤ q) q (25 * (2 ^ 60 + 2 ^ 44)) (2 ^ 60 + 2 ^ 44) (times_within 25 q (2 ^ 60 + 2 ^ 44) p) p

factor : (q : ℤ) → IsNumberWithin q (2 ^ 60 + 2 ^ 44) → to_z w128 (of_z w128 (pos 25 *ℤ to_z w128 (of_z w128 q))) ≡ pos 25 *ℤ q
factor q p = twenty_five-plain q (wider_bits (2 ^ 60 + 2 ^ 44) (2 ^ 61) (lit≤ tt) p)

pub scaled-requires : goal.scaled-requires
scaled-requires c = record { fits = rw (factor c.args.reach c.requires.reach_small, plain c.ranges.reach) (wider_bits (25 * (2 ^ 60 + 2 ^ 44) * (2 ^ 60 + 2 ^ 44)) (2 ^ 126) (lit≤ tt) (squared_within c.args.reach c.requires.reach_small)) }

-- what is scaled first, and a unit more
first_small : (c : goal.After-scaled) → IsNumberWithin c.scaled.result (2 ^ 87)
first_small c = c.scaled.ensures.small (2 ^ 87) (rw (factor c.args.reach c.requires.reach_small, plain c.ranges.reach) (wider_bits (25 * (2 ^ 60 + 2 ^ 44) * (2 ^ 60 + 2 ^ 44)) (2 ^ 87 * 2 ^ 38) (lit≤ tt) (squared_within c.args.reach c.requires.reach_small)))

one_more : (z : ℤ) → IsNumberWithin z (2 ^ 87) → to_z w128 (of_z w128 (to_z w128 (of_z w128 z) +ℤ pos 1)) ≡ z +ℤ pos 1
one_more z p = plus-plain z 1 (lit≤ tt) (wider_bits (2 ^ 87) (2 ^ 120) (lit≤ tt) p)

outer_within : (e z : ℤ) → IsNumberWithin e (2 ^ 31) → IsNumberWithin z (2 ^ 87) → IsNumberWithin (e *ℤ (z +ℤ pos 1)) (2 ^ 31 * (2 ^ 87 + 1))
outer_within e z p q = product_bound e (z +ℤ pos 1) (2 ^ 31) (2 ^ 87 + 1) p (plus_within z 1 (2 ^ 87) q)

pub overflow_add-scaled : goal.overflow_add-scaled
overflow_add-scaled c = plus_fits c.scaled.result 1 (lit≤ tt) (wider_bits (2 ^ 87) (2 ^ 120) (lit≤ tt) (first_small c))

pub scaled-requires-2 : goal.scaled-requires-2
scaled-requires-2 c = record { fits = rw (one_more c.scaled.result (first_small c), plain c.ranges.eps) (wider_bits (2 ^ 31 * (2 ^ 87 + 1)) (2 ^ 126) (lit≤ tt) (outer_within c.args.eps c.scaled.result c.requires.eps_small (first_small c))) }

first_after : (c : goal.After-scaled-2) → IsNumberWithin c.scaled.result (2 ^ 87)
first_after c = c.scaled.ensures.small (2 ^ 87) (rw (factor c.args.reach c.requires.reach_small, plain c.ranges.reach) (wider_bits (25 * (2 ^ 60 + 2 ^ 44) * (2 ^ 60 + 2 ^ 44)) (2 ^ 87 * 2 ^ 38) (lit≤ tt) (squared_within c.args.reach c.requires.reach_small)))

second_small : (c : goal.After-scaled-2) → IsNumberWithin c.scaled-2.result (2 ^ 81)
second_small c = c.scaled-2.ensures.small (2 ^ 81) (rw (one_more c.scaled.result (first_after c), plain c.ranges.eps) (wider_bits (2 ^ 31 * (2 ^ 87 + 1)) (2 ^ 81 * 2 ^ 38) (lit≤ tt) (outer_within c.args.eps c.scaled.result c.requires.eps_small (first_after c))))

pub overflow_add-result : goal.overflow_add-result
overflow_add-result c = plus_fits c.scaled-2.result 2 (lit≤ tt) (wider_bits (2 ^ 81) (2 ^ 120) (lit≤ tt) (second_small c))

pub returns-clause-value : goal.returns-clause-value
returns-clause-value c =
    plus-plain c.scaled-2.result 2 (lit≤ tt) (wider_bits (2 ^ 81) (2 ^ 120) (lit≤ tt) (second_small c))
    ∙ ap (λ z. z +ℤ pos 2) (c.scaled-2.ensures.value ∙ ap₂ (λ x y. floor_of (x *ℤ y) (2 ^ 38)) (plain c.ranges.eps)
    (one_more c.scaled.result (first_after c) ∙ ap (λ z. z +ℤ pos 1) (c.scaled.ensures.value ∙ ap₂ (λ x y. floor_of (x *ℤ y) (2 ^ 38)) (factor c.args.reach c.requires.reach_small) (plain c.ranges.reach))))

pub returns-clause-small : goal.returns-clause-small
returns-clause-small c = rw (plus-plain c.scaled-2.result 2 (lit≤ tt) (wider_bits (2 ^ 81) (2 ^ 120) (lit≤ tt) (second_small c))) (wider_bits (2 ^ 81 + 2) (2 ^ 90) (lit≤ tt) (plus_within c.scaled-2.result 2 (2 ^ 81) (second_small c)))
