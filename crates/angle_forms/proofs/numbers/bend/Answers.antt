use Rattle.std.proofs.Common.{ap, ap₂, ◌∙◌, ℤ, pos, ◌+◌, ◌*◌, ◌^◌, ◌+ℤ◌, ◌*ℤ◌, ◌≡◌, to_z, of_z}
use mir.Syntax.{w128}
use lib.Dec.{lit≤}
use Rattle.whole_numbers.specs.Rounding.{floor_of}
use Rattle.whole_numbers.proofs.Casts.{plain}
use Rattle.time_forms.specs.Programs.{IsNumberWithin}
use Rattle.time_forms.proofs.Bits.{wider_bits}
use Rattle.angle_forms.proofs.Fits.{product_bound, plus-plain, plus_fits, plus_within, twenty-plain, times_within}
use Rattle.angle_forms.proofs.numbers.bend.Goals as goal

-- 20 m^2
squared_within : (m : ℤ) → IsNumberWithin m (2 ^ 60) → IsNumberWithin ((pos 20 *ℤ m) *ℤ m) (20 * 2 ^ 60 * 2 ^ 60)
squared_within m p = product_bound (pos 20 *ℤ m) m (20 * 2 ^ 60) (2 ^ 60) (times_within 20 m (2 ^ 60) p) p

factor : (m : ℤ) → IsNumberWithin m (2 ^ 60) → to_z w128 (of_z w128 (pos 20 *ℤ to_z w128 (of_z w128 m))) ≡ pos 20 *ℤ m
factor m p = twenty-plain m (wider_bits (2 ^ 60) (2 ^ 61) (lit≤ tt) p)

pub scaled-requires : goal.scaled-requires
scaled-requires c = record { fits = rw (factor c.args.reach c.requires, plain c.ranges.reach) (wider_bits (20 * 2 ^ 60 * 2 ^ 60) (2 ^ 126) (lit≤ tt) (squared_within c.args.reach c.requires)) }

small : (c : goal.After-scaled) → IsNumberWithin c.scaled.result (2 ^ 87)
small c = c.scaled.ensures.small (2 ^ 87) (rw (factor c.args.reach c.requires, plain c.ranges.reach) (wider_bits (20 * 2 ^ 60 * 2 ^ 60) (2 ^ 87 * 2 ^ 38) (lit≤ tt) (squared_within c.args.reach c.requires)))

pub returns-clause-value : goal.returns-clause-value
returns-clause-value c =
    plus-plain c.scaled.result 2 (lit≤ tt) (wider_bits (2 ^ 87) (2 ^ 120) (lit≤ tt) (small c))
    ∙ ap (λ z. z +ℤ pos 2) (c.scaled.ensures.value ∙ ap₂ (λ x y. floor_of (x *ℤ y) (2 ^ 38)) (factor c.args.reach c.requires) (plain c.ranges.reach))

pub returns-clause-small : goal.returns-clause-small
returns-clause-small c = rw (plus-plain c.scaled.result 2 (lit≤ tt) (wider_bits (2 ^ 87) (2 ^ 120) (lit≤ tt) (small c))) (wider_bits (2 ^ 87 + 2) (2 ^ 88) (lit≤ tt) (plus_within c.scaled.result 2 (2 ^ 87) (small c)))

pub overflow_add-result : goal.overflow_add-result
overflow_add-result c = plus_fits c.scaled.result 2 (lit≤ tt) (wider_bits (2 ^ 87) (2 ^ 120) (lit≤ tt) (small c))
