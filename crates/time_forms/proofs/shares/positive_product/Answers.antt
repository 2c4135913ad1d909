use Rattle.std.proofs.Common.{arith, [], ◌∷◌, ℤ, pos, ◌^◌, ◌-ℤ◌, ◌+ℤ◌, ◌*ℤ◌, ◌≤ℤ◌}
use Rattle.std.proofs.lemmas.Int.{ints}
use lib.Dec.{lit≤}
use Rattle.whole_numbers.proofs.Casts.{plain}
use Rattle.whole_numbers.proofs.Certificates.{at_most, not_negative}
use Rattle.whole_numbers.proofs.Quote.{quote}
use Rattle.time_forms.specs.Programs.{IsNumberWithin}
use Rattle.time_forms.proofs.Bits.{read_128, wider_bits}
use Rattle.time_forms.proofs.Bounds.{product_high, product_low}
use Rattle.time_forms.proofs.shares.positive_product.Goals as goal

positive : (x y : ℤ) → pos 1 ≤ℤ x → pos 1 ≤ℤ y → pos 1 ≤ℤ (x *ℤ y)
positive x y p q = at_most (x ∷ y ∷ []) ((x -ℤ pos 1) *ℤ (y -ℤ pos 1) +ℤ ((x -ℤ pos 1) +ℤ (y -ℤ pos 1))) (search not_negative) (search quote depth 20) tt

within : (x y : ℤ) → pos 1 ≤ℤ x → x ≤ℤ pos (2 ^ 58) → pos 1 ≤ℤ y → y ≤ℤ pos (2 ^ 60) → IsNumberWithin (x *ℤ y) (2 ^ 118)
within x y p q s t =
    let xl : (pos 0 -ℤ pos (2 ^ 58)) ≤ℤ x = omega (arith, ints) in
    let yl : (pos 0 -ℤ pos (2 ^ 60)) ≤ℤ y = omega (arith, ints) in
    record { low = product_low x y (pos (2 ^ 58)) (pos (2 ^ 60)) xl q yl t; high = product_high x y (pos (2 ^ 58)) (pos (2 ^ 60)) xl q yl t }

pub returns-clause-positive : goal.returns-clause-positive
returns-clause-positive c =
    let b = within c.args.x c.args.y c.requires.x_positive c.requires.x_small c.requires.y_positive c.requires.y_small in
    rw (plain c.ranges.x, plain c.ranges.y) (rw (read_128 (c.args.x *ℤ c.args.y) (wider_bits (2 ^ 118) (2 ^ 126) (lit≤ tt) b)) (positive c.args.x c.args.y c.requires.x_positive c.requires.y_positive))
