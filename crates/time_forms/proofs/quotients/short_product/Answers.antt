use Rattle.std.proofs.Common.{◌^◌, ℤ, pos, ◌*ℤ◌}
use lib.Dec.{lit≤}
use Rattle.whole_numbers.proofs.Casts.{plain}
use Rattle.time_forms.specs.Programs.{IsNumberWithin}
use Rattle.time_forms.proofs.Bits.{read_128, wider_bits}
use Rattle.time_forms.proofs.Bounds.{product_high, product_low}
use Rattle.time_forms.proofs.quotients.short_product.Goals as goal

product_within : (x y : ℤ) → IsNumberWithin x (2 ^ 58) → IsNumberWithin y (2 ^ 60) → IsNumberWithin (x *ℤ y) (2 ^ 118)
product_within x y p q = record { low = product_low x y (pos (2 ^ 58)) (pos (2 ^ 60)) p.low p.high q.low q.high; high = product_high x y (pos (2 ^ 58)) (pos (2 ^ 60)) p.low p.high q.low q.high }

pub returns-clause-value : goal.returns-clause-value
returns-clause-value c = rw (plain c.ranges.x, plain c.ranges.y) (read_128 (c.args.x *ℤ c.args.y) (wider_bits (2 ^ 118) (2 ^ 126) (lit≤ tt) (product_within c.args.x c.args.y c.requires.x_small c.requires.y_small)))

pub returns-clause-small : goal.returns-clause-small
returns-clause-small c = rw (returns-clause-value c) (product_within c.args.x c.args.y c.requires.x_small c.requires.y_small)
