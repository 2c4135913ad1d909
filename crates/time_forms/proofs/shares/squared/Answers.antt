use Rattle.std.proofs.Common.{arith, ℤ, pos, ◌^◌, ◌*ℤ◌, FitsSigned}
use Rattle.std.proofs.lemmas.Int.{ints}
use mir.Syntax.{w128}
use lib.Dec.{lit≤}
use Rattle.whole_numbers.proofs.Casts.{plain}
use Rattle.time_forms.specs.Programs.{IsNumberWithin}
use Rattle.time_forms.proofs.Bits.{read_128, wider_bits}
use Rattle.time_forms.proofs.Bounds.{product_high, product_low}
use Rattle.time_forms.proofs.shares.squared.Goals as goal

square_within : (z : ℤ) → IsNumberWithin z (2 ^ 62) → IsNumberWithin (z *ℤ z) (2 ^ 124)
square_within z p = record { low = product_low z z (pos (2 ^ 62)) (pos (2 ^ 62)) p.low p.high p.low p.high; high = product_high z z (pos (2 ^ 62)) (pos (2 ^ 62)) p.low p.high p.low p.high }

fits : (z : ℤ) → IsNumberWithin z (2 ^ 124) → FitsSigned w128 z
fits z p = let l = p.low in let h = p.high in omega (arith, ints)

pub overflow_mul-result : goal.overflow_mul-result
overflow_mul-result c = rw (plain c.ranges.z) (fits (c.args.z *ℤ c.args.z) (square_within c.args.z c.requires.small))

pub returns-clause-value : goal.returns-clause-value
returns-clause-value c = rw (plain c.ranges.z) (read_128 (c.args.z *ℤ c.args.z) (wider_bits (2 ^ 124) (2 ^ 126) (lit≤ tt) (square_within c.args.z c.requires.small)))

pub returns-clause-small : goal.returns-clause-small
returns-clause-small c = rw (returns-clause-value c) (square_within c.args.z c.requires.small)
