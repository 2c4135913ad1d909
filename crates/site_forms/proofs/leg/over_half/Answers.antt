use Rattle.std.proofs.Common.{◌*◌, ◌^◌}
use lib.Dec.{lit≤}
use Rattle.time_forms.proofs.Bits.{wider_bits}
use Rattle.angle_forms.proofs.Fits.{product_bound, product-plain}
use Rattle.site_forms.proofs.leg.over_half.Goals as goal

pub returns-clause-value : goal.returns-clause-value
returns-clause-value c =
    product-plain c.args.growth c.args.half c.ranges.growth c.ranges.half (wider_bits (2 ^ 42 * 2 ^ 40) (2 ^ 126) (lit≤ tt) (product_bound c.args.growth c.args.half (2 ^ 42) (2 ^ 40) c.requires.growth_small c.requires.half_small))

pub returns-clause-small : goal.returns-clause-small
returns-clause-small c = rw (returns-clause-value c) (wider_bits (2 ^ 42 * 2 ^ 40) (2 ^ 82) (lit≤ tt) (product_bound c.args.growth c.args.half (2 ^ 42) (2 ^ 40) c.requires.growth_small c.requires.half_small))
