use Rattle.std.proofs.Common.{◌*◌, ◌^◌}
use Rattle.slope_test.proofs.Products.{as_small, horizontal_not_negative, vertical_not_negative}
use Rattle.slope_test.proofs.slope.squared.Goals as goal

pub returns-in-Horizontal-clause-not_negative : goal.returns-in-Horizontal-clause-not_negative
returns-in-Horizontal-clause-not_negative c =
    horizontal_not_negative c.in_64_bits.result c.in_64_bits-in-Horizontal.result c.horizontal.result
    (as_small c.alpha_east.result c.in_64_bits.result (7 * 2 ^ 55) c.in_64_bits.ensures c.alpha_east.ensures.small)
    (as_small c.alpha_north.result c.in_64_bits-in-Horizontal.result (7 * 2 ^ 55) c.in_64_bits-in-Horizontal.ensures c.alpha_north.ensures.small) c.horizontal.ensures

pub returns-in-Vertical-clause-not_negative : goal.returns-in-Vertical-clause-not_negative
returns-in-Vertical-clause-not_negative c =
    vertical_not_negative c.in_64_bits-in-Vertical.result c.vertical.result (as_small c.alpha_up.result c.in_64_bits-in-Vertical.result (7 * 2 ^ 55) c.in_64_bits-in-Vertical.ensures c.alpha_up.ensures.small) c.vertical.ensures
