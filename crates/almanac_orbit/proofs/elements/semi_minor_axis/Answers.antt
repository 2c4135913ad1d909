use Rattle.std.proofs.Common.{◌+◌, ◌*◌, ◌^◌}
use lib.Dec.{lit≤}
use Rattle.fix_interval.specs.Intervals.{ends}
use Rattle.fix_interval.proofs.EndInsides.{mag_from_to, product_most, is_inside}
use Rattle.orbit_laws.proofs.Elements.{ratio_inside}
use Rattle.almanac_orbit.proofs.elements.semi_minor_axis.Goals as goal

pub mul-requires : goal.mul-requires
mul-requires c = product_most (49 * 2 ^ 38) (2 ^ 38 + 2) (2 ^ 126)
    (mag_from_to c.args.semi_major_axis (16 * 2 ^ 38) (49 * 2 ^ 38) c.requires.axis)
    (mag_from_to c.axis_ratio.result 0 (2 ^ 38 + 2) (is_inside c.axis_ratio.result c.axis_ratio.ensures (ratio_inside (ends c.args.eccentricity) c.requires.ratio))) (lit≤ tt)
