use Rattle.std.proofs.Common.{◌*◌, ◌^◌}
use lib.Dec.{lit≤}
use Rattle.fix_interval.specs.Intervals.{ends}
use Rattle.fix_interval.proofs.EndInsides.{mag_around, product_most, is_inside}
use Rattle.orbit_laws.proofs.Positions.{turned_inside}
use Rattle.almanac_orbit.proofs.place.part.Goals as goal

pub mul-requires : goal.mul-requires
mul-requires c = product_most (101 * 2 ^ 38) (2 ^ 38) (2 ^ 126) (mag_around c.args.x (101 * 2 ^ 38) c.requires.x_small) (mag_around c.args.s (2 ^ 38) c.requires.unit) (lit≤ tt)

pub returns-clause-small : goal.returns-clause-small
returns-clause-small c = is_inside c.mul.result c.mul.ensures.exact (turned_inside (ends c.args.x) (ends c.args.s) c.requires.x_small c.requires.unit)
