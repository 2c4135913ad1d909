use Rattle.std.proofs.Common.{◌+◌, ◌*◌, ◌^◌, refl}
use lib.Dec.{lit≤}
use Rattle.fix_interval.proofs.EndSums.{sub_isotone}
use Rattle.fix_interval.specs.Ranges.{full_ends}
use Rattle.fix_interval.proofs.EndInsides.{inside_trans, mag_around, mag_from_to, product_most, is_inside}
use Rattle.orbit_laws.specs.Sizes.{eccentricity_ends}
use Rattle.orbit_laws.proofs.Positions.{cosine_less_widest}
use Rattle.almanac_orbit.proofs.place.perifocal_x.Goals as goal

pub mul-requires : goal.mul-requires
mul-requires c =
    let d = is_inside c.sub.result c.sub.ensures.exact (inside_trans (sub_isotone refl full_ends eccentricity_ends c.requires.unit c.requires.ratio) cosine_less_widest) in
    product_most (49 * 2 ^ 38) (2 ^ 38 + 2 ^ 33) (2 ^ 126) (mag_from_to c.args.semi_major_axis (16 * 2 ^ 38) (49 * 2 ^ 38) c.requires.axis) (mag_around c.sub.result (2 ^ 38 + 2 ^ 33) d) (lit≤ tt)
