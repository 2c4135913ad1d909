-- The constants of the program, and that each is an interval.
use Rattle.std.specs.Prelude.{◌≡◌, pos, ◌≤ℤ◌, refl}
use Rattle.fix_interval.specs.Ends.{Ends}
use Rattle.fix_interval.specs.Quotients.{from_ratio_of, outward_of}
use Rattle.fix_interval.specs.Sums.{sub_of}
use Rattle.fix_interval.specs.Ranges.{one_ends}
use Rattle.site_laws.specs.Frames.{eccentricity_ends, axis_ends}

pub eccentricity-is : (let e : Ends = record { lo = pos 1840137159; hi = pos 1840137160 } in e ≡ eccentricity_ends)
unfolding from_ratio_of outward_of
eccentricity-is = refl

pub axis-is : (let e : Ends = record { lo = pos 1753208948762; hi = pos 1753208948763 } in e ≡ axis_ends)
unfolding from_ratio_of outward_of
axis-is = refl

pub rest-is : (let e : Ends = record { lo = pos 273037769784; hi = pos 273037769785 } in e ≡ sub_of one_ends eccentricity_ends)
unfolding sub_of from_ratio_of outward_of
rest-is = refl

pub eccentricity_ordered : eccentricity_ends.lo ≤ℤ eccentricity_ends.hi
unfolding from_ratio_of outward_of
eccentricity_ordered = record { le = tt }

pub axis_ordered : axis_ends.lo ≤ℤ axis_ends.hi
unfolding from_ratio_of outward_of
axis_ordered = record { le = tt }

pub rest_ordered : (sub_of one_ends eccentricity_ends).lo ≤ℤ (sub_of one_ends eccentricity_ends).hi
unfolding sub_of from_ratio_of outward_of
rest_ordered = record { le = tt }
