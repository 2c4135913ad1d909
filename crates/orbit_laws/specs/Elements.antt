-- What a record of an almanac says of an orbit, as intervals.
use Rattle.std.specs.Prelude.{ℕ, ℤ, pos, ◌+◌, ◌^◌, ◌+ℤ◌, ◌-ℤ◌, ◌*ℤ◌, unsigned_abs}
use Rattle.std.specs.Int.{int_rem_euclid}
use Rattle.whole_numbers.specs.Rounding.{floor_of, ceil_of}
use Rattle.raim_model.specs.declared.almanac.AlmRecord.{AlmRecord}
use Rattle.raim_model.specs.Constants.{week_ms}
use Rattle.fix_interval.specs.Ends.{Ends}
use Rattle.fix_interval.specs.Sums.{sub_of}
use Rattle.fix_interval.specs.Products.{mul_of, sqr_wide_of, scale_int_of}
use Rattle.fix_interval.specs.Roots.{sqrt_of}
use Rattle.fix_interval.specs.Decimals.{from_dec_of, dec56_milli_of}
use Rattle.fix_interval.specs.Quotients.{scale_of}
use Rattle.fix_interval.specs.Ranges.{point}
use Rattle.trig_laws.specs.Quarter.{turn_parts}
use Rattle.orbit_laws.specs.Angles.{turns_of, rate_of, earth_rate}

-- the product of what is not negative, k binary places fewer and rounded outward
unfoldable pub product_of : (k : ℕ) → Ends → Ends → Ends
product_of k a b = record { lo = floor_of (a.lo *ℤ b.lo) (2 ^ k); hi = ceil_of (a.hi *ℤ b.hi) (2 ^ k) }

-- the square root of the semi-major axis, in roots of megametres, at scale 56
unfoldable pub semi_major_root_of : AlmRecord → Ends
semi_major_root_of rec = dec56_milli_of rec.sqrt_a

-- the semi-major axis in megametres, of its root s
unfoldable pub semi_major_axis_of : Ends → Ends
semi_major_axis_of s = product_of 74 s s

-- its power of three halves, at scale 56
unfoldable pub cube_of : Ends → Ends
cube_of s = product_of 56 (product_of 56 s s) s

-- the root of the Earth's gravitational constant over that of a turn in radians, in units of 2^-132, rounded down: the greatest
-- whole number k with (k P)^2 <= 3986005 10^10 2^264, for the P / 10^13 radians of a turn
abbrev pub motion_units : ℕ
motion_units = 17300094636726601251629613198629222

-- the mean motion in turns per millisecond at scale 76, for the power of three halves c of the semi-major axis: a unit
-- outward, for the roots that the model admits
unfoldable pub motion_of : Ends → Ends
motion_of c = record {
  lo = floor_of (pos motion_units) (unsigned_abs c.hi) -ℤ pos 1;
  hi = ceil_of (pos (motion_units + 1)) (unsigned_abs c.lo) +ℤ pos 1;
}

-- an eccentricity over the radians of a turn
unfoldable pub in_turns_of : Ends → Ends
in_turns_of e = scale_of e (10 ^ 13) turn_parts

-- the semi-minor axis over the semi-major one, of the eccentricity e
unfoldable pub axis_ratio_of : Ends → Ends
axis_ratio_of e = sqrt_of (sub_of (point (pos (2 ^ 76))) (sqr_wide_of e))

-- the milliseconds of its week at the time of applicability
abbrev pub week_time : AlmRecord → ℤ
week_time rec = int_rem_euclid rec.toa_ms (pos week_ms)

-- scale 38 where no other is named
pub record Elements : Type 0 where
  -- the semi-major axis in megametres
  pub semi_major_axis : Ends
  -- the mean motion in turns per millisecond, at scale 76
  pub motion : Ends
  pub eccentricity : Ends
  -- the same over the radians of a turn
  pub in_turns : Ends
  -- the semi-minor axis in megametres
  pub semi_minor_axis : Ends
  -- the mean anomaly at the time of applicability, the node at the week's begin, the perigee and the inclination, in turns
  pub mean_anomaly : Ends
  pub node : Ends
  pub perigee : Ends
  pub inclination : Ends
  -- the drift of the node relative to the turning Earth, in turns per millisecond at scale 76
  pub drift : Ends
  -- the Earth's turn from the start of the week up to the time of applicability, at scale 76
  pub turned : Ends

unfoldable pub elements_of : AlmRecord → Elements
elements_of rec = record {
  semi_major_axis = semi_major_axis_of (semi_major_root_of rec);
  motion = motion_of (cube_of (semi_major_root_of rec));
  eccentricity = from_dec_of rec.e;
  in_turns = in_turns_of (from_dec_of rec.e);
  semi_minor_axis = mul_of (semi_major_axis_of (semi_major_root_of rec)) (axis_ratio_of (from_dec_of rec.e));
  mean_anomaly = turns_of rec.m0;
  node = turns_of rec.omega0;
  perigee = turns_of rec.perigee;
  inclination = turns_of rec.incl;
  drift = sub_of (rate_of rec.rate) (rate_of earth_rate);
  turned = scale_int_of (rate_of earth_rate) (week_time rec) (week_time rec);
}
