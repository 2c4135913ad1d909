-- Angles in turns and rates in turns per millisecond, as intervals.
use Rattle.std.specs.Prelude.{pos, neg_ℤ, ◌*◌, ◌^◌, false}
use Rattle.fractions.specs.Fraction.{whole}
use Rattle.raim_model.specs.declared.decimal.Dec.{Dec}
use Rattle.raim_model.specs.declared.decimal.Angle.{Angle}
use Rattle.raim_model.specs.declared.decimal.Angle.TheVariants.{Rad, Semi, Semi30}
use Rattle.raim_model.specs.Decimal.{decimal}
use Rattle.raim_model.specs.AlmanacRanges.{slowest_drift, fastest_drift}
use Rattle.raim_model.specs.Ranges.{IsDecimalBetween}
use Rattle.fix_interval.specs.Ends.{Ends}
use Rattle.fix_interval.specs.Sums.{add_of}
use Rattle.fix_interval.specs.Quotients.{div_int_of, scale_of}
use Rattle.fix_interval.specs.Decimals.{dec76_of}
use Rattle.trig_laws.specs.Quarter.{turn_parts}

-- an angle whose decimal is from -10 to 10
abbrev pub IsAngle : Angle → Type 0
IsAngle (Rad d) = IsDecimalBetween (whole (neg_ℤ (pos 10))) (whole (pos 10)) d
IsAngle (Semi d) = IsDecimalBetween (whole (neg_ℤ (pos 10))) (whole (pos 10)) d
IsAngle (Semi30 d) = IsDecimalBetween (whole (neg_ℤ (pos 10))) (whole (pos 10)) d

-- a rate of at most a millionth per second either way, in radians or in semicircles
abbrev pub IsRate : Angle → Type 0
IsRate (Rad d) = IsDecimalBetween slowest_drift fastest_drift d
IsRate (Semi d) = IsDecimalBetween slowest_drift fastest_drift d
IsRate (Semi30 d) = ⊥

-- 0.30
abbrev pub three_tenths : Dec
three_tenths = decimal false 3 1

-- the semicircles of d above 0.30, at scale 76
unfoldable pub above_three_tenths : Dec → Ends
above_three_tenths d = add_of (dec76_of d) (dec76_of three_tenths)

-- an angle in turns, at scale 38
unfoldable pub turns_of : Angle → Ends
turns_of (Rad d) = scale_of (dec76_of d) (10 ^ 13) (turn_parts * 2 ^ 38)
turns_of (Semi d) = div_int_of (dec76_of d) (2 ^ 39)
turns_of (Semi30 d) = div_int_of (above_three_tenths d) (2 ^ 39)

-- a rate, which is given per second, in turns per millisecond at scale 76
unfoldable pub rate_of : Angle → Ends
rate_of (Rad d) = scale_of (dec76_of d) (10 ^ 10) turn_parts
rate_of (Semi d) = div_int_of (dec76_of d) 2000
rate_of (Semi30 d) = div_int_of (above_three_tenths d) 2000

-- the Earth's rotation rate of IS-GPS-200, 7.2921151467 x 10^-5 rad/s
abbrev pub earth_rate : Angle
earth_rate = Rad (decimal false 72921151467 15)
