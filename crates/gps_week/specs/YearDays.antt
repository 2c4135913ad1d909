-- Days of a year, by their place in it.
use Rattle.std.specs.Prelude.{◌≡◌, ℕ, ◌+◌, ◌-◌, ◌*◌, ◌&&◌, Bool, true, nat_le, nat_lt, Result, Err, ℤ, pos, ◌+ℤ◌, ◌*ℤ◌, if◌then◌else◌}
use Rattle.jiff_core.specs.Calendar.{days_in_year, day_of_year}
use Rattle.raim_model.specs.Constants.{day_ms as ms_a_day}
use Rattle.gps_week.specs.declared.civil_time.CivilDate.{CivilDate}
use Rattle.gps_week.specs.declared.civil_time.CivilTime.{CivilTime}
use Rattle.gps_week.specs.declared.gps_time.TimeFault.{TimeFault}
use Rattle.gps_week.specs.declared.gps_time.TimeFault.TheVariants.{BadDate}
use Rattle.gps_week.specs.GpsTime.{gps_day, Exists, ms_since_epoch}
use Rattle.gps_week.specs.TimeReading.{gps_ms_of}

abbrev pub new_year : ℕ → CivilDate
new_year year = record { year = year; month = 1; day = 1 }

-- the days from 6 January 1980 to a day of a year, the first of which is 1
abbrev pub gps_year_day : ℕ → ℕ → ℤ
gps_year_day year day = gps_day (new_year year) +ℤ pos (day - 1)

-- the year has the day, and a clock shows the time
abbrev pub is_minute : ℕ → ℕ → ℕ → ℕ → Bool
is_minute year day hour minute = nat_le 1 day && nat_le day (days_in_year (pos year)) && nat_lt hour 24 && nat_lt minute 60

-- the milliseconds of UTC from 1980-01-06T00:00:00.000Z to the minute
abbrev pub ms_of_minute : ℕ → ℕ → ℕ → ℕ → ℤ
ms_of_minute year day hour minute = pos ms_a_day *ℤ gps_year_day year day +ℤ pos ((hour * 60 + minute) * 60000)

abbrev pub day_ms_of : ℕ → ℕ → ℕ → ℕ → Result ℤ TimeFault
day_ms_of year day hour minute = if is_minute year day hour minute then gps_ms_of 0 (ms_of_minute year day hour minute) else Err BadDate

-- the place of a date in its year, the first of which is 1
abbrev pub year_day : CivilDate → ℕ
year_day d = day_of_year (pos d.year) d.month d.day

-- a time of whole minutes
pub record IsWholeMinute (c : CivilTime) : Type 0 where
  pub exists : Exists c
  pub second : c.time.second ≡ 0
  pub millisecond : c.time.millisecond ≡ 0

-- each such time is a minute of a day of its year
abbrev pub MinutesAreOfTheirYear : Type 0
MinutesAreOfTheirYear = (c : CivilTime) → IsWholeMinute c → is_minute c.date.year (year_day c.date) c.time.hour c.time.minute ≡ true

-- and the same instant by its date
abbrev pub MinutesAreOfTheirDate : Type 0
MinutesAreOfTheirDate = (c : CivilTime) → IsWholeMinute c → ms_of_minute c.date.year (year_day c.date) c.time.hour c.time.minute ≡ ms_since_epoch c
