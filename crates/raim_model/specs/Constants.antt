-- The constants of the model, in megametres (Mm), milliseconds and turns.
use Rattle.std.specs.Prelude.{ℕ, pos, ◌^◌}
use Rattle.fractions.specs.Fraction.{Fraction, ratio, whole, ◌-ᶠ◌, ◌*ᶠ◌}
use Rattle.fractions.specs.Inverse.{◌/ᶠ◌}

-- the radians of a turn: twice the pi of IS-GPS-200, 3.1415926535898
abbrev pub tau : Fraction
tau = ratio (pos 62831853071796) (10 ^ 13)

-- the Earth's gravitational constant of IS-GPS-200, 3.986005 x 10^14 m^3/s^2, in Mm^3/ms^2
abbrev pub mu : Fraction
mu = ratio (pos 3986005) (10 ^ 16)

-- the Earth's rotation rate of IS-GPS-200, 7.2921151467 x 10^-5 rad/s, in turns per millisecond
abbrev pub earth_rotation : Fraction
earth_rotation = ratio (pos 72921151467) (10 ^ 15) /ᶠ (whole (pos 1000) *ᶠ tau)

-- the semi-major axis of WGS 84, 6378137 m, in Mm
abbrev pub earth_axis : Fraction
earth_axis = ratio (pos 6378137) (10 ^ 6)

-- the flattening of WGS 84, 1 / 298.257223563
abbrev pub flattening : Fraction
flattening = ratio (pos (10 ^ 9)) 298257223563

-- the squared eccentricity of WGS 84, f (2 - f)
abbrev pub eccentricity_squared : Fraction
eccentricity_squared = flattening *ᶠ (whole (pos 2) -ᶠ flattening)

-- the least determinant of a geometry that counts as regular, 2^-10: this project's own
abbrev pub least_determinant : Fraction
least_determinant = ratio (pos 1) 1024

-- the milliseconds of a week of GPS, and of a day
abbrev pub week_ms : ℕ
week_ms = 604800000

abbrev pub day_ms : ℕ
day_ms = 86400000

-- the milliseconds from the GPS epoch to the end of the year 9999 of UTC, with the most leap seconds that limits may
-- give, 255: no time that is read is later
abbrev pub latest_ms : ℕ
latest_ms = 253086591000000

-- the farthest that a cut of time may be from the GPS epoch, in milliseconds: so differences of two cuts fit 64 bits
abbrev pub farthest_cut_ms : ℕ
farthest_cut_ms = 2 ^ 61
