-- The four texts that a demonstration judges, made from its number.
use Rattle.std.specs.Prelude.{◌==◌, zero, suc, ◌+◌, ◌-◌, ◌*◌, ◌/◌, ◌%◌, ℕ, nat_lt, [], ◌∷◌, ◌++◌, codes, decimal, if◌then◌else◌}
use Rattle.text_lines.specs.Lines.{Text}
use Rattle.gps_week.specs.TimeText.{four_digits}

-- a line, with the line feed that ends it
abbrev pub line : Text → Text
line text = text ++ 10 ∷ []

-- the limits
abbrev pub demo_limits : Text
demo_limits = line (codes "leap 18") ++ line (codes "mask 5") ++ line (codes "alert approach") ++ line (codes "bias 5 100000")

-- satellite 5 is out for two minutes
abbrev pub demo_outages : Text
demo_outages = line (codes "05 2024-10-27T00:02:00.000Z 2024-10-27T00:04:00.000Z")

-- ten minutes, at a height of 10 km
abbrev pub demo_route : Text
demo_route = line (codes "2024-10-27T00:00:00.000Z 70 0 10000") ++ line (codes "2024-10-27T00:10:00.000Z 71 3 10000")

-- a number of ten-thousandths with four decimals
abbrev pub decimals_text : ℕ → Text
decimals_text n = decimal (n / 10000) ++ codes "." ++ four_digits (n % 10000)

-- The mean anomaly of satellite k, from 0 to 23, in ten-thousandths of a half turn above -1: the satellites
-- of a plane are a quarter turn apart, each plane is shifted by 0.0833 half turns, and each number by 0.0037.
abbrev pub anomaly_of : ℕ → ℕ → ℕ
anomaly_of number k = (5000 * (k % 4) + 833 * (k / 4) + 37 * (number % 1000)) % 20000

-- the half turns themselves, from -1 to below 1
abbrev pub anomaly_text : ℕ → Text
anomaly_text above = if nat_lt above 10000 then codes "-" ++ decimals_text (10000 - above) else decimals_text (above - 10000)

-- the right ascension of a plane's ascending node, in half turns
abbrev pub node_text : ℕ → Text
node_text plane =
    if plane == 0 then codes "0.0000"
    else (if plane == 1 then codes "0.3333"
    else (if plane == 2 then codes "0.6667"
    else (if plane == 3 then codes "1.0000"
    else (if plane == 4 then codes "-0.6667" else codes "-0.3333"))))

-- the eight lines of a record: PRN, vehicle, range accuracy, shape, plane, phase, health, configuration
abbrev pub record_lines : Text → Text → Text → Text
record_lines prn node anomaly =
    line prn ++ line prn ++ line (codes "0") ++ line (codes "0.01 0.0056 -2.6E-09") ++ line (codes "5153.6 " ++ node ++ codes " 0.0")
    ++ line (anomaly ++ codes " 0.0 0.0") ++ line (codes "0") ++ line (codes "9")

-- those of satellite k, whose PRN is k + 1
abbrev pub record_text : ℕ → ℕ → Text
record_text number k = record_lines (decimal (k + 1)) (node_text (k / 4)) (anomaly_text (anomaly_of number k))

-- the lines of the first satellites, so many
abbrev pub records_text : ℕ → ℕ → Text
records_text number zero = []
records_text number (suc k) = records_text number k ++ record_text number k

-- the almanac, in the SEM form
abbrev pub demo_almanac : ℕ → Text
demo_almanac number = line (codes "24 DEMO") ++ line (codes "2338 0") ++ records_text number 24
