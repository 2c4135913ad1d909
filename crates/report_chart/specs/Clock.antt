-- Times of day and lengths, exact to the millisecond. A time is in milliseconds of UTC since 1980-01-06T00:00Z,
-- never before, so each hour begins at a multiple of 3,600,000.
use Rattle.std.specs.Prelude.{ℕ, ◌/◌, ◌%◌, ℤ, unsigned_abs, ◌++◌, codes, decimal}
use Rattle.text_lines.specs.Lines.{Text}
use Rattle.gps_week.specs.TimeText.{two_digits, three_digits}

abbrev pub hour_ms : ℕ
hour_ms = 3600000

-- behind whole hours, :MM:SS.mmm
unfoldable pub in_hour_text : ℕ → Text
in_hour_text ms = codes ":" ++ two_digits (ms / 60000 % 60) ++ codes ":" ++ two_digits (ms / 1000 % 60) ++ codes "." ++ three_digits (ms % 1000)

-- the time of day, HH:MM:SS.mmm
unfoldable pub clock_text : ℤ → Text
clock_text t = two_digits (unsigned_abs t / hour_ms % 24) ++ in_hour_text (unsigned_abs t)

-- how long so many milliseconds last, H:MM:SS.mmm
unfoldable pub lasting_text : ℕ → Text
lasting_text ms = decimal (ms / hour_ms) ++ in_hour_text ms
