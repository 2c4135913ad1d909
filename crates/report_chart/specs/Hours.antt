-- The hours below the band of a flight: each whole hour of UTC from its first time to its end, at its place.
use Rattle.std.specs.Prelude.{ℕ, zero, suc, ◌+◌, ◌-◌, ◌*◌, ◌/◌, ◌%◌, ℤ, pos, ◌≤ℤ◌, ◌<ℤ◌, ◌+ℤ◌, unsigned_abs, [], ◌++◌, codes, decimal}
use Rattle.raim_model.specs.Constants.{day_ms}
use Rattle.raim_model.specs.declared.span.Span.{Span}
use Rattle.text_lines.specs.Lines.{Text}
use Rattle.gps_week.specs.TimeText.{two_digits}
use Rattle.report_chart.specs.Clock.{hour_ms}
use Rattle.report_chart.specs.Band.{place}

-- the number of the first whole hour at or after a time, counted from 1980-01-06T00:00Z
abbrev pub hour_from : ℤ → ℕ
hour_from t = (unsigned_abs t + (hour_ms - 1)) / hour_ms

-- the number of the last whole hour at or before a time
abbrev pub hour_until : ℤ → ℕ
hour_until t = unsigned_abs t / hour_ms

-- the mark of an hour that stands at a place, by its number in its day
abbrev pub mark : ℕ → ℕ → Text
mark x hour = codes "<li style=--x:" ++ decimal x ++ codes ">" ++ two_digits (hour % 24) ++ codes "\n"

abbrev pub hour_mark : Span → ℕ → Text
hour_mark span hour = mark (place span (pos (hour_ms * hour))) hour

-- so many hours, from one on
abbrev pub hour_marks : Span → ℕ → ℕ → Text
hour_marks span hour zero = []
hour_marks span hour (suc n) = hour_marks span hour n ++ hour_mark span (hour + n)

abbrev pub hours : Span → Text
hours span =
    codes "<ol class=hours>\n" ++ hour_marks span (hour_from span.first) (hour_until span.end + 1 - hour_from span.first)
    ++ codes "</ol>\n<p class=utc>hours of UTC\n"

-- a flight of some length and a day at most, from the epoch on
pub record IsFlightSpan (span : Span) : Type 0 where
  pub epoch : pos 0 ≤ℤ span.first
  pub forward : span.first <ℤ span.end
  pub short : span.end ≤ℤ (span.first +ℤ pos day_ms)
