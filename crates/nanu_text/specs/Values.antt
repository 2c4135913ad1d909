-- The values of lines, or the test that refuses them.
use Rattle.std.specs.Prelude.{ℕ, ℤ, ◌==◌, ◌/◌, ◌%◌, ◌||◌, Bool, false, not, Option, Some, None, Result, Ok, Err, length, nat_lt, codes, bytes_eq, if◌then◌else◌}
use Rattle.raim_model.specs.declared.TextWhy.{TextWhy}
use Rattle.raim_model.specs.declared.TextWhy.TheVariants.{Label, Word, Range}
use Rattle.text_lines.specs.Lines.{Text}
use Rattle.text_lines.specs.Words.{words_of, only_of, triple_of}
use Rattle.text_lines.specs.WholeNumber.{number_of, whole_of}
use Rattle.text_lines.specs.Labels.{plain_label, label_and_value}
use Rattle.text_lines.specs.Fields.{◌>>=◌, unless, or_else}
use Rattle.gps_week.specs.TimeReading.{or_time}
use Rattle.gps_week.specs.YearDays.{day_ms_of}
use Rattle.nanu_text.specs.declared.stage.Kind.{Kind}
use Rattle.nanu_text.specs.declared.stage.Kind.TheVariants.{Add, Reschedule, Cancel}

-- a label without its blanks and in lower case is the expected one
abbrev pub is_named : Text → Text → Bool
is_named expected label = bytes_eq (plain_label label) expected

abbrev pub value_named : Text → Text × Text → Result Text TextWhy
value_named expected parts = if is_named expected parts.0 then Ok parts.1 else Err Label

-- the value of a line that has the label
abbrev pub named : Text → Text → Result Text TextWhy
named expected line = do
  parts ← or_else Label (label_and_value line)
  value_named expected parts

-- the number of a word of so many digits
abbrev pub digits_of : ℕ → Text → Option ℕ
digits_of count word = if not (length word == count) then None else number_of count word

abbrev pub is_the : Text → Option Text → Bool
is_the word None = false
is_the word (Some only) = bytes_eq only word

-- the value is this word
abbrev pub is_word : Text → Text → Bool
is_word word value = is_the word (only_of (words_of value))

-- a number of seven digits, and not 0
abbrev pub seven_of : Text → Result ℕ TextWhy
seven_of value = do
  word ← or_else Word (only_of (words_of value))
  number ← or_else Word (digits_of 7 word)
  unless (number == 0) Range (Ok number)

abbrev pub kind_named : Text → Result Kind TextWhy
kind_named word =
    if bytes_eq word (codes "FCSTDV") || bytes_eq word (codes "FCSTMX") || bytes_eq word (codes "UNUSUFN") || bytes_eq word (codes "UNUNOREF") then Ok Add
    else (if bytes_eq word (codes "FCSTRESCD") || bytes_eq word (codes "UNUSABLE") then Ok Reschedule
    else (if bytes_eq word (codes "FCSTCANC") then Ok Cancel else Err Word))

-- the type of a message
abbrev pub kind_of : Text → Result Kind TextWhy
kind_of value = do
  word ← or_else Word (only_of (words_of value))
  kind_named word

-- a PRN from 1 to 32
abbrev pub prn_of : Text → Result ℕ TextWhy
prn_of value = do
  word ← or_else Word (only_of (words_of value))
  prn ← or_else Word (whole_of word)
  unless (nat_lt prn 1 || nat_lt 32 prn) Range (Ok prn)

abbrev pub together : Option ℕ → Option ℕ → Option ℕ → Option (ℕ × ℕ × ℕ)
together (Some year) (Some day) (Some clock) = Some (year, day, clock)
together _ _ _ = None

abbrev pub numbers_of : Option (Text × Text × Text) → Option (ℕ × ℕ × ℕ)
numbers_of None = None
numbers_of (Some words) = together (digits_of 4 words.0) (digits_of 3 words.1) (digits_of 4 words.2)

-- the year, the day of the year, and the hour and minute in four digits
abbrev pub minute_of : Text → Option (ℕ × ℕ × ℕ)
minute_of value = numbers_of (triple_of (words_of value))

-- a time
abbrev pub time_of : Text → Result ℤ TextWhy
time_of value = do
  m ← or_else Word (minute_of value)
  or_time (day_ms_of m.0 m.1 (m.2 / 100) (m.2 % 100))

-- a time, or `UFN` for no end
abbrev pub stop_of : Text → Result (Option ℤ) TextWhy
stop_of value = if is_word (codes "UFN") value then Ok None else (do
  ms ← time_of value
  Ok (Some ms))
