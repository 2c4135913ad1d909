-- The fourteen lines of a YUMA record in their order, and what each of them says.
use Rattle.std.specs.Prelude.{ℕ, ℤ, pos, Bool, true, false, not, List, [], ◌∷◌, Option, Some, None, Result, Ok, Err, codes, nat_eq, if◌then◌else◌}
use Rattle.std.specs.List.{starts_with}
use Rattle.raim_model.specs.declared.TextWhy.{TextWhy}
use Rattle.raim_model.specs.declared.TextWhy.TheVariants as why
use Rattle.raim_model.specs.declared.Dec.{Dec}
use Rattle.raim_model.specs.declared.AlmRecord.{AlmRecord}
use Rattle.raim_model.specs.declared.Angle.TheVariants.{Rad}
use Rattle.raim_model.specs.Decimal.{decimal}
use Rattle.almanac_fields.specs.Times.{whole_ms_of, toa_of}
use Rattle.text_lines.specs.Lines.{Text}
use Rattle.text_lines.specs.Words.{words_of}
use Rattle.text_lines.specs.Fields.{◌>>=◌, unless, labelled, whole_value_in}
use Rattle.dec_text.specs.DecimalFields.{only_word, decimal_between, any_decimal}
use Rattle.almanac_draft.specs.declared.Begun.{Begun}
use Rattle.almanac_draft.specs.Forms.{made}
use Rattle.yuma_text.specs.declared.line.YumaLine.{YumaLine}
use Rattle.yuma_text.specs.declared.line.YumaLine.TheVariants.{Title, Prn, Health, Eccentricity, TimeInWeek, Inclination, RateOfRightAscension, SqrtA, RightAscension, ArgumentOfPerigee, MeanAnomaly, Af0, Af1, Week}

-- how the label begins, in lower case and without blanks; a title has none
abbrev pub label_of : YumaLine → Text
label_of Title = []
label_of Prn = codes "id"
label_of Health = codes "health"
label_of Eccentricity = codes "eccentricity"
label_of TimeInWeek = codes "timeofapplicability"
label_of Inclination = codes "orbitalinclination"
label_of RateOfRightAscension = codes "rateofrightascen"
label_of SqrtA = codes "sqrt(a)"
label_of RightAscension = codes "rightascen"
label_of ArgumentOfPerigee = codes "argumentofperigee"
label_of MeanAnomaly = codes "meananom"
label_of Af0 = codes "af0"
label_of Af1 = codes "af1"
label_of Week = codes "week"

-- the line that follows; a record ends behind its week
abbrev pub next_of : YumaLine → Option YumaLine
next_of Title = Some Prn
next_of Prn = Some Health
next_of Health = Some Eccentricity
next_of Eccentricity = Some TimeInWeek
next_of TimeInWeek = Some Inclination
next_of Inclination = Some RateOfRightAscension
next_of RateOfRightAscension = Some SqrtA
next_of SqrtA = Some RightAscension
next_of RightAscension = Some ArgumentOfPerigee
next_of ArgumentOfPerigee = Some MeanAnomaly
next_of MeanAnomaly = Some Af0
next_of Af0 = Some Af1
next_of Af1 = Some Week
next_of Week = None

abbrev pub is_title : YumaLine → Bool
is_title Title = true
is_title _ = false

abbrev pub is_prn : YumaLine → Bool
is_prn Prn = true
is_prn _ = false

abbrev pub zero : Dec
zero = decimal false 0 0

-- what stands before the first line: each line of a record takes its place with its own value, and the others are in
-- their ranges
abbrev pub nothing : Begun
nothing = record {
  declared = None;
  time = 0;
  values = record {
    prn = 1;
    health = 0;
    e = zero;
    toa_ms = pos 0;
    incl = Rad zero;
    rate = Rad zero;
    sqrt_a = decimal false 4000 0;
    omega0 = Rad zero;
    perigee = Rad zero;
    m0 = Rad zero;
  };
}

abbrev pub begins_with_star : List Text → Bool
begins_with_star [] = false
begins_with_star (word ∷ words) = starts_with nat_eq word (codes "*")

-- a title begins with a star, and its rest is free
abbrev pub title_of : Begun → Text → Result Begun TextWhy
title_of begun line = unless (not (begins_with_star (words_of line))) why.Label (Ok begun)

-- a value from low to high
abbrev pub decimal_value : Dec → Dec → Text → Result Dec TextWhy
decimal_value low high value = do
  word ← only_word value
  decimal_between low high word

abbrev pub eccentricity_of : Text → Result Dec TextWhy
eccentricity_of value = decimal_value zero (decimal false 3125 5) value

-- the time of applicability in the week, in milliseconds
abbrev pub time_of : Text → Result ℕ TextWhy
time_of value = do
  word ← only_word value
  d ← any_decimal word
  whole_ms_of d

abbrev pub inclination_of : Text → Result Dec TextWhy
inclination_of value = decimal_value zero (decimal false 31415926535898 13) value

abbrev pub rate_of : Text → Result Dec TextWhy
rate_of value = decimal_value (decimal true 1 6) (decimal false 1 6) value

abbrev pub sqrt_a_of : Text → Result Dec TextWhy
sqrt_a_of value = decimal_value (decimal false 4000 0) (decimal false 7000 0) value

-- an angle of at most 10 rad either way
abbrev pub angle_of : Text → Result Dec TextWhy
angle_of value = decimal_value (decimal true 10 0) (decimal false 10 0) value

-- a clock term may be any decimal, and is not used
abbrev pub clock_of : Text → Result Dec TextWhy
clock_of value = do
  word ← only_word value
  any_decimal word

-- the week, with which the time of applicability is known, in milliseconds since the GPS epoch
abbrev pub week_of : (first end time : ℕ) → Text → Result ℤ TextWhy
week_of first end time value = do
  week ← whole_value_in 0 9999 value
  toa_of first end time week

-- the record with what a value says of it
abbrev pub with : {A : Type 0} → Begun → (AlmRecord → A → AlmRecord) → Result A TextWhy → Result Begun TextWhy
with begun put value = made (λ x. record begun { values = put begun.values x }) value

-- the value of a line of each kind
abbrev pub value_said : (first end : ℕ) → YumaLine → Begun → Text → Result Begun TextWhy
value_said first end Title begun value = Err why.Label
value_said first end Prn begun value = with begun (λ r x. record r { prn = x }) (whole_value_in 1 32 value)
value_said first end Health begun value = with begun (λ r x. record r { health = x }) (whole_value_in 0 255 value)
value_said first end Eccentricity begun value = with begun (λ r d. record r { e = d }) (eccentricity_of value)
value_said first end TimeInWeek begun value = made (λ x. record begun { time = x }) (time_of value)
value_said first end Inclination begun value = with begun (λ r d. record r { incl = Rad d }) (inclination_of value)
value_said first end RateOfRightAscension begun value = with begun (λ r d. record r { rate = Rad d }) (rate_of value)
value_said first end SqrtA begun value = with begun (λ r d. record r { sqrt_a = d }) (sqrt_a_of value)
value_said first end RightAscension begun value = with begun (λ r d. record r { omega0 = Rad d }) (angle_of value)
value_said first end ArgumentOfPerigee begun value = with begun (λ r d. record r { perigee = Rad d }) (angle_of value)
value_said first end MeanAnomaly begun value = with begun (λ r d. record r { m0 = Rad d }) (angle_of value)
value_said first end Af0 begun value = made (λ d. begun) (clock_of value)
value_said first end Af1 begun value = made (λ d. begun) (clock_of value)
value_said first end Week begun value = with begun (λ r z. record r { toa_ms = z }) (week_of first end begun.time value)

-- a title, or the label that is expected and its value
abbrev pub line_said : (first end : ℕ) → YumaLine → Begun → Text → Result Begun TextWhy
line_said first end k begun line = if is_title k then title_of begun line else (do
  value ← labelled (label_of k) line
  value_said first end k begun value)
