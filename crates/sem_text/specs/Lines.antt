-- The lines of a SEM almanac in their order: two of the whole, and then eight for each record; and what each of them says.
use Rattle.std.specs.Prelude.{ℕ, ℤ, pos, Bool, true, false, List, [], ◌∷◌, Option, Some, None, Result, Ok, nat_lt}
use Rattle.raim_model.specs.declared.TextWhy.{TextWhy}
use Rattle.raim_model.specs.declared.TextWhy.TheVariants as why
use Rattle.raim_model.specs.declared.Dec.{Dec}
use Rattle.raim_model.specs.declared.AlmRecord.{AlmRecord}
use Rattle.raim_model.specs.declared.Angle.TheVariants.{Semi, Semi30}
use Rattle.raim_model.specs.Decimal.{decimal}
use Rattle.text_lines.specs.Lines.{Text}
use Rattle.text_lines.specs.Words.{words_of, only_of, pair_of, triple_of}
use Rattle.text_lines.specs.Fields.{◌>>=◌, unless, or_else, any_whole, whole_in}
use Rattle.dec_text.specs.DecimalFields.{any_decimal, in_bounds}
use Rattle.almanac_fields.specs.Times.{whole_ms_of, toa_of}
use Rattle.almanac_draft.specs.declared.Begun.{Begun}
use Rattle.almanac_draft.specs.Forms.{made}
use Rattle.sem_text.specs.declared.line.SemLine.{SemLine}
use Rattle.sem_text.specs.declared.line.SemLine.TheVariants.{Count, WeekAndTime, Prn, Svn, Ura, EccentricityInclinationRate, SqrtARightAscensionPerigee, MeanAnomalyAndClock, Health, Configuration}

-- the line that follows; a record ends behind its configuration
abbrev pub next_of : SemLine → Option SemLine
next_of Count = Some WeekAndTime
next_of WeekAndTime = Some Prn
next_of Prn = Some Svn
next_of Svn = Some Ura
next_of Ura = Some EccentricityInclinationRate
next_of EccentricityInclinationRate = Some SqrtARightAscensionPerigee
next_of SqrtARightAscensionPerigee = Some MeanAnomalyAndClock
next_of MeanAnomalyAndClock = Some Health
next_of Health = Some Configuration
next_of Configuration = None

-- a record begins with its PRN
abbrev pub is_prn : SemLine → Bool
is_prn Prn = true
is_prn _ = false

abbrev pub zero : Dec
zero = decimal false 0 0

-- what stands before the first line: each line takes its place with its own values, and the others are in their ranges
abbrev pub nothing : Begun
nothing = record {
  declared = None;
  time = 0;
  values = record {
    prn = 1;
    health = 0;
    e = zero;
    toa_ms = pos 0;
    incl = Semi30 zero;
    rate = Semi zero;
    sqrt_a = decimal false 4000 0;
    omega0 = Semi zero;
    perigee = Semi zero;
    m0 = Semi zero;
  };
}

abbrev pub first_word_of : List Text → Option Text
first_word_of [] = None
first_word_of (word ∷ words) = Some word

-- 1 to 32 records; a name may follow
abbrev pub count_of : List Text → Result ℕ TextWhy
count_of words = do
  word ← or_else why.Label (first_word_of words)
  whole_in 1 32 word

-- both are numbers, and then each is in its range; the time of applicability is in milliseconds since the GPS epoch
abbrev pub week_and_time_of : (first end : ℕ) → Text → Text → Result ℤ TextWhy
week_and_time_of first end w t = do
  week ← any_whole w
  seconds ← any_decimal t
  unless (nat_lt 9999 week) why.Range (do
    time ← whole_ms_of seconds
    toa_of first end time week)

abbrev pub time_of_applicability_of : (first end : ℕ) → List Text → Result ℤ TextWhy
time_of_applicability_of first end words = do
  pair ← or_else why.Label (pair_of words)
  week_and_time_of first end pair.0 pair.1

-- the PRN of a record, from 1 to 32
abbrev pub prn_of : List Text → Result ℕ TextWhy
prn_of words = do
  word ← or_else why.Label (only_of words)
  whole_in 1 32 word

-- a whole number that is not used
abbrev pub unused_of : List Text → Result ℕ TextWhy
unused_of words = do
  word ← or_else why.Label (only_of words)
  any_whole word

-- three numbers
abbrev pub decimals_in : Text × Text × Text → Result (Dec × Dec × Dec) TextWhy
decimals_in ws = do
  a ← any_decimal ws.0
  b ← any_decimal ws.1
  c ← any_decimal ws.2
  Ok (a, b, c)

abbrev pub three_decimals_of : List Text → Result (Dec × Dec × Dec) TextWhy
three_decimals_of words = do
  ws ← or_else why.Label (triple_of words)
  decimals_in ws

-- eccentricity, inclination above 0.30 semicircles, rate of right ascension
abbrev pub eccentricity_inclination_rate_of : List Text → Result (Dec × Dec × Dec) TextWhy
eccentricity_inclination_rate_of words = do
  ds ← three_decimals_of words
  e ← in_bounds zero (decimal false 3125 5) ds.0
  offset ← in_bounds (decimal true 3 1) (decimal false 7 1) ds.1
  rate ← in_bounds (decimal true 1 6) (decimal false 1 6) ds.2
  Ok (e, offset, rate)

-- an angle of at most 4 semicircles either way
abbrev pub angle_of : Dec → Result Dec TextWhy
angle_of d = in_bounds (decimal true 4 0) (decimal false 4 0) d

-- square root of the semi-major axis, right ascension, argument of perigee
abbrev pub sqrt_a_right_ascension_perigee_of : List Text → Result (Dec × Dec × Dec) TextWhy
sqrt_a_right_ascension_perigee_of words = do
  ds ← three_decimals_of words
  sqrt_a ← in_bounds (decimal false 4000 0) (decimal false 7000 0) ds.0
  right_ascension ← angle_of ds.1
  perigee ← angle_of ds.2
  Ok (sqrt_a, right_ascension, perigee)

-- mean anomaly; two clock terms may be any decimals, and are not used
abbrev pub mean_anomaly_and_clock_of : List Text → Result Dec TextWhy
mean_anomaly_and_clock_of words = do
  ds ← three_decimals_of words
  angle_of ds.0

abbrev pub health_of : List Text → Result ℕ TextWhy
health_of words = do
  word ← or_else why.Label (only_of words)
  whole_in 0 255 word

-- the record that has begun with other values
abbrev pub with : Begun → AlmRecord → Begun
with begun values = record begun { values = values }

-- what is said behind a line of each kind
abbrev pub line_said : (first end : ℕ) → SemLine → Begun → Text → Result Begun TextWhy
line_said first end Count begun line = made (λ n. record begun { declared = Some n }) (count_of (words_of line))
line_said first end WeekAndTime begun line = made (λ z. with begun (record begun.values { toa_ms = z })) (time_of_applicability_of first end (words_of line))
line_said first end Prn begun line = made (λ n. with begun (record begun.values { prn = n })) (prn_of (words_of line))
line_said first end Svn begun line = made (λ n. begun) (unused_of (words_of line))
line_said first end Ura begun line = made (λ n. begun) (unused_of (words_of line))
line_said first end EccentricityInclinationRate begun line = made (λ ds. with begun (record begun.values { e = ds.0; incl = Semi30 ds.1; rate = Semi ds.2 })) (eccentricity_inclination_rate_of (words_of line))
line_said first end SqrtARightAscensionPerigee begun line = made (λ ds. with begun (record begun.values { sqrt_a = ds.0; omega0 = Semi ds.1; perigee = Semi ds.2 })) (sqrt_a_right_ascension_perigee_of (words_of line))
line_said first end MeanAnomalyAndClock begun line = made (λ d. with begun (record begun.values { m0 = Semi d })) (mean_anomaly_and_clock_of (words_of line))
line_said first end Health begun line = made (λ n. with begun (record begun.values { health = n })) (health_of (words_of line))
line_said first end Configuration begun line = made (λ n. begun) (unused_of (words_of line))
