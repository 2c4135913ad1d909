-- What a line of a limits file says after those before it, or the first test that refuses it; and what the lines say
-- together: each field is said by the one line of its kind.
use Rattle.std.specs.Prelude.{◌≡◌, ◌==◌, ◌+◌, ◌&&◌, ℕ, Bool, true, false, not, List, [], ◌∷◌, Option, Some, None, is_some, Result, Ok, Err, filter_map, length, nat_lt, nat_le, codes, bytes_eq, if◌then◌else◌, IsPermutation, IsSortedByKey}
use Rattle.std.specs.List.{list_any}
use Rattle.std.specs.Ordering.{nat_cmp}
use Rattle.fractions.specs.Fraction.{is_at_most}
use Rattle.raim_model.specs.declared.TextWhy.{TextWhy}
use Rattle.raim_model.specs.declared.TextWhy.TheVariants as why
use Rattle.raim_model.specs.declared.Dec.{Dec}
use Rattle.raim_model.specs.declared.Limits.{Limits}
use Rattle.raim_model.specs.declared.Weight.{Weight}
use Rattle.raim_model.specs.Decimal.{decimal, value_of}
use Rattle.text_lines.specs.Lines.{Text}
use Rattle.text_lines.specs.Words.{words_of, only_of, pair_of}
use Rattle.text_lines.specs.Fields.{◌>>=◌, unless, or_else, any_whole, in_range, whole_in}
use Rattle.text_lines.specs.Reading.{Format}
use Rattle.dec_text.specs.DecimalFields.{any_decimal, decimal_between}
use Rattle.limits_text.specs.declared.entry.Entry.{Entry}
use Rattle.limits_text.specs.declared.entry.Entry.TheVariants as entry

abbrev pub is_blank : Entry → Bool
is_blank entry.Blank = true
is_blank _ = false

-- what a line of each kind says

abbrev pub leap_in : Entry → Option ℕ
leap_in (entry.Leap seconds) = Some seconds
leap_in _ = None

abbrev pub mask_in : Entry → Option Dec
mask_in (entry.Mask elevation) = Some elevation
mask_in _ = None

abbrev pub alert_in : Entry → Option ℕ
alert_in (entry.Alert mm) = Some mm
alert_in _ = None

-- whether a faulty satellite is to be excluded
abbrev pub mode_in : Entry → Option Bool
mode_in (entry.Mode exclude) = Some exclude
mode_in _ = None

abbrev pub bias_in : Entry → Option ℕ
bias_in (entry.Bias mm) = Some mm
bias_in _ = None

abbrev pub weight_in : Entry → Option Weight
weight_in (entry.Weight weight) = Some weight
weight_in _ = None

-- the first of them, where there is one
abbrev pub first_of : {A : Type 0} → List A → Option A
first_of [] = None
first_of (x ∷ xs) = Some x

-- what the lines before said of each kind; the first bias is that for five satellites
pub record Said : Type 0 where
  pub leap : Option ℕ
  pub mask : Option Dec
  pub alert : Option ℕ
  pub mode : Option Bool
  pub biases : List ℕ
  pub weights : List Weight

abbrev pub said_in : List Entry → Said
said_in entries = record {
  leap = first_of (filter_map leap_in entries);
  mask = first_of (filter_map mask_in entries);
  alert = first_of (filter_map alert_in entries);
  mode = first_of (filter_map mode_in entries);
  biases = filter_map bias_in entries;
  weights = filter_map weight_in entries;
}

-- `leap N`: seconds
abbrev pub leap_entry_of : Said → List Text → Result Entry TextWhy
leap_entry_of said words = do
  word ← or_else why.Word (only_of words)
  unless (is_some said.leap) why.Twice (do
    seconds ← whole_in 0 255 word
    Ok (entry.Leap seconds))

-- `mask D`: degrees above the horizon
abbrev pub mask_entry_of : Said → List Text → Result Entry TextWhy
mask_entry_of said words = do
  word ← or_else why.Word (only_of words)
  unless (is_some said.mask) why.Twice (do
    elevation ← decimal_between (decimal true 90 0) (decimal false 90 0) word
    Ok (entry.Mask elevation))

-- millimetres
abbrev pub length_of : Text → Result ℕ TextWhy
length_of word = whole_in 1 1000000000 word

-- 4, 2, 1 and 0.3 nautical miles, the last rounded to metres: presets after RTCA DO-229; or millimetres
abbrev pub alert_limit_of : Text → Result ℕ TextWhy
alert_limit_of word =
    if bytes_eq word (codes "oceanic") then Ok 7408000
    else (if bytes_eq word (codes "enroute") then Ok 3704000
    else (if bytes_eq word (codes "terminal") then Ok 1852000
    else (if bytes_eq word (codes "approach") then Ok 556000 else length_of word)))

-- `alert N`, or `alert` and a preset
abbrev pub alert_entry_of : Said → List Text → Result Entry TextWhy
alert_entry_of said words = do
  word ← or_else why.Word (only_of words)
  unless (is_some said.alert) why.Twice (do
    mm ← alert_limit_of word
    Ok (entry.Alert mm))

-- whether the mode excludes
abbrev pub exclusion_of : Text → Result Bool TextWhy
exclusion_of word =
    if bytes_eq word (codes "detect") then Ok false
    else (if bytes_eq word (codes "exclude") then Ok true else Err why.Word)

-- `mode detect` or `mode exclude`: another mode is tested before a second one
abbrev pub mode_entry_of : Said → List Text → Result Entry TextWhy
mode_entry_of said words = do
  word ← or_else why.Word (only_of words)
  exclude ← exclusion_of word
  unless (is_some said.mode) why.Twice (Ok (entry.Mode exclude))

-- `bias N MM`: for five satellites, and then for one more each time; both are numbers, and then each is
-- in its range
abbrev pub bias_entry_of : Said → List Text → Result Entry TextWhy
bias_entry_of said words = do
  pair ← or_else why.Word (pair_of words)
  n ← any_whole pair.0
  bias ← any_whole pair.1
  satellites ← in_range 5 32 n
  mm ← in_range 1 1000000000 bias
  unless (not (satellites == 5 + length said.biases)) why.BiasGap (Ok (entry.Bias mm))

-- above 0 and at most 1
abbrev pub share_of : Dec → Result Dec TextWhy
share_of k =
    unless (is_at_most (value_of k) (value_of (decimal false 0 0))) why.Range
    (unless (not (is_at_most (value_of k) (value_of (decimal false 1 0)))) why.Range (Ok k))

-- a satellite that has no weight yet: there are 32 of them
abbrev pub new_weight_entry_of : List Weight → ℕ → Dec → Result Entry TextWhy
new_weight_entry_of weights prn k =
    unless (list_any (λ w. w.prn == prn) weights) why.PrnTwice
    (unless (nat_le 32 (length weights)) why.PrnTwice (Ok (entry.Weight (record { prn = prn; k = k }))))

-- `weight N K`: both are numbers, and then each is in its range
abbrev pub weight_entry_of : Said → List Text → Result Entry TextWhy
weight_entry_of said words = do
  pair ← or_else why.Word (pair_of words)
  n ← any_whole pair.0
  d ← any_decimal pair.1
  prn ← in_range 1 32 n
  k ← share_of d
  new_weight_entry_of said.weights prn k

abbrev pub line_entry_of : Said → Text → List Text → Result Entry TextWhy
line_entry_of said key words =
    if bytes_eq key (codes "leap") then leap_entry_of said words
    else (if bytes_eq key (codes "mask") then mask_entry_of said words
    else (if bytes_eq key (codes "alert") then alert_entry_of said words
    else (if bytes_eq key (codes "mode") then mode_entry_of said words
    else (if bytes_eq key (codes "bias") then bias_entry_of said words
    else (if bytes_eq key (codes "weight") then weight_entry_of said words else Err why.Word)))))

abbrev pub words_entry_of : Said → List Text → Result Entry TextWhy
words_entry_of said [] = Ok entry.Blank
words_entry_of said (key ∷ words) = line_entry_of said key words

abbrev pub entry_of : Said → Text → Result Entry TextWhy
entry_of said line = words_entry_of said (words_of line)

-- leap seconds, a mask, an alert limit, and a bias for five satellites are required
abbrev pub missing_in : Said → Option TextWhy
missing_in said =
    if is_some said.leap && is_some said.mask && is_some said.alert && nat_lt 0 (length said.biases)
    then None else Some why.Missing

abbrev pub limits_lines : Format Entry TextWhy
limits_lines = record {
  says = λ entries line. entry_of (said_in entries) line;
  at_end = λ entries. missing_in (said_in entries);
  is_blank = is_blank;
}

-- the one mode that is said, and detection where none is
abbrev pub IsMode : List Bool → Bool → Type 0
IsMode [] exclude = exclude ≡ false
IsMode (mode ∷ []) exclude = mode ≡ exclude
IsMode (mode ∷ other ∷ modes) exclude = ⊥

-- these limits are said, each by the one line of its kind; a bias and a weight by each line of theirs
pub record IsSaid (entries : List Entry) (limits : Limits) : Type 0 where
  pub leap : filter_map leap_in entries ≡ limits.leap ∷ []
  pub mask : filter_map mask_in entries ≡ limits.mask ∷ []
  pub alert : filter_map alert_in entries ≡ limits.alert_mm ∷ []
  pub mode : IsMode (filter_map mode_in entries) limits.exclude
  pub biases : filter_map bias_in entries ≡ limits.bias_mm.items
  pub weights : IsPermutation (filter_map weight_in entries) limits.weights.items
  pub rising : IsSortedByKey (λ weight. weight.prn) nat_cmp limits.weights.items
