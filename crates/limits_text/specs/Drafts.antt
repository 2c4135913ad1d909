-- What is kept of the lines of a limits file so far.
use Rattle.std.specs.Prelude.{◌≡◌, ◌≢◌, ◌==◌, ◌<◌, pos, neg_ℤ, Bool, false, List, ◌++◌, Option, Some, None, filter_map, length, All, AllPairs, IfSome, IsPermutation, IsSortedByKey}
use Rattle.std.specs.List.{list_any}
use Rattle.std.specs.Option.{option_to_list}
use Rattle.std.specs.Ordering.{nat_cmp}
use Rattle.fractions.specs.Fraction.{whole, zeroᶠ, oneᶠ, ◌≤ᶠ◌, ◌<ᶠ◌}
use Rattle.raim_model.specs.declared.Dec.{Dec}
use Rattle.raim_model.specs.declared.Limits.{Limits}
use Rattle.raim_model.specs.declared.Weight.{Weight}
use Rattle.raim_model.specs.Decimal.{IsCanonical, value_of}
use Rattle.raim_model.specs.Ranges.{IsDecimalBetween, IsLength, IsWeight, IsLimits}
use Rattle.limits_text.specs.declared.entry.Entry.{Entry}
use Rattle.limits_text.specs.declared.entry.Entry.TheVariants as entry
use Rattle.limits_text.specs.declared.draft.Draft.{Draft}
use Rattle.limits_text.specs.Limits.{Said, IsSaid, leap_in, mask_in, alert_in, mode_in, bias_in, weight_in}

abbrev pub said_by : Draft → Said
said_by draft = record {
  leap = draft.leap;
  mask = draft.mask;
  alert = draft.alert;
  mode = draft.mode;
  biases = draft.biases.items;
  weights = draft.weights.items;
}

-- a decimal above 0 and at most 1
pub record IsShare (k : Dec) : Type 0 where
  pub canonical : IsCanonical k
  pub above : zeroᶠ <ᶠ value_of k
  pub at_most : value_of k ≤ᶠ oneᶠ

-- what the tests of a line have made sure of
abbrev pub Fits : Said → Entry → Type 0
Fits said entry.Blank = Unit {0}
Fits said (entry.Leap seconds) = said.leap ≡ None
Fits said (entry.Mask elevation) = (said.mask ≡ None) × IsDecimalBetween (whole (neg_ℤ (pos 90))) (whole (pos 90)) elevation
Fits said (entry.Alert mm) = (said.alert ≡ None) × IsLength mm
Fits said (entry.Mode exclude) = said.mode ≡ None
Fits said (entry.Bias mm) = (length said.biases < 28) × IsLength mm
Fits said (entry.Weight weight) = (length said.weights < 32) × IsWeight weight × (list_any (λ w. w.prn == weight.prn) said.weights ≡ false)

-- a weight of a satellite that has none, where there is room for one more
abbrev pub WeighsNew : List Weight → Entry → Type 0
WeighsNew weights (entry.Weight weight) = (length weights < 32) × IsWeight weight × (list_any (λ w. w.prn == weight.prn) weights ≡ false)
WeighsNew weights _ = ⊥

-- what was said is in its range
pub record IsRanged (draft : Draft) : Type 0 where
  pub mask : IfSome draft.mask (IsDecimalBetween (whole (neg_ℤ (pos 90))) (whole (pos 90)))
  pub alert : IfSome draft.alert IsLength
  pub biases : All IsLength draft.biases.items
  pub weights : All IsWeight draft.weights.items
  pub differ : AllPairs (λ before after. before.prn ≢ after.prn) draft.weights.items

-- the draft is what these entries say
pub record IsDraft (draft : Draft) (entries : List Entry) : Type 0 where
  pub leap : filter_map leap_in entries ≡ option_to_list draft.leap
  pub mask : filter_map mask_in entries ≡ option_to_list draft.mask
  pub alert : filter_map alert_in entries ≡ option_to_list draft.alert
  pub mode : filter_map mode_in entries ≡ option_to_list draft.mode
  pub biases : filter_map bias_in entries ≡ draft.biases.items
  pub weights : filter_map weight_in entries ≡ draft.weights.items
  pub ranges : IsRanged draft

-- new is old with one more line, which says the entry
pub record IsAfter (old : Draft) (entry : Entry) (new : Draft) : Type 0 where
  pub leap : option_to_list new.leap ≡ option_to_list old.leap ++ option_to_list (leap_in entry)
  pub mask : option_to_list new.mask ≡ option_to_list old.mask ++ option_to_list (mask_in entry)
  pub alert : option_to_list new.alert ≡ option_to_list old.alert ++ option_to_list (alert_in entry)
  pub mode : option_to_list new.mode ≡ option_to_list old.mode ++ option_to_list (mode_in entry)
  pub biases : new.biases.items ≡ old.biases.items ++ option_to_list (bias_in entry)
  pub weights : new.weights.items ≡ old.weights.items ++ option_to_list (weight_in entry)

-- detection where no mode is said
abbrev pub excludes : Option Bool → Bool
excludes None = false
excludes (Some exclude) = exclude

-- the limits that a draft has
pub record IsBuilt (draft : Draft) (limits : Limits) : Type 0 where
  pub leap : draft.leap ≡ Some limits.leap
  pub mask : draft.mask ≡ Some limits.mask
  pub alert : draft.alert ≡ Some limits.alert_mm
  pub mode : limits.exclude ≡ excludes draft.mode
  pub biases : limits.bias_mm.items ≡ draft.biases.items
  pub some_bias : 0 < length draft.biases.items
  pub weights : IsPermutation draft.weights.items limits.weights.items
  pub rising : IsSortedByKey (λ weight. weight.prn) nat_cmp limits.weights.items

-- these limits are what the entries say
pub record AreSaid (entries : List Entry) (limits : Limits) : Type 0 where
  pub said : IsSaid entries limits
  pub ranges : IsLimits limits
