-- How contracts see what the program tells: as the definitions have it.
use Rattle.std.specs.Prelude.{◌≡◌, ◌⊎◌, Bool, true, false}
use Rattle.slope_forms.specs.Told.{Told, passing, failing, unknown}
use Rattle.list_forms.specs.declared.told.Told.{Told as Answer}
use Rattle.list_forms.specs.declared.told.Told.TheVariants.{Passing, Failing, Unknown}

abbrev pub told : Answer → Told
told Passing = passing
told (Failing why) = failing why
told Unknown = unknown

abbrev pub is_passing : Told → Bool
is_passing passing = true
is_passing t = false

abbrev pub is_failing : Told → Bool
is_failing (failing why) = true
is_failing t = false

-- nothing is told, or what is told is what the definition tells
abbrev pub IsOrUnknown : Told → Told → Type 0
IsOrUnknown t definition = (t ≡ unknown) ⊎ (t ≡ definition)
