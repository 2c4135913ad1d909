-- How many records there are, against how many the almanac says it has.
use Rattle.std.specs.Prelude.{◌≡◌, ◌≤◌, ◌+◌, ◌==◌, ℕ, Option, Some, None, Result, Ok, nat_le, nat_lt, if◌then◌else◌}
use Rattle.raim_model.specs.declared.TextWhy.{TextWhy}
use Rattle.raim_model.specs.declared.TextWhy.TheVariants.{Short, CountDiffers}
use Rattle.text_lines.specs.Fields.{unless}

-- a further record behind so many, where the almanac has fewer than it says; there is one more than it says otherwise
abbrev pub further : Option ℕ → ℕ → Result ℕ TextWhy
further None n = Ok n
further (Some said) n = unless (nat_le said n) (CountDiffers said (said + 1)) (Ok n)

-- the end behind so many: there is none, or there are fewer than the almanac says
abbrev pub count_end : Option ℕ → ℕ → Option TextWhy
count_end None n = if n == 0 then Some Short else None
count_end (Some said) n = if nat_lt n said then Some (CountDiffers said n) else None

-- there is one, or there are as many as the almanac says
abbrev pub IsCount : Option ℕ → ℕ → Type 0
IsCount None n = 1 ≤ n
IsCount (Some said) n = n ≡ said
