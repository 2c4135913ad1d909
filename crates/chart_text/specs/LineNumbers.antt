-- The numbers of lines in a text of several parts.
use Rattle.std.specs.Prelude.{◌+◌, ◌-◌, ◌^◌, ◌==◌, min, ℕ, Bool, length}
use Rattle.std.specs.List.{filter}
use Rattle.raim_model.specs.declared.Refusal.{Refusal}
use Rattle.raim_model.specs.declared.Refusal.TheVariants.{Memory, Text as Refused}
use Rattle.text_lines.specs.Lines.{Text}

abbrev pub is_feed : ℕ → Bool
is_feed b = b == 10

-- how many lines a line feed ends
abbrev pub lines_in : Text → ℕ
lines_in text = length (filter is_feed text)

-- the number that a line of this number has where so many lines stand before; it stops at 2^32 - 1
abbrev pub number_behind : (before line : ℕ) → ℕ
number_behind before line = min (before + line) (2 ^ 32 - 1)

-- a refusal by the number that its line has behind so many lines
abbrev pub refusal_behind : (before : ℕ) → Refusal → Refusal
refusal_behind before Memory = Memory
refusal_behind before (Refused fault) = Refused (record { line = number_behind before fault.line; why = fault.why })
