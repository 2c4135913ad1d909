-- Bytes that are not a mark.
use Rattle.std.specs.Prelude.{◌==◌, ℕ, Bool, not}

-- the byte is another one than the mark
abbrev pub is_other : ℕ → ℕ → Bool
is_other mark b = not (b == mark)
