-- The most bytes that a file may have.
use Rattle.std.specs.Prelude.{ℕ}

-- in bytes: one mebibyte
abbrev pub longest_file : ℕ
longest_file = 1048576
