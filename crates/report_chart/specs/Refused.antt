-- A line of any bytes, as text of a page in plain ASCII.
use Rattle.std.specs.Prelude.{◌==◌, ◌&&◌, ℕ, nat_le, nat_lt, [], ◌∷◌, ◌++◌, codes, if◌then◌else◌}
use Rattle.std.specs.List.{flat_map}
use Rattle.text_lines.specs.Lines.{Text}

-- `&`, `<`, `>` and `"` as their entities, and `?` for a byte that is not printable ASCII
abbrev pub escaped_byte : ℕ → Text
escaped_byte b =
    if b == 38 then codes "&amp;"
    else (if b == 60 then codes "&lt;"
    else (if b == 62 then codes "&gt;"
    else (if b == 34 then codes "&quot;"
    else (if nat_le 32 b && nat_lt b 127 then b ∷ [] else codes "?"))))

-- the paragraph of a line
abbrev pub reason_text : Text → Text
reason_text line = codes "<p>" ++ flat_map escaped_byte line ++ codes "\n"
