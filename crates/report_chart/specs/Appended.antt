-- A text that grew at its end.
use Rattle.std.specs.Prelude.{◌≡◌, ◌++◌}
use Rattle.text_lines.specs.Lines.{Text}

-- by something of which P holds
abbrev pub Appended : (Text → Type 0) → Text → Text → Type 0
Appended P old new = (more : Text) × P more × (new ≡ old ++ more)
