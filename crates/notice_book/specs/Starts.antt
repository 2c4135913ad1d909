-- The paths that a keeper is started with.
use Rattle.std.specs.Prelude.{List, [], ◌∷◌, ◌++◌, Option, option_map}
use Rattle.text_lines.specs.Lines.{Text}

-- the paths where a keeper tells them, and this one behind them
abbrev pub started_with : Text → Option (List Text) → Option (List Text)
started_with path told = option_map (λ paths. paths ++ path ∷ []) told
