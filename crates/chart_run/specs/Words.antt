-- The words of the command line: the program's name, and the path of the file.
use Rattle.std.specs.Prelude.{List, [], ◌∷◌}
use Rattle.std.specs.declared.option.Option.{Option}
use Rattle.std.specs.declared.option.Option.TheVariants.{Some, None}
use Rattle.text_lines.specs.Lines.{Text}

-- the path that two words name; other words name none
abbrev pub path_in : List Text → Option Text
path_in (program ∷ report ∷ []) = Some report
path_in words = None
