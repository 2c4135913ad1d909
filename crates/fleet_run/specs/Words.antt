-- The words of the command line: the program's name, and the paths of the four files.
use Rattle.std.specs.Prelude.{List, [], ◌∷◌}
use Rattle.std.specs.declared.option.Option.{Option}
use Rattle.std.specs.declared.option.Option.TheVariants.{Some, None}
use Rattle.raim_base.specs.MemDeskState.{Each}
use Rattle.text_lines.specs.Lines.{Text}

-- the paths that five words name; other words name none
abbrev pub paths_in : List Text → Option (Each Text)
paths_in (program ∷ limits ∷ almanac ∷ outages ∷ routes ∷ []) =
    Some (record { limits = limits; almanac = almanac; outages = outages; route = routes })
paths_in words = None
