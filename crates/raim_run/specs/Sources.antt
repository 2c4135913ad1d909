-- What is read for what the words ask: the files of a prediction, or the four texts of a demonstration.
use Rattle.std.specs.Prelude.{ℕ, codes}
use Rattle.std.specs.declared.option.Option.{Option}
use Rattle.std.specs.declared.option.Option.TheVariants.{Some}
use Rattle.raim_base.specs.MemDeskState.{Each, text_of}
use Rattle.raim_base.specs.Paths.{file_named}
use Rattle.text_lines.specs.Lines.{Text}
use Rattle.demo_texts.specs.Demo.{demo_limits, demo_almanac, demo_outages, demo_route}
use Rattle.command_words.specs.Asked.{Asked}
use Rattle.command_words.specs.Asked.Asked.{Prediction, Demonstration, PredictionUp}

-- the texts of a demonstration, and their names
abbrev pub demo_texts : ℕ → Each Text
demo_texts number = record { limits = demo_limits; almanac = demo_almanac number; outages = demo_outages; route = demo_route }

abbrev pub demo_names : Each Text
demo_names = record { limits = codes "limits"; almanac = codes "almanac"; outages = codes "outages"; route = codes "route" }

-- the paths of the four files
abbrev pub paths_of : Asked → Each Text
paths_of (Prediction paths) = paths
paths_of (Demonstration number) = demo_names
paths_of (PredictionUp paths vertical_mm) = paths

-- what each path holds: for a prediction what the desk says that it holds, where it tells it
abbrev pub told_of : Asked → (Text → Option Text) → Text → Option Text
told_of (Prediction paths) holds path = holds path
told_of (Demonstration number) holds path = Some (text_of (demo_texts number) (file_named path))
told_of (PredictionUp paths vertical_mm) holds path = holds path
