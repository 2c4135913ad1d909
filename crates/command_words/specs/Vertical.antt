-- What the words of `raim_vert` ask for.
use Rattle.std.specs.Prelude.{◌||◌, ℕ, List, [], ◌∷◌, Option, Some, None, option_map, nat_lt, if◌then◌else◌}
use Rattle.text_lines.specs.Lines.{Text}
use Rattle.text_lines.specs.WholeNumber.{whole_of}
use Rattle.command_words.specs.declared.program.Program.{Program}
use Rattle.command_words.specs.declared.program.Program.TheVariants.{Raim, RaimVert}
use Rattle.command_words.specs.Asked.{Asked, asked_of}
use Rattle.command_words.specs.Asked.Asked.{PredictionUp}

-- a vertical alert limit, in millimetres
abbrev pub limit_from : Option ℕ → Option ℕ
limit_from None = None
limit_from (Some mm) = if nat_lt mm 1 || nat_lt 1000000000 mm then None else Some mm

-- the word of a vertical alert limit: a whole number from 1 to 1000000000
abbrev pub limit_in : Text → Option ℕ
limit_in word = limit_from (whole_of word)

-- `LIMITS ALMANAC OUTAGES ROUTE VERTICAL`, whatever the first word is
abbrev pub vertical_asked_of : List Text → Option Asked
vertical_asked_of (name ∷ limits ∷ almanac ∷ outages ∷ route ∷ vertical ∷ []) =
    option_map (PredictionUp (record { limits = limits; almanac = almanac; outages = outages; route = route })) (limit_in vertical)
vertical_asked_of _ = None

-- what the words of a program ask for
abbrev pub asked_for : Program → List Text → Option Asked
asked_for Raim words = asked_of words
asked_for RaimVert words = vertical_asked_of words
