-- A file of several routes, which `---` lines part.
use Rattle.std.specs.Prelude.{◌==◌, ◌-◌, ℕ, Bool, false, List, [], ◌∷◌, ◌++◌, if◌then◌else◌}
use Rattle.std.specs.declared.option.Option.{Option}
use Rattle.std.specs.declared.option.Option.TheVariants.{Some, None}
use Rattle.text_lines.specs.Lines.{Text, lines_of}
use Rattle.text_lines.specs.Reading.{number_after}
use Rattle.report_text.specs.ReportLines.{pieces_of}
use Rattle.alm_reader.specs.Almanacs.{is_separator}

abbrev pub is_first_separator : List Text → Bool
is_first_separator [] = false
is_first_separator (line ∷ lines) = is_separator line

-- a line of the file, which its line feed ends or the file, has no bytes but blanks and `---`
abbrev pub is_parting : Text → Bool
is_parting piece = is_first_separator (lines_of piece)

abbrev pub onto_route : Text → List Text → List Text
onto_route piece [] = piece ∷ []
onto_route piece (route ∷ routes) = (piece ++ route) ∷ routes

-- a `---` line ends a route, and another begins behind it
abbrev pub routes_in : List Text → List Text
routes_in [] = [] ∷ []
routes_in (piece ∷ pieces) = if is_parting piece then [] ∷ routes_in pieces else onto_route piece (routes_in pieces)

-- The routes of a file, each with its line feeds: one more than its `---` lines.
abbrev pub routes_of : Text → List Text
routes_of text = routes_in (pieces_of text)

-- the most routes of a file
abbrev pub most_routes : ℕ
most_routes = 64

-- the number of the `---` line that has so many `---` lines before it; `last` is the number of the line before these
abbrev pub parting_after : (before last : ℕ) → List Text → Option ℕ
parting_after before last [] = None
parting_after before last (piece ∷ pieces) =
    if is_parting piece then (if before == 0 then Some (number_after last) else parting_after (before - 1) (number_after last) pieces)
    else parting_after before (number_after last) pieces

-- The number of the line of a file that begins one route too many: its 64th `---` line.
abbrev pub excess_line : Text → Option ℕ
excess_line text = parting_after (most_routes - 1) 0 (pieces_of text)
