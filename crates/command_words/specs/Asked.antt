-- What the words of a command line ask for. The second word chooses the command; the first and those from the third on are
-- what `clap` reads, by its function of the words of a simple command.
use Rattle.std.specs.Prelude.{ℕ, List, [], ◌∷◌, Option, Some, None, option_map, codes, if◌then◌else◌}
use Rattle.std.specs.Str.{bytes_eq}
use Rattle.std.specs.Str.Parse.{digits_value, without_leading_plus}
use Rattle.clap.specs.Words.{App, Row, fault_of, matches_of, first_of, without_minus}
use Rattle.raim_base.specs.MemDeskState.{Each}
use Rattle.text_lines.specs.Lines.{Text}
use Rattle.command_words.specs.declared.request.Request.{Request}
use Rattle.command_words.specs.declared.request.Request.TheVariants as request
use Rattle.command_words.specs.Commands.{predict_app, demo_app}

-- a prediction, from the files under these paths; the demonstration of that number; or a prediction of the vertical verdicts, under
-- that vertical alert limit in millimetres
pub data Asked : Type 0 where
  Prediction : Each Text → Asked
  Demonstration : ℕ → Asked
  PredictionUp : Each Text → ℕ → Asked

-- the matches of the words, where `clap` accepts them
abbrev pub matched_if : {A : Type 0} → List A → List Row → Option (List Row)
matched_if [] rows = Some rows
matched_if (fault ∷ faults) rows = None

abbrev pub matched_by : App → List Text → Option (List Row)
matched_by app words = matched_if (fault_of app words) (matches_of app words)

abbrev pub four_paths : Option Text → Option Text → Option Text → Option Text → Option Asked
four_paths (Some limits) (Some almanac) (Some outages) (Some route) =
    Some (Prediction (record { limits = limits; almanac = almanac; outages = outages; route = route }))
four_paths _ _ _ _ = None

abbrev pub paths_in : List Row → Option Asked
paths_in rows = four_paths (first_of (codes "limits") rows) (first_of (codes "almanac") rows) (first_of (codes "outages") rows) (first_of (codes "route") rows)

-- the number that digits write, with or without a plus
abbrev pub number_from : Text → ℕ
number_from text = digits_value 10 (without_leading_plus text)

-- the number that a text of digits writes; a minus before them, which only a zero may have, is passed over
abbrev pub number_written : Text → ℕ
number_written text = number_from (without_minus text)

abbrev pub number_in : List Row → Option Asked
number_in rows = option_map (λ text. Demonstration (number_written text)) (first_of (codes "number") rows)

abbrev pub asked_in : (List Row → Option Asked) → Option (List Row) → Option Asked
asked_in read None = None
asked_in read (Some rows) = read rows

abbrev pub prediction_of : List Text → Option Asked
prediction_of words = asked_in paths_in (matched_by predict_app words)

abbrev pub demonstration_of : List Text → Option Asked
demonstration_of words = asked_in number_in (matched_by demo_app words)

-- what the words ask for; they ask for nothing where `clap` refuses them, or the second is no command
abbrev pub asked_of : List Text → Option Asked
asked_of (name ∷ command ∷ rest) =
    if bytes_eq command (codes "predict") then prediction_of (name ∷ rest)
    else (if bytes_eq command (codes "demo") then demonstration_of (name ∷ rest) else None)
asked_of _ = None

-- what a request asks for
abbrev pub asked_by : Request → Asked
asked_by (request.Predict limits almanac outages route) =
    Prediction (record { limits = limits.now; almanac = almanac.now; outages = outages.now; route = route.now })
asked_by (request.Demo number) = Demonstration number
asked_by (request.PredictUp limits almanac outages route vertical) =
    PredictionUp (record { limits = limits.now; almanac = almanac.now; outages = outages.now; route = route.now }) vertical.mm
