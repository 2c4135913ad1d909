-- What the verdicts that are asked for are held against.
use Rattle.piece_verdict.specs.declared.Alert.{Alert}
use Rattle.piece_verdict.specs.declared.Alert.TheVariants.{Horizontal, Vertical}
use Rattle.command_words.specs.Asked.{Asked}
use Rattle.command_words.specs.Asked.Asked.{Prediction, Demonstration, PredictionUp}

-- the alert limit of the limits, or the vertical one that was given
abbrev pub alert_of : Asked → Alert
alert_of (Prediction paths) = Horizontal
alert_of (Demonstration number) = Horizontal
alert_of (PredictionUp paths vertical_mm) = Vertical vertical_mm
