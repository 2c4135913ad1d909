-- What a verdict is held against, from one place.
pub use Rattle.piece_verdict.specs.Alerts.{IsAlert, shift_of, limit_of, verdict_against, HasVerdictAgainst, IsForecastAgainst}
