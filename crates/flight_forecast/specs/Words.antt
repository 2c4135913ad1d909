-- The words of what a forecast says, from one place.
pub use Rattle.case_laws.specs.Forecast.{InRun, LiesInRun, IsForecast}
pub use Rattle.case_laws.specs.PieceVerdict.{piece_verdict_of}
pub use Rattle.flight_forecast.specs.Alerts.{verdict_against, HasVerdictAgainst}
pub use Rattle.verdict_laws.specs.NearMask.{IsNearMaskAlways}
pub use Rattle.piece_verdict.specs.Cases.{case_of}
