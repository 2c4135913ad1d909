pub mod Covers
pub mod Cuts
pub mod ForecastAnswers
pub mod Forecasts
pub mod Printing
pub mod SplitFaults
