pub mod Weights
pub mod Masks
pub mod Records
pub mod Stretches
pub mod Looks
pub mod Choices
pub mod Forecasts
