pub mod Nest
pub mod Bracket
pub mod Units
pub mod Turns
pub mod Waves
pub mod Slow
pub mod Pairs
pub mod Periods
