pub mod Fits
pub mod Steps
pub mod Turned
pub mod EccentricPairs
