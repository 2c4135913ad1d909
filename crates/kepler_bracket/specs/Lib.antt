pub mod Eccentricities
pub mod Turns
