pub mod Casts
pub mod Eighths
pub mod Turned
pub mod Wholes
