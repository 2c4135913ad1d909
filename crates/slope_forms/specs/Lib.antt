pub mod Told
pub mod Slopes
