pub mod Minors
pub mod Adjugates
pub mod Rows
pub mod Grams
pub mod Bounds
