pub mod Parts
pub mod Grams
pub mod Adjugates
