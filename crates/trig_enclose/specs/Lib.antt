pub mod Views
pub mod Quarters
