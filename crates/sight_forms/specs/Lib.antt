pub mod Views
pub mod Sights
