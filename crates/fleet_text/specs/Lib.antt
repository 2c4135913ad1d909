pub mod Routes
pub mod Fleet
