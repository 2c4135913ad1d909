pub mod Views
pub mod Shorts
pub mod Lines
pub mod Sums
