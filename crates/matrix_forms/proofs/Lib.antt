pub mod Shorts
pub mod Bounds
pub mod Rows
pub mod RowSums
