pub mod Pairs
pub mod Vectors
pub mod Checked
