pub mod Vectors
pub mod Steps
pub mod Along
