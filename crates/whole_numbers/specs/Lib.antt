pub mod Algebra
pub mod Rounding
pub mod Corners
pub mod Root
