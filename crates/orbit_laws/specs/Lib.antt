pub mod Angles
pub mod Elements
pub mod Sizes
pub mod Positions
